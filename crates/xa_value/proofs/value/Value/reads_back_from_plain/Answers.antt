use Rattle.xa_value.proofs.PlainLemmas.{plain_back_at}
use Rattle.xa_value.proofs.value.Value.reads_back_from_plain.Goals as goal

pub returns : goal.returns
returns c = plain_back_at c.args.data_type c.args.text.now (λ i. (c.type_inv.text i).fits)
