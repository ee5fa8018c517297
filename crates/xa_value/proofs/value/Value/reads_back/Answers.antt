use Rattle.xa_value.proofs.RoundTripLemmas.{reads_back_at}
use Rattle.xa_value.proofs.value.Value.reads_back.Goals as goal

pub returns : goal.returns
returns c = reads_back_at c.args.data_type c.args.text.now (λ i. (c.type_inv.text i).fits)
