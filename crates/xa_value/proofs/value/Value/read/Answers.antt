-- What the reader of the type answers is what the type's grammar says.
use Rattle.xa_value.proofs.ReadingLemmas.{reading_at}
use Rattle.xa_value.proofs.value.Value.read.Goals as goal

pub returns-clause-grammar : goal.returns-clause-grammar
returns-clause-grammar c = reading_at c.args.data_type c.args.text.now (λ i. (c.type_inv.text i).fits)
