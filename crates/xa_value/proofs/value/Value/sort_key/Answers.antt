use Rattle.xa_value.proofs.OrderLemmas.{keys_tell_apart}
use Rattle.xa_value.proofs.value.Value.sort_key.Goals as goal

pub returns-clause-law : goal.returns-clause-law
returns-clause-law c = keys_tell_apart
