use Rattle.xa_value.proofs.OrderLemmas.{same_is_equivalence}
use Rattle.xa_value.proofs.value.Value.same.Goals as goal

pub returns-in-String-String-clause-law : goal.returns-in-String-String-clause-law
returns-in-String-String-clause-law c = same_is_equivalence

pub returns-in_default-clause-law : goal.returns-in_default-clause-law
returns-in_default-clause-law c = same_is_equivalence
