use Rattle.xa_expr.proofs.WorkingOutLemmas.{kind_copied}
use Rattle.xa_expr.proofs.scope.Scope.variable.Goals as goal

pub returns-clause-typed : goal.returns-clause-typed
returns-clause-typed g c = kind_copied _ _ _ _ _ c.requires c.in-Some.ensures.lookup.3.0 c.in-Some.ensures.lookup.1 c.outcome_copy.ensures
