use Rattle.std.proofs.Common.{◌≡◌, drop}
use Rattle.xa_expr.specs.Evaluation.{value_of}
use Rattle.xa_expr.specs.Variables.{kinds}
use Rattle.xa_policy.specs.Duties.{all_assigned}
use Rattle.xa_policy.specs.Policy.{AreAssignments}
use Rattle.xa_policy.proofs.FulfilmentLemmas.{assigned_behind}
use Rattle.xa_policy.proofs.fulfilment.all_assignments.Given as goal

-- the evaluator is as it was, the rest are typed, and what they come to stands behind the assignments so far
abbrev pub invariant-loop-expression : goal.invariant-loop-expression
invariant-loop-expression g l =
    (l.evaluator ≡ l.fn.evaluator)
    × AreAssignments (kinds l.fn.evaluator.1) (drop l.expression-index l.expressions)
    × (assigned_behind l.assignments (value_of (g.C.Context.values_of l.fn.evaluator.0) l.fn.evaluator.1) (drop l.expression-index l.expressions)
    ≡ all_assigned (value_of (g.C.Context.values_of l.fn.evaluator.0) l.fn.evaluator.1) l.expressions)
