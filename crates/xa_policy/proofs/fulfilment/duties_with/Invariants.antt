use Rattle.std.proofs.Common.{◌≡◌, drop}
use Rattle.xa_expr.specs.Evaluation.{value_of}
use Rattle.xa_expr.specs.Variables.{kinds}
use Rattle.xa_policy.specs.Duties.{duties_with}
use Rattle.xa_policy.specs.Policy.{AreDuties}
use Rattle.xa_policy.proofs.FulfilmentLemmas.{duties_behind}
use Rattle.xa_policy.proofs.fulfilment.duties_with.Given as goal

-- the evaluator is as it was, the rest are typed, and those of them that belong to the effect stand behind the duties so far
abbrev pub invariant-loop-expression : goal.invariant-loop-expression
invariant-loop-expression g l =
    (l.evaluator ≡ l.fn.evaluator)
    × AreDuties (kinds l.fn.evaluator.1) (drop l.expression-index l.expressions)
    × (duties_behind l.duties.items (value_of (g.C.Context.values_of l.fn.evaluator.0) l.fn.evaluator.1) l.effect (drop l.expression-index l.expressions)
    ≡ duties_with (value_of (g.C.Context.values_of l.fn.evaluator.0) l.fn.evaluator.1) l.effect l.expressions)
