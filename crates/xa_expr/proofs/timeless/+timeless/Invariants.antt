use Rattle.std.proofs.Common.{◌≡◌, map, flat_map, drop}
use Rattle.xa_expr.specs.Designators.{designators}
use Rattle.xa_expr.specs.Timeless.{is_timeless}
use Rattle.xa_expr.proofs.timeless.+timeless.Given as goal

-- whether all are is whether the rest are
abbrev pub invariant-expressions_are_timeless-loop-expression : goal.invariant-expressions_are_timeless-loop-expression
invariant-expressions_are_timeless-loop-expression l =
    is_timeless (flat_map (λ ds. ds) (map designators (drop l.expression-index l.expressions)))
    ≡ is_timeless (flat_map (λ ds. ds) (map designators l.expressions))
