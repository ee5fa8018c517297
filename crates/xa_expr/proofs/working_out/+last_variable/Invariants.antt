use Rattle.std.proofs.Common.{◌≡◌, max, map, drop}
use Rattle.xa_expr.specs.Results.{greatest, reach, up_to}
use Rattle.xa_expr.proofs.working_out.+last_variable.Given as goal

-- the last so far and those of the rest reach as far as all
abbrev pub invariant-last_of_all-loop-expression : goal.invariant-last_of_all-loop-expression
invariant-last_of_all-loop-expression g l =
    max (up_to l.last) (greatest (map reach (drop l.expression-index l.expressions))) ≡ greatest (map reach l.expressions)
