use Rattle.std.proofs.Common.{◌≤◌, ◌+◌, ◌-◌, max, length}
use Rattle.xa_expr.specs.Results.{AreFirst}
use Rattle.xa_expr.proofs.working_out.work_out.Given as goal

-- the results are those of the first definitions, and no more than those up to the place were added
abbrev pub invariant-loop-results : goal.invariant-loop-results
invariant-loop-results g l =
    AreFirst (g.C.Context.values_of l.context) l.definitions l.results.items
    × (length l.fn.results.items ≤ length l.results.items)
    × (length l.results.items ≤ max (length l.fn.results.items) (l.place + 1))
    × (length l.results.items ≤ max (length l.fn.results.items) (length l.definitions))

abbrev pub decreases-loop-results : goal.decreases-loop-results
decreases-loop-results g l = length l.definitions - length l.results.items
