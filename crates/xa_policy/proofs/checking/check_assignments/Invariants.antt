use Rattle.std.proofs.Common.{◌≡◌, map, drop, ◌++◌}
use Rattle.std.specs.Prelude.{Ok}
use Rattle.xa_bag.specs.HigherOrder.{collected}
use Rattle.xa_expr.specs.Variables.{kinds}
use Rattle.xa_policy.specs.Checking.{checked_assignment}
use Rattle.xa_policy.specs.Policy.{AreAssignments}
use Rattle.xa_policy.proofs.checking.check_assignments.Given as goal

-- those done and what the rest come to are all, and those done have their kinds
abbrev pub invariant-loop-assignment : goal.invariant-loop-assignment
invariant-loop-assignment l =
    (collected (map Ok l.all ++ map (checked_assignment l.variables) (drop l.assignment-index l.assignments)) ≡ collected (map (checked_assignment l.variables) l.assignments))
    × AreAssignments (kinds l.variables) l.all
