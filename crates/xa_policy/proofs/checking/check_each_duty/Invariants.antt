use Rattle.std.proofs.Common.{◌≡◌, map, drop, ◌++◌}
use Rattle.std.specs.Prelude.{Ok}
use Rattle.xa_bag.specs.HigherOrder.{collected}
use Rattle.xa_expr.specs.Variables.{kinds}
use Rattle.xa_policy.specs.Checking.{checked_duty}
use Rattle.xa_policy.specs.Policy.{AreDuties}
use Rattle.xa_policy.proofs.checking.check_each_duty.Given as goal

-- those done and what the rest come to are all, and those done have their kinds
abbrev pub invariant-loop-duty : goal.invariant-loop-duty
invariant-loop-duty l =
    (collected (map Ok l.all ++ map (checked_duty l.variables) (drop l.duty-index l.duties)) ≡ collected (map (checked_duty l.variables) l.duties))
    × AreDuties (kinds l.variables) l.all
