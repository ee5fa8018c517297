use Rattle.std.proofs.Common.{◌≡◌, ◌+◌, ◌-◌, ◌*◌, map, drop, ◌++◌}
use Rattle.std.specs.Prelude.{Some, Ok}
use Rattle.xa_bag.specs.HigherOrder.{collected}
use Rattle.xa_expr.specs.Typed.{kind_of_typed, kind_under, all_there}
use Rattle.xa_expr.specs.Typing.{judged, arguments}
use Rattle.xa_expr.specs.Variables.{kinds}
use Rattle.xa_expr.proofs.checking.+checking.Given as goal

-- those done and what the rest come to are the arguments; and those done have their kinds
abbrev pub invariant-check_each-loop-argument : goal.invariant-check_each-loop-argument
invariant-check_each-loop-argument l =
    (collected (map Ok l.done ++ map (λ j. j.argument l.depth) (map (judged l.variables) (drop l.argument-index l.arguments)))
    ≡ arguments l.depth (map (judged l.variables) l.arguments))
    × (all_there (map (kind_under (kinds l.variables)) l.done) ≡ Some (map kind_of_typed l.done))

-- each expression stands one deeper than the one that it is in, and none is looked into past the last depth
abbrev pub decreases-check_at : goal.decreases-check_at
decreases-check_at l = 5 * (30 - l.depth) + 0

abbrev pub decreases-check_each : goal.decreases-check_each
decreases-check_each l = 5 * (30 - l.depth) + 1

abbrev pub decreases-check_first_order : goal.decreases-check_first_order
decreases-check_first_order l = 5 * (30 - l.depth) + 2

abbrev pub decreases-check_function_and_others : goal.decreases-check_function_and_others
decreases-check_function_and_others l = 5 * (30 - l.depth) + 2

abbrev pub decreases-check_higher_order : goal.decreases-check_higher_order
decreases-check_higher_order l = 5 * (30 - l.depth) + 3

abbrev pub decreases-check_apply : goal.decreases-check_apply
decreases-check_apply l = 5 * (30 - l.depth) + 4
