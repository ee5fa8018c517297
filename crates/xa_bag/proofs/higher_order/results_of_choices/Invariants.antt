use Rattle.std.proofs.Common.{◌≡◌, true, ◌++◌, map, length}
use Rattle.std.specs.Prelude.{Ok}
use Rattle.xa_bag.specs.HigherOrder.{choices, outcome, collected}
use Rattle.xa_bag.specs.Choosing.{from_found, AreAllChosen}
use Rattle.xa_bag.proofs.higher_order.results_of_choices.Given as goal

-- what the choices that are left give is still to be put
abbrev pub invariant-loop-is_left : goal.invariant-loop-is_left
invariant-loop-is_left g l =
    let given = map (λ vs. outcome (g.F.Inner.gives l.function vs)) in
    (collected (map Ok l.results.values ++ given (from_found l.is_left l.chosen.items l.places.items l.arguments))
    ≡ collected (map Ok l.fn.results.values ++ given (choices l.arguments)))
    × (l.is_left ≡ true → AreAllChosen l.chosen.items l.places.items l.arguments)
    × (l.results.data_type ≡ l.fn.results.data_type)

abbrev pub decreases-loop-is_left : goal.decreases-loop-is_left
decreases-loop-is_left g l = length (from_found l.is_left l.chosen.items l.places.items l.arguments)
