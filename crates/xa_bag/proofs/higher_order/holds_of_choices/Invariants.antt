use Rattle.std.proofs.Common.{◌≡◌, true, map, length}
use Rattle.xa_bag.specs.HigherOrder.{choices, holds}
use Rattle.xa_bag.specs.Quantifier.{settling}
use Rattle.xa_bag.specs.Choosing.{from_found, AreAllChosen}
use Rattle.xa_bag.proofs.JoiningLemmas.{verdict}
use Rattle.xa_bag.proofs.higher_order.holds_of_choices.Given as goal

-- the choices that are left decide for all
abbrev pub invariant-loop-is_left : goal.invariant-loop-is_left
invariant-loop-is_left g l =
    (verdict (settling l.fn.quantifier) (map (holds (g.F.Inner.gives l.function)) (from_found l.is_left l.chosen.items l.places.items l.arguments))
    ≡ verdict (settling l.fn.quantifier) (map (holds (g.F.Inner.gives l.function)) (choices l.arguments)))
    × (l.is_left ≡ true → AreAllChosen l.chosen.items l.places.items l.arguments)

abbrev pub decreases-loop-is_left : goal.decreases-loop-is_left
decreases-loop-is_left g l = length (from_found l.is_left l.chosen.items l.places.items l.arguments)
