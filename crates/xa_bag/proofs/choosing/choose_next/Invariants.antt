use Rattle.std.proofs.Common.{◌≡◌, length}
use Rattle.xa_bag.specs.Choosing.{left, no_choices, AreChosen}
use Rattle.xa_bag.proofs.choosing.choose_next.Given as goal

-- nothing is lost of what is left behind those chosen
abbrev pub invariant-loop-place : goal.invariant-loop-place
invariant-loop-place l =
    AreChosen l.chosen.items l.places.items l.arguments
    × (left no_choices l.chosen.items l.places.items l.arguments ≡ left no_choices l.fn.chosen.items l.fn.places.items l.arguments)

abbrev pub decreases-loop-place : goal.decreases-loop-place
decreases-loop-place l = length l.places.items
