use Rattle.std.proofs.Common.{◌≡◌, ◌-◌, length}
use Rattle.xa_bag.specs.HigherOrder.{choices}
use Rattle.xa_bag.specs.Choosing.{left, AreChosen}
use Rattle.xa_bag.proofs.choosing.choose_firsts.Given as goal

-- nothing is lost of what is left
abbrev pub invariant-loop-chosen : goal.invariant-loop-chosen
invariant-loop-chosen l =
    AreChosen l.chosen.items l.places.items l.arguments
    × (left choices l.chosen.items l.places.items l.arguments ≡ left choices l.fn.chosen.items l.fn.places.items l.arguments)

abbrev pub decreases-loop-chosen : goal.decreases-loop-chosen
decreases-loop-chosen l = length l.arguments - length l.chosen.items
