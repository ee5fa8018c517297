-- How a list of at most eight items is kept without taking memory: in a room of eight places.
use Rattle.std.specs.Prelude.{◌≡◌, ℕ, ◌-◌, ◌≤◌, List, ◌++◌, length, take, drop, replicate}
use Rattle.std.proofs.Common.{sym, ap, subst, ◌∙◌}
use Rattle.std.proofs.lemmas.List.{take-append-drop, length-take-le}

-- `count` items are in the first places, and `filler` in each place after them
pub record IsRoom {X : Type 0} (filler : X) (places : List X) (count : ℕ) : Type 0 where
  pub size : length places ≡ 8
  pub within : count ≤ 8
  pub rest : drop count places ≡ replicate (8 - count) filler

-- the items give the room back
pub room_given_back : {X : Type 0} (filler : X) (places : List X) (count : ℕ) → IsRoom filler places count
    → (length (take count places) ≡ count) × (take count places ++ replicate (8 - count) filler ≡ places)
room_given_back filler places count room = (
  length-take-le count places (subst (λ size. count ≤ size) (sym room.size) room.within),
  ap (λ rest. take count places ++ rest) (sym room.rest) ∙ take-append-drop count places,
)
