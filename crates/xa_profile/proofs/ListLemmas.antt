-- A loop's step over a list.
use Rattle.std.proofs.Common.{◌≡◌, ℕ, ◌+◌, ◌<◌, List, ◌∷◌, length, get_or, drop, add-one, drop-cons}

-- the item at the index, and those behind it
pub walked_at : {X : Type 0} (xs : List X) (i : ℕ) (d : X) → i < length xs → drop i xs ≡ get_or xs i d ∷ drop (i + 1) xs
walked_at xs i d within = rw add-one (drop-cons xs i d within)
