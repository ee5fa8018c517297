-- A command line of no other number of words asks for something.
use Rattle.std.proofs.Common.{◌≡◌, ◌<◌, ◌≤◌, ℕ, List, [], ◌∷◌, length, map, None, refl, arith}
use Rattle.pdpd.specs.CommandLine.{command_of}

pub none_of_few : {X : Type 0} (read : X → List ℕ) (words : List X) → length words < 2 → None ≡ command_of (map read words)
none_of_few read [] few = refl
none_of_few read (a ∷ []) few = refl
none_of_few read (a ∷ b ∷ words) few = absurd (omega (arith, few))

pub none_of_four : {X : Type 0} (read : X → List ℕ) (words : List X) → length words ≡ 4 → None ≡ command_of (map read words)
none_of_four read [] four = absurd (omega (arith, four))
none_of_four read (a ∷ []) four = absurd (omega (arith, four))
none_of_four read (a ∷ b ∷ []) four = absurd (omega (arith, four))
none_of_four read (a ∷ b ∷ c ∷ []) four = absurd (omega (arith, four))
none_of_four read (a ∷ b ∷ c ∷ d ∷ []) four = refl
none_of_four read (a ∷ b ∷ c ∷ d ∷ e ∷ words) four = absurd (omega (arith, four))

pub none_of_many : {X : Type 0} (read : X → List ℕ) (words : List X) → 7 ≤ length words → None ≡ command_of (map read words)
none_of_many read [] many = absurd (omega (arith, many))
none_of_many read (a ∷ []) many = absurd (omega (arith, many))
none_of_many read (a ∷ b ∷ []) many = absurd (omega (arith, many))
none_of_many read (a ∷ b ∷ c ∷ []) many = absurd (omega (arith, many))
none_of_many read (a ∷ b ∷ c ∷ d ∷ []) many = absurd (omega (arith, many))
none_of_many read (a ∷ b ∷ c ∷ d ∷ e ∷ []) many = absurd (omega (arith, many))
none_of_many read (a ∷ b ∷ c ∷ d ∷ e ∷ f ∷ []) many = absurd (omega (arith, many))
none_of_many read (a ∷ b ∷ c ∷ d ∷ e ∷ f ∷ g ∷ words) many = refl
