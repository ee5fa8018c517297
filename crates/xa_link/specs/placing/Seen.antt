-- What a pattern sees of versions: of all that match it one and the same, and of no other.
use Rattle.std.specs.Prelude.{ℕ, List, [], ◌∷◌, Option, Some, None}
use Rattle.xa_policy.specs.declared.pattern.PatternPart.{PatternPart}
use Rattle.xa_policy.specs.declared.pattern.PatternPart.TheVariants.{Number, AnyNumber, AnyNumbers}

-- what a part of a pattern sees of a number: a wildcard sees all numbers alike
abbrev pub number_seen : PatternPart → ℕ → ℕ
number_seen (Number m) n = n
number_seen AnyNumber n = 0
number_seen AnyNumbers n = 0

-- what a part of a pattern sees of a number that it matches
abbrev pub number_wanted : PatternPart → ℕ
number_wanted (Number m) = m
number_wanted AnyNumber = 0
number_wanted AnyNumbers = 0

-- what a pattern sees of a version: its numbers, up to the end of the pattern or to `+`, and 0 for those that follow
-- the end
abbrev pub seen : List PatternPart → List ℕ → List ℕ
seen [] [] = []
seen [] (n ∷ ns) = 0 ∷ []
seen (part ∷ parts) [] = []
seen (Number m ∷ parts) (n ∷ ns) = n ∷ seen parts ns
seen (AnyNumber ∷ parts) (n ∷ ns) = 0 ∷ seen parts ns
seen (AnyNumbers ∷ parts) (n ∷ ns) = 0 ∷ []

-- what a pattern sees of each version that it matches, and of no other
abbrev pub wanted : List PatternPart → List ℕ
wanted [] = []
wanted (Number m ∷ parts) = m ∷ wanted parts
wanted (AnyNumber ∷ parts) = 0 ∷ wanted parts
wanted (AnyNumbers ∷ parts) = 0 ∷ []

-- what a pattern sees of a version; without one all versions look alike
abbrev pub seen_by : Option (List PatternPart) → List ℕ → List ℕ
seen_by None v = []
seen_by (Some pattern) v = seen pattern v

-- what a pattern sees of each version that it matches; without one all versions match
abbrev pub wanted_by : Option (List PatternPart) → List ℕ
wanted_by None = []
wanted_by (Some pattern) = wanted pattern
