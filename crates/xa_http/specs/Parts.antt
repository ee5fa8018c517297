-- Parts of a text.
use Rattle.std.specs.Prelude.{ℕ, ◌==◌, List, Option, option_map, take, drop, position}
use Rattle.std.specs.List.{slice_split}
use Rattle.std.specs.Option.{option_map_or}

-- the parts of a text, a byte of that value between two
abbrev pub parts_of : ℕ → List ℕ → List (List ℕ)
parts_of by text = slice_split (λ b. b == by) text

-- the bytes before the first b, or all of them
abbrev pub before : ℕ → List ℕ → List ℕ
before b text = option_map_or (λ i. take i text) (position (λ x. x == b) text) text

-- the bytes from the first b on, if there is one
abbrev pub from_first : ℕ → List ℕ → Option (List ℕ)
from_first b text = option_map (λ i. drop i text) (position (λ x. x == b) text)
