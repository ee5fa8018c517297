-- Shapes and digits that the readers look for.
use Rattle.std.specs.Prelude.{ℕ, ◌+◌, ◌-◌, ◌*◌, Bool, true, false, ◌&&◌}
use Rattle.std.specs.Prelude.{◌==◌, if◌then◌else◌, List, [], ◌∷◌, slice_index}
use Rattle.std.specs.List.{prefix_len}
use Rattle.std.specs.Char.{is_ascii_digit}

-- the text begins with the character
abbrev pub begins_with : ℕ → List ℕ → Bool
begins_with c [] = false
begins_with c (d ∷ ds) = c == d

-- a character of a shape stands for itself, and 9 for any digit
abbrev pub fits_place : ℕ → ℕ → Bool
fits_place place c = if place == 57 then is_ascii_digit c else place == c

-- the text begins with characters of the shape
unfoldable pub has_shape : List ℕ → List ℕ → Bool
has_shape [] text = true
has_shape (place ∷ places) [] = false
has_shape (place ∷ places) (c ∷ cs) = fits_place place c && has_shape places cs

-- the number of the two digits at a place of the text
abbrev pub two_digits : List ℕ → ℕ → ℕ
two_digits text at = (slice_index text at - 48) * 10 + (slice_index text (at + 1) - 48)

-- how many digits the text begins with
abbrev pub digit_count : List ℕ → ℕ
digit_count text = prefix_len is_ascii_digit text
