-- White space, and the numbers that digits write (XML Schema, part 2, sections 2.3 and 4.3.6).
use Rattle.std.specs.Prelude.{ℕ, zero, suc, ◌+◌, ◌-◌, ◌*◌, ◌/◌, ◌%◌, Bool, ◌||◌, ◌==◌}
use Rattle.std.specs.Prelude.{if◌then◌else◌, List, [], ◌∷◌, ◌++◌, reverse, ℤ, pos, neg_ℤ}

-- space, tab, carriage return and line feed
abbrev pub is_blank : ℕ → Bool
is_blank c = (c == 32) || (c == 9) || (c == 13) || (c == 10)

-- the text without the white space that it begins with
unfoldable pub trimmed_start : List ℕ → List ℕ
trimmed_start [] = []
trimmed_start (c ∷ cs) = if is_blank c then trimmed_start cs else c ∷ cs

-- the text without the white space that it ends with
unfoldable pub trimmed_end : List ℕ → List ℕ
trimmed_end text = reverse (trimmed_start (reverse text))

-- the text without white space at its ends
abbrev pub trimmed : List ℕ → List ℕ
trimmed text = trimmed_end (trimmed_start text)

-- the number that digits write after those of n
unfoldable pub number_after : ℕ → List ℕ → ℕ
number_after n [] = n
number_after n (d ∷ ds) = number_after (n * 10 + (d - 48)) ds

-- the number that digits write: of digits alone it is std's `digits_value 10`, by which `Digits` goes
abbrev pub number : List ℕ → ℕ
number digits = number_after 0 digits

-- a magnitude and its sign
abbrev pub with_sign : Bool → ℕ → ℤ
with_sign negative n = if negative then neg_ℤ (pos n) else pos n

-- a given number of the last digits of a number
unfoldable pub last_digits : ℕ → ℕ → List ℕ
last_digits zero n = []
last_digits (suc count) n = last_digits count (n / 10) ++ (48 + n % 10) ∷ []
