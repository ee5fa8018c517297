-- Digits as they are written: what the shapes of numbers, times and durations are made of (XML Schema, part 2,
-- section 3.2.3.1).
use Rattle.std.specs.Prelude.{◌≡◌, ℕ, ◌<◌, Bool, true, List, [], ◌++◌, codes, length}
use Rattle.std.specs.Prelude.{nat_le, if◌then◌else◌, IsTrue, ⊤, Option, Some, None}
use Rattle.std.specs.List.{list_all}
use Rattle.std.specs.Char.{is_ascii_digit}
use Rattle.xa_value.specs.Lexical.{number}
use Rattle.xa_value.specs.Time.{nanoseconds}

-- digits alone, and at least one
abbrev pub IsNumeral : List ℕ → Type 0
IsNumeral digits = (0 < length digits) × IsTrue (list_all is_ascii_digit digits)

-- digits alone, this many
abbrev pub IsDigits : ℕ → List ℕ → Type 0
IsDigits size digits = (length digits ≡ size) × IsTrue (list_all is_ascii_digit digits)

-- a numeral, or none
abbrev pub IsOptionalNumeral : Option (List ℕ) → Type 0
IsOptionalNumeral None = ⊤
IsOptionalNumeral (Some digits) = IsNumeral digits

-- the number of a numeral, or 0 if there is none
abbrev pub count : Option (List ℕ) → ℕ
count None = 0
count (Some digits) = number digits

-- the minus of what is below zero
abbrev pub print_minus : Bool → List ℕ
print_minus negative = if negative then codes "-" else []

-- the point and digits of a fraction of a second, or none
abbrev pub print_fraction : Option (List ℕ) → List ℕ
print_fraction None = []
print_fraction (Some digits) = codes "." ++ digits

-- a fraction of a second in nanoseconds
abbrev pub fraction_nanos : Option (List ℕ) → ℕ
fraction_nanos None = 0
fraction_nanos (Some digits) = nanoseconds digits

-- a fraction has at most nine digits
abbrev pub is_short : Option (List ℕ) → Bool
is_short None = true
is_short (Some digits) = nat_le (length digits) 9
