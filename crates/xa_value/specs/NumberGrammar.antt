-- The shape of integers (XML Schema, part 2, section 3.3.13): a tree, the text that it prints as, a predicate for
-- valid trees, its value, and whether that is in range.
use Rattle.std.specs.Prelude.{ℕ, ◌-◌, ◌^◌, Bool, true, false, List, [], ◌++◌, codes, nat_le, if◌then◌else◌, ℤ}
use Rattle.xa_value.specs.Lexical.{number, with_sign}
use Rattle.xa_value.specs.DigitGrammar.{IsNumeral}

-- `+`, `-` or neither
pub data Sign : Type 0 where
  plus minus neither : Sign

abbrev pub print_sign : Sign → List ℕ
print_sign plus = codes "+"
print_sign minus = codes "-"
print_sign neither = []

abbrev pub is_minus : Sign → Bool
is_minus plus = false
is_minus minus = true
is_minus neither = false

-- `[+-]?\d+`
pub record Integer : Type 0 where
  pub sign : Sign
  pub digits : List ℕ

abbrev pub print_integer : Integer → List ℕ
print_integer i = print_sign i.sign ++ i.digits

abbrev pub IsInteger : Integer → Type 0
IsInteger i = IsNumeral i.digits

abbrev pub integer_value : Integer → ℤ
integer_value i = with_sign (is_minus i.sign) (number i.digits)

-- an integer from -2^63 to 2^63 - 1
abbrev pub is_integer_in_range : Integer → Bool
is_integer_in_range i = nat_le (number i.digits) (if is_minus i.sign then 2 ^ 63 else 2 ^ 63 - 1)
