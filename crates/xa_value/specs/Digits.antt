-- Plain digits, and the numbers that they write.
use Rattle.std.specs.Prelude.{ℕ, Bool, ◌&&◌, List, length, nat_lt, nat_le, if◌then◌else◌, Option, Some, None}
use Rattle.std.specs.List.{list_all}
use Rattle.std.specs.Char.{is_ascii_digit}
use Rattle.std.specs.Str.Parse.{digits_value}

-- one digit or more, and nothing else
abbrev pub is_number : List ℕ → Bool
is_number text = nat_lt 0 (length text) && list_all is_ascii_digit text

-- the number that digits write, if it is no greater than `most`. Of digits alone std's `digits_value 10` is `number` of
-- `Lexical`
abbrev pub number_up_to : ℕ → List ℕ → Option ℕ
number_up_to most text =
    if is_number text && nat_le (digits_value 10 text) most then Some (digits_value 10 text) else None
