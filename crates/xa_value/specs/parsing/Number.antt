-- How booleans and integers are read.
use Rattle.std.specs.Prelude.{ℕ, Bool, true, false, ◌||◌, nat_le, if◌then◌else◌, List}
use Rattle.std.specs.Prelude.{codes, drop, bytes_eq, ℤ, pos, neg_ℤ, Result, Ok, Err}
use Rattle.xa_value.specs.declared.read_error.ReadError.{ReadError}
use Rattle.xa_value.specs.declared.read_error.ReadError.TheVariants.{NotThisType, OutOfRange}
use Rattle.xa_value.specs.Digits.{is_number}
use Rattle.xa_value.specs.Lexical.{number}
use Rattle.xa_value.specs.parsing.Lexical.{begins_with}

-- `true`, `false`, `1` and `0`
unfoldable pub read_boolean : List ℕ → Result Bool ReadError
read_boolean text =
    if bytes_eq text (codes "true") || bytes_eq text (codes "1") then Ok true
    else if bytes_eq text (codes "false") || bytes_eq text (codes "0") then Ok false
    else Err NotThisType

-- a number with its sign, within 64 bits
unfoldable pub integer_of : Bool → ℕ → Result ℤ ReadError
integer_of true n = if nat_le n 9_223_372_036_854_775_808 then Ok (neg_ℤ (pos n)) else Err OutOfRange
integer_of false n = if nat_le n 9_223_372_036_854_775_807 then Ok (pos n) else Err OutOfRange

-- the text without a sign
unfoldable pub without_sign : List ℕ → List ℕ
without_sign text = if begins_with 45 text || begins_with 43 text then drop 1 text else text

-- digits, after a sign or none
unfoldable pub read_integer : List ℕ → Result ℤ ReadError
read_integer text =
    if is_number (without_sign text) then integer_of (begins_with 45 text) (number (without_sign text))
    else Err NotThisType
