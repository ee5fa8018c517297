-- How a time of day is read.
use Rattle.std.specs.Prelude.{ℕ, ◌+◌, ◌-◌, ◌*◌, Bool, not, ◌&&◌, ◌==◌, nat_le, if◌then◌else◌}
use Rattle.std.specs.Prelude.{List, codes, take, drop, ℤ, Option, Result, Ok, Err}
use Rattle.xa_value.specs.declared.read_error.ReadError.{ReadError}
use Rattle.xa_value.specs.declared.read_error.ReadError.TheVariants.{NotThisType, OutOfRange}
use Rattle.xa_value.specs.Gives.{◌>>=◌}
use Rattle.xa_value.specs.parsing.Lexical.{begins_with, digit_count, has_shape, two_digits}
use Rattle.xa_value.specs.parsing.Zone.{read_zone}
use Rattle.xa_value.specs.Time.{ClockTime, nanoseconds}

-- the length of the point and digits that the text begins with
unfoldable pub fraction_length : List ℕ → ℕ
fraction_length text = if begins_with 46 text then 1 + digit_count (drop 1 text) else 0

-- the digits after the point
abbrev pub fraction_digits : List ℕ → List ℕ
fraction_digits text = take (fraction_length text - 1) (drop 1 text)

-- hours below 24, minutes and seconds below 60, and at most nine digits of a fraction
unfoldable pub is_clock : List ℕ → Bool
is_clock text = nat_le (two_digits text 0) 23 && nat_le (two_digits text 3) 59 && nat_le (two_digits text 6) 59
    && nat_le (fraction_length (drop 8 text)) 10

-- the nanoseconds since midnight of a text `hh:mm:ss` with a fraction
unfoldable pub clock_nanos : List ℕ → ℕ
clock_nanos text = ((two_digits text 0 * 60 + two_digits text 3) * 60 + two_digits text 6) * 1_000_000_000
    + nanoseconds (fraction_digits (drop 8 text))

-- the time in its zone, if a clock shows it
unfoldable pub time_of : List ℕ → Option ℤ → Result ClockTime ReadError
time_of text zone = if is_clock text then Ok (record { nanos = clock_nanos text; zone = zone }) else Err OutOfRange

-- `hh:mm:ss`, a fraction that has digits if there is a point, and a zone
unfoldable pub read_time : List ℕ → Result ClockTime ReadError
read_time text =
    if has_shape (codes "99:99:99") text && not (fraction_length (drop 8 text) == 1)
    then (read_zone (drop (fraction_length (drop 8 text)) (drop 8 text)) >>= λ zone. time_of text zone)
    else Err NotThisType
