-- How durations are read.
use Rattle.std.specs.Prelude.{ℕ, ◌+◌, ◌*◌, Bool, not, ◌&&◌, ◌||◌, ◌==◌, nat_le, nat_lt}
use Rattle.std.specs.Prelude.{if◌then◌else◌, List, length, take, drop, ℤ, Result, Ok, Err}
use Rattle.xa_value.specs.declared.read_error.ReadError.{ReadError}
use Rattle.xa_value.specs.declared.read_error.ReadError.TheVariants.{NotThisType, OutOfRange}
use Rattle.xa_value.specs.Lexical.{number, with_sign}
use Rattle.xa_value.specs.parsing.Lexical.{begins_with, digit_count}
use Rattle.xa_value.specs.Time.{nanoseconds}
use Rattle.xa_value.specs.parsing.Time.{fraction_length, fraction_digits}
use Rattle.xa_value.specs.Duration.{most_months, most_nanos}

-- how many digits stand before the unit, if the text begins with a part of that unit
unfoldable pub part_length : ℕ → List ℕ → ℕ
part_length unit text =
    if nat_lt 0 (digit_count text) && begins_with unit (drop (digit_count text) text) then digit_count text else 0

-- the number of the part with that unit, or 0 if it is absent
abbrev pub part : ℕ → List ℕ → ℕ
part unit text = number (take (part_length unit text) text)

-- what follows a part of this many characters and its unit, if it is there
abbrev pub after : ℕ → List ℕ → List ℕ
after count text = if count == 0 then text else drop (count + 1) text

-- what follows the part with that unit, if it is there
abbrev pub after_part : ℕ → List ℕ → List ℕ
after_part unit text = after (part_length unit text) text

-- the length of seconds with a fraction, if the text begins with them
unfoldable pub seconds_length : List ℕ → ℕ
seconds_length text =
    let fraction = fraction_length (drop (digit_count text) text) in
    if nat_lt 0 (digit_count text) && not (fraction == 1) && begins_with 83 (drop (digit_count text + fraction) text)
    then digit_count text + fraction else 0

-- the seconds with a fraction that the text begins with
abbrev pub seconds_part : List ℕ → List ℕ
seconds_part text = take (seconds_length text) text

-- the fraction of seconds, with its point
abbrev pub seconds_fraction : List ℕ → List ℕ
seconds_fraction seconds = drop (digit_count seconds) seconds

-- the text without a minus
unfoldable pub without_minus : List ℕ → List ℕ
without_minus text = if begins_with 45 text then drop 1 text else text

-- a magnitude with its sign, at most so great
unfoldable pub within : ℕ → Bool → ℕ → Result ℤ ReadError
within most negative n =
    if nat_le n most then Ok (with_sign negative n) else Err OutOfRange

-- years and months after `P`: at least one part, and nothing else
unfoldable pub is_years_and_months : List ℕ → Bool
is_years_and_months text = begins_with 80 text && not (length text == 1)
    && (length (after_part 77 (after_part 89 (drop 1 text))) == 0)

unfoldable pub months_of : List ℕ → ℕ
months_of body = part 89 body * 12 + part 77 (after_part 89 body)

-- `-?P(nY)?(nM)?`
unfoldable pub read_year_month : List ℕ → Result ℤ ReadError
read_year_month text =
    let whole = without_minus text in
    if is_years_and_months whole then within most_months (begins_with 45 text) (months_of (drop 1 whole))
    else Err NotThisType

-- hours, minutes and seconds after `T`: at least one part, and nothing else
unfoldable pub is_clock_part : List ℕ → Bool
is_clock_part text = begins_with 84 text && not (length text == 1)
    && (let rest = after_part 77 (after_part 72 (drop 1 text)) in length (after (seconds_length rest) rest) == 0)

-- days after `P`, and what may follow them: at least one part, and nothing else
unfoldable pub is_days_and_clock : List ℕ → Bool
is_days_and_clock text = begins_with 80 text && not (length text == 1)
    && (let rest = after_part 68 (drop 1 text) in (length rest == 0) || is_clock_part rest)

-- the seconds that follow hours and minutes
abbrev pub seconds_of : List ℕ → List ℕ
seconds_of clock = seconds_part (after_part 77 (after_part 72 clock))

-- the nanoseconds of days, hours, minutes, seconds and a fraction
abbrev pub total_nanos : ℕ → ℕ → ℕ → ℕ → ℕ → ℕ
total_nanos days hours minutes seconds fraction =
    (((days * 24 + hours) * 60 + minutes) * 60 + seconds) * 1_000_000_000 + fraction

-- the nanoseconds of days and the hours, minutes and seconds of a clock part
unfoldable pub nanos_of : ℕ → List ℕ → ℕ
nanos_of days clock =
    let seconds = seconds_of clock in
    total_nanos days (part 72 clock) (part 77 (after_part 72 clock)) (number (take (digit_count seconds) seconds))
    (nanoseconds (fraction_digits (seconds_fraction seconds)))

-- a clock part has at most nine digits of a fraction
unfoldable pub has_short_fraction : List ℕ → Bool
has_short_fraction clock = nat_le (fraction_length (seconds_fraction (seconds_of clock))) 10

-- `-?P(nD)?(T(nH)?(nM)?(n(\.f)?S)?)?`
unfoldable pub read_day_time : List ℕ → Result ℤ ReadError
read_day_time text =
    let whole = without_minus text in
    let clock = drop 1 (after_part 68 (drop 1 whole)) in
    if is_days_and_clock whole then
    (if has_short_fraction clock
    then within most_nanos (begins_with 45 text) (nanos_of (part 68 (drop 1 whole)) clock) else Err OutOfRange)
    else Err NotThisType
