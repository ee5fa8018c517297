-- How dates are read, with and without a time.
use Rattle.std.specs.Prelude.{ℕ, ◌+◌, ◌*◌, if◌then◌else◌, List, codes, drop, ℤ, Option, Result, Ok, Err}
use Rattle.xa_value.specs.declared.read_error.ReadError.{ReadError}
use Rattle.xa_value.specs.declared.read_error.ReadError.TheVariants.{NotThisType, OutOfRange}
use Rattle.xa_value.specs.Gives.{◌>>=◌}
use Rattle.xa_value.specs.parsing.Lexical.{has_shape, two_digits}
use Rattle.xa_value.specs.Time.{ClockTime}
use Rattle.xa_value.specs.parsing.Time.{read_time}
use Rattle.xa_value.specs.parsing.Zone.{read_zone}
use Rattle.xa_value.specs.Calendar.{CivilDate, CivilDateTime, is_day}

-- the date, if the calendar has it
unfoldable pub date_of : ℕ → ℕ → ℕ → Option ℤ → Result CivilDate ReadError
date_of year month day zone =
    if is_day year month day then Ok (record { year = year; month = month; day = day; zone = zone })
    else Err OutOfRange

-- the date with a time, if the calendar has it
unfoldable pub date_time_of : ℕ → ℕ → ℕ → ClockTime → Result CivilDateTime ReadError
date_time_of year month day time =
    if is_day year month day
    then Ok (record { year = year; month = month; day = day; nanos = time.nanos; zone = time.zone })
    else Err OutOfRange

-- the year of four digits that a text begins with
abbrev pub year_of : List ℕ → ℕ
year_of text = two_digits text 0 * 100 + two_digits text 2

-- `YYYY-MM-DD` and a zone
unfoldable pub read_date : List ℕ → Result CivilDate ReadError
read_date text =
    if has_shape (codes "9999-99-99") text
    then (read_zone (drop 10 text) >>= λ zone. date_of (year_of text) (two_digits text 5) (two_digits text 8) zone)
    else Err NotThisType

-- a date without a zone, `T`, and a time
unfoldable pub read_date_time : List ℕ → Result CivilDateTime ReadError
read_date_time text =
    if has_shape (codes "9999-99-99T") text then (read_time (drop 11 text)
    >>= λ time. date_time_of (year_of text) (two_digits text 5) (two_digits text 8) time)
    else Err NotThisType
