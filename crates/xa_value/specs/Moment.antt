-- Moments: whole seconds since 1970-01-01T00:00:00Z, and the date and time that they show (XACML 3.0, core, section
-- 10.2.5, the values of the environment's clock attributes).
use Rattle.std.specs.Prelude.{ℕ, ◌*◌, ℤ, pos, negsuc, ◌≤ℤ◌, unsigned_abs, Option, Some}
use Rattle.std.specs.Int.{int_div_euclid, int_rem_euclid}
use Rattle.xa_value.specs.Calendar.{CivilDate, CivilDateTime}
use Rattle.xa_value.specs.Days.{day_of_number}
use Rattle.xa_value.specs.Time.{ClockTime}

-- a moment: from 0001-01-01T00:00:00Z to 9999-12-31T23:59:59Z
abbrev pub IsMoment : ℤ → Type 0
IsMoment seconds = (negsuc 62_135_596_799 ≤ℤ seconds) × (seconds ≤ℤ pos 253_402_300_799)

-- the zone of UTC, `Z`
abbrev pub utc : Option ℤ
utc = Some (pos 0)

-- the number of a moment's day by UTC; that of 1970-01-01 is 0
abbrev pub day_number_of : ℤ → ℤ
day_number_of seconds = int_div_euclid seconds (pos 86_400)

-- the nanoseconds since the midnight that began a moment's day
abbrev pub nanos_of : ℤ → ℕ
nanos_of seconds = unsigned_abs (int_rem_euclid seconds (pos 86_400)) * 1_000_000_000

-- the date of a moment, by UTC
abbrev pub date_of : ℤ → CivilDate
date_of seconds =
    let day = day_of_number (day_number_of seconds) in
    record { year = day.year; month = day.month; day = day.day; zone = utc }

-- the time of day of a moment, by UTC
abbrev pub time_of : ℤ → ClockTime
time_of seconds = record { nanos = nanos_of seconds; zone = utc }

-- the date of a moment with its time, by UTC
abbrev pub date_time_of : ℤ → CivilDateTime
date_time_of seconds =
    let day = day_of_number (day_number_of seconds) in
    record { year = day.year; month = day.month; day = day.day; nanos = nanos_of seconds; zone = utc }
