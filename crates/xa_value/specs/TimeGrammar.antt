-- The shapes of zones, times, dates, and dates with times (XML Schema, part 2). Each is a tree, the text that it
-- prints as, a predicate for valid trees, its value, and whether that is in range.
use Rattle.std.specs.Prelude.{ℕ, ◌+◌, ◌*◌, Bool, true, ◌&&◌, List, [], ◌++◌, codes}
use Rattle.std.specs.Prelude.{nat_le, if◌then◌else◌, ⊤, ℤ, pos, Option, Some, None}
use Rattle.xa_value.specs.Lexical.{number, with_sign}
use Rattle.xa_value.specs.Time.{ClockTime}
use Rattle.xa_value.specs.Calendar.{CivilDate, CivilDateTime, is_day}
use Rattle.xa_value.specs.DigitGrammar.{IsDigits, IsOptionalNumeral, print_fraction, fraction_nanos, is_short}

-- absent, `Z`, `+hh:mm` or `-hh:mm` (section 3.2.7.3)
pub data Zone : Type 0 where
  absent utc : Zone
  offset : (negative : Bool) (hours minutes : List ℕ) → Zone

abbrev pub print_zone : Zone → List ℕ
print_zone absent = []
print_zone utc = codes "Z"
print_zone (offset negative hours minutes) =
    (if negative then codes "-" else codes "+") ++ hours ++ codes ":" ++ minutes

abbrev pub IsZone : Zone → Type 0
IsZone absent = ⊤
IsZone utc = ⊤
IsZone (offset negative hours minutes) = IsDigits 2 hours × IsDigits 2 minutes

-- the minutes of a zone from UTC, if there is one
abbrev pub zone_value : Zone → Option ℤ
zone_value absent = None
zone_value utc = Some (pos 0)
zone_value (offset negative hours minutes) = Some (with_sign negative (number hours * 60 + number minutes))

-- a zone of minutes to 59, and of at most 14 hours in all
abbrev pub is_zone_in_range : Zone → Bool
is_zone_in_range absent = true
is_zone_in_range utc = true
is_zone_in_range (offset negative hours minutes) =
    nat_le (number minutes) 59 && nat_le (number hours * 60 + number minutes) 840

-- `hh:mm:ss(\.f)?`
pub record Clock : Type 0 where
  pub hours : List ℕ
  pub minutes : List ℕ
  pub seconds : List ℕ
  pub fraction : Option (List ℕ)

abbrev pub print_clock : Clock → List ℕ
print_clock c = c.hours ++ codes ":" ++ c.minutes ++ codes ":" ++ c.seconds ++ print_fraction c.fraction

pub record IsClock (c : Clock) : Type 0 where
  pub hours : IsDigits 2 c.hours
  pub minutes : IsDigits 2 c.minutes
  pub seconds : IsDigits 2 c.seconds
  pub fraction : IsOptionalNumeral c.fraction

-- the nanoseconds of a clock since midnight
abbrev pub clock_nanos : Clock → ℕ
clock_nanos c =
    ((number c.hours * 60 + number c.minutes) * 60 + number c.seconds) * 1_000_000_000 + fraction_nanos c.fraction

-- a clock of hours to 23, minutes and seconds to 59, and at most nine digits of a fraction
abbrev pub is_clock_in_range : Clock → Bool
is_clock_in_range c =
    nat_le (number c.hours) 23 && nat_le (number c.minutes) 59 && nat_le (number c.seconds) 59 && is_short c.fraction

-- a time: a clock and a zone (section 3.2.8)
pub record Time : Type 0 where
  pub clock : Clock
  pub zone : Zone

abbrev pub print_time : Time → List ℕ
print_time t = print_clock t.clock ++ print_zone t.zone

abbrev pub IsTime : Time → Type 0
IsTime t = IsClock t.clock × IsZone t.zone

abbrev pub time_value : Time → ClockTime
time_value t = record { nanos = clock_nanos t.clock; zone = zone_value t.zone }

abbrev pub is_time_in_range : Time → Bool
is_time_in_range t = is_clock_in_range t.clock && is_zone_in_range t.zone

-- `YYYY-MM-DD`
pub record Day : Type 0 where
  pub year : List ℕ
  pub month : List ℕ
  pub day : List ℕ

abbrev pub print_day : Day → List ℕ
print_day d = d.year ++ codes "-" ++ d.month ++ codes "-" ++ d.day

pub record IsDay (d : Day) : Type 0 where
  pub year : IsDigits 4 d.year
  pub month : IsDigits 2 d.month
  pub day : IsDigits 2 d.day

-- a day of the calendar, in the years 1 to 9999
abbrev pub is_day_in_range : Day → Bool
is_day_in_range d = is_day (number d.year) (number d.month) (number d.day)

-- a date: a day and a zone (section 3.2.9)
pub record Date : Type 0 where
  pub day : Day
  pub zone : Zone

abbrev pub print_date : Date → List ℕ
print_date d = print_day d.day ++ print_zone d.zone

abbrev pub IsDate : Date → Type 0
IsDate d = IsDay d.day × IsZone d.zone

abbrev pub date_value : Date → CivilDate
date_value d =
    record { year = number d.day.year; month = number d.day.month; day = number d.day.day; zone = zone_value d.zone }

abbrev pub is_date_in_range : Date → Bool
is_date_in_range d = is_day_in_range d.day && is_zone_in_range d.zone

-- a date with a time: a day, `T` and a time (section 3.2.7)
pub record DateTime : Type 0 where
  pub day : Day
  pub time : Time

abbrev pub print_date_time : DateTime → List ℕ
print_date_time d = print_day d.day ++ codes "T" ++ print_time d.time

abbrev pub IsDateTime : DateTime → Type 0
IsDateTime d = IsDay d.day × IsTime d.time

abbrev pub date_time_value : DateTime → CivilDateTime
date_time_value d = record {
  year = number d.day.year;
  month = number d.day.month;
  day = number d.day.day;
  nanos = clock_nanos d.time.clock;
  zone = zone_value d.time.zone;
}

abbrev pub is_date_time_in_range : DateTime → Bool
is_date_time_in_range d = is_day_in_range d.day && is_time_in_range d.time
