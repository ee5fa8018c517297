-- Days and their text (XML Schema, part 2, sections 3.2.7 and 3.2.9).
use Rattle.std.specs.Prelude.{ℕ, Bool, ◌&&◌, nat_le, List, ◌++◌, codes, ℤ, pos, ◌+ℤ◌, ◌-ℤ◌, ◌*ℤ◌, Option}
use Rattle.jiff_core.specs.Calendar.{days_in_month, days_from_civil}
use Rattle.xa_value.specs.Lexical.{last_digits}
use Rattle.xa_value.specs.Time.{clock_text}
use Rattle.xa_value.specs.Zone.{zone_text, offset_of}

-- a day of the calendar, with the offset of its zone in minutes, if it has one
pub record CivilDate : Type 0 where
  pub year : ℕ
  pub month : ℕ
  pub day : ℕ
  pub zone : Option ℤ

-- a day and a time of that day, in nanoseconds, with the zone's offset
pub record CivilDateTime : Type 0 where
  pub year : ℕ
  pub month : ℕ
  pub day : ℕ
  pub nanos : ℕ
  pub zone : Option ℤ

-- the calendar has this day, in the years 1 to 9999
unfoldable pub is_day : ℕ → ℕ → ℕ → Bool
is_day year month day = nat_le 1 year && nat_le year 9999 && nat_le 1 month && nat_le month 12
    && nat_le 1 day && nat_le day (days_in_month (pos year) month)

-- the text of a day: four, two and two digits
unfoldable pub day_text : ℕ → ℕ → ℕ → List ℕ
day_text year month day = last_digits 4 year ++ codes "-" ++ last_digits 2 month ++ codes "-" ++ last_digits 2 day

abbrev pub date_text : CivilDate → List ℕ
date_text d = day_text d.year d.month d.day ++ zone_text d.zone

abbrev pub date_time_text : CivilDateTime → List ℕ
date_time_text d = day_text d.year d.month d.day ++ codes "T" ++ clock_text d.nanos ++ zone_text d.zone

-- a day's number; that of 1970-01-01 is 0
abbrev pub day_number : ℕ → ℕ → ℕ → ℤ
day_number year month day = days_from_civil (pos year) month day

-- nanoseconds since 1970-01-01T00:00:00Z: the time of the day, less the zone's offset
abbrev pub instant : ℤ → ℕ → Option ℤ → ℤ
instant day nanos zone = day *ℤ pos 86_400_000_000_000 +ℤ pos nanos -ℤ offset_of zone *ℤ pos 60_000_000_000
