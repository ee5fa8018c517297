-- Days, times and durations (XACML 3.0, core, appendices A.3.7 and A.3.8; XML Schema, part 2, appendix E).
use Rattle.std.specs.Prelude.{ℕ, ◌+◌, ◌-◌, ◌*◌, min, Bool, ◌&&◌, if◌then◌else◌, ℤ, pos, neg_ℤ}
use Rattle.std.specs.Prelude.{unsigned_abs, nat_le, int_le, ◌+ℤ◌, ◌-ℤ◌, ◌*ℤ◌, Option, Result, Ok, Err}
use Rattle.std.specs.Int.{int_div_euclid, int_rem_euclid}
use Rattle.std.specs.Option.{option_or}
use Rattle.jiff_core.specs.Calendar.{days_in_month}
use Rattle.xa_value.specs.Calendar.{CivilDate, CivilDateTime, day_number}
use Rattle.xa_value.specs.Days.{Day, day_of_number}
use Rattle.xa_value.specs.Instant.{local_nanos}
use Rattle.xa_value.specs.Time.{ClockTime, day_nanos}
use Rattle.xa_value.specs.Zone.{offset_of}
use Rattle.xa_func.specs.declared.func_id.Direction.{Direction}
use Rattle.xa_func.specs.declared.func_id.Direction.TheVariants.{Add, Subtract}
use Rattle.xa_func.specs.declared.fault.FuncFault.{FuncFault}
use Rattle.xa_func.specs.declared.fault.FuncFault.TheVariants.{CalendarRange}
use Rattle.xa_value.specs.Gives.{◌>>=◌}

-- a duration that is added, or subtracted
abbrev pub directed : Direction → ℤ → ℤ
directed Add duration = duration
directed Subtract duration = neg_ℤ duration

-- months since January of the year 0
abbrev pub month_number : Day → ℤ
month_number d = pos (d.year * 12 + (d.month - 1))

-- the year of this many months since January of the year 0
abbrev pub year_at : ℤ → ℤ
year_at months = int_div_euclid months (pos 12)

-- the month of this many months since January of the year 0, from 1 to 12
abbrev pub month_at : ℤ → ℕ
month_at months = unsigned_abs (int_rem_euclid months (pos 12)) + 1

-- the years 1 to 9999
abbrev pub is_year : ℤ → Bool
is_year year = int_le (pos 1) year && int_le year (pos 9999)

-- a day of the month with that `month_number`, or the month's last day if it is shorter
unfoldable pub day_in_month : ℕ → ℤ → Result Day FuncFault
day_in_month day months =
    if is_year (year_at months) then Ok (record {
      year = unsigned_abs (year_at months);
      month = month_at months;
      day = min day (days_in_month (year_at months) (month_at months));
    })
    else Err CalendarRange

-- the day this many months later
abbrev pub months_later : Day → ℤ → Result Day FuncFault
months_later d months = day_in_month d.day (month_number d +ℤ months)

-- the numbers of the days from 0001-01-01 to 9999-12-31
abbrev pub is_day_number : ℤ → Bool
is_day_number n = int_le (day_number 1 1 1) n && int_le n (day_number 9999 12 31)

-- the day of that number
unfoldable pub day_at : ℤ → Result Day FuncFault
day_at n = if is_day_number n then Ok (day_of_number n) else Err CalendarRange

-- a day, in the zone as it was written
abbrev pub date_on : Option ℤ → Day → CivilDate
date_on zone d = record { year = d.year; month = d.month; day = d.day; zone = zone }

-- a day with a time of day, in the zone as it was written
abbrev pub date_time_on : ℕ → Option ℤ → Day → CivilDateTime
date_time_on nanos zone d = record { year = d.year; month = d.month; day = d.day; nanos = nanos; zone = zone }

abbrev pub day_of_date : CivilDate → Day
day_of_date d = record { year = d.year; month = d.month; day = d.day }

abbrev pub day_of_date_time : CivilDateTime → Day
day_of_date_time d = record { year = d.year; month = d.month; day = d.day }

-- a day some months later
abbrev pub date_after_months : CivilDate → ℤ → Result CivilDate FuncFault
date_after_months d months = months_later (day_of_date d) months >>= λ day. Ok (date_on d.zone day)

-- a day and time some months later, at the same time of day
abbrev pub date_time_after_months : CivilDateTime → ℤ → Result CivilDateTime FuncFault
date_time_after_months d months =
    months_later (day_of_date_time d) months >>= λ day. Ok (date_time_on d.nanos d.zone day)

-- the day and time of this many nanoseconds
abbrev pub date_time_at : ℤ → Option ℤ → Result CivilDateTime FuncFault
date_time_at nanos zone =
    day_at (int_div_euclid nanos (pos day_nanos))
    >>= λ day. Ok (date_time_on (unsigned_abs (int_rem_euclid nanos (pos day_nanos))) zone day)

-- a day and time some nanoseconds later, as written
abbrev pub date_time_after_nanos : CivilDateTime → ℤ → Result CivilDateTime FuncFault
date_time_after_nanos d nanos = date_time_at (local_nanos d +ℤ nanos) d.zone

-- a time in UTC, in nanoseconds: a time without a zone takes the other zone, else UTC
abbrev pub nanos_in_utc : ClockTime → Option ℤ → ℤ
nanos_in_utc t zone = pos t.nanos -ℤ offset_of (option_or t.zone zone) *ℤ pos 60_000_000_000

-- the nanoseconds from one time of day to the next occurrence of the other, 0 if they are the same
abbrev pub distance : ℤ → ℤ → ℕ
distance from to = unsigned_abs (int_rem_euclid (to -ℤ from) (pos day_nanos))

-- a clock that starts at `start` shows the time no later than `end`
unfoldable pub time_in_range : ClockTime → ClockTime → ClockTime → Bool
time_in_range t start end =
    let from = nanos_in_utc start t.zone in
    nat_le (distance from (nanos_in_utc t t.zone)) (distance from (nanos_in_utc end t.zone))
