-- The shapes of durations (XML Schema, part 2, section 3.2.6; XQuery and XPath data model, section 3.3.2). Each is a
-- tree, the text that it prints as, a predicate for valid trees, its value, and whether that is in range.
use Rattle.std.specs.Prelude.{ℕ, ◌+◌, ◌*◌, Bool, true, ◌&&◌, ◌||◌, List, [], ◌++◌}
use Rattle.std.specs.Prelude.{codes, nat_le, is_some, IsTrue, ⊤, ℤ, Option, Some, None}
use Rattle.xa_value.specs.Duration.{most_months, most_nanos}
use Rattle.xa_value.specs.Lexical.{number, with_sign}
use Rattle.xa_value.specs.DigitGrammar.{IsNumeral, IsOptionalNumeral, count, print_minus}
use Rattle.xa_value.specs.DigitGrammar.{print_fraction, fraction_nanos, is_short}

-- a numeral and its unit, or nothing
abbrev pub print_part : List ℕ → Option (List ℕ) → List ℕ
print_part unit None = []
print_part unit (Some digits) = digits ++ unit

-- `-?P(nY)?(nM)?`
pub record YearMonth : Type 0 where
  pub negative : Bool
  pub years : Option (List ℕ)
  pub months : Option (List ℕ)

abbrev pub print_year_month : YearMonth → List ℕ
print_year_month d =
    print_minus d.negative ++ codes "P" ++ print_part (codes "Y") d.years ++ print_part (codes "M") d.months

-- the years and the months are each a numeral or absent, and at least one of them is there
pub record IsYearMonth (d : YearMonth) : Type 0 where
  pub years : IsOptionalNumeral d.years
  pub months : IsOptionalNumeral d.months
  pub some : IsTrue (is_some d.years || is_some d.months)

-- the months of a yearMonthDuration, 12 to a year
abbrev pub months_meant : YearMonth → ℕ
months_meant d = count d.years * 12 + count d.months

abbrev pub year_month_value : YearMonth → ℤ
year_month_value d = with_sign d.negative (months_meant d)

-- a yearMonthDuration of at most 10,000 years either way
abbrev pub is_year_month_in_range : YearMonth → Bool
is_year_month_in_range d = nat_le (months_meant d) most_months

-- `n(\.f)?S`
pub record Seconds : Type 0 where
  pub whole : List ℕ
  pub fraction : Option (List ℕ)

-- `T(nH)?(nM)?(n(\.f)?S)?`
pub record ClockPart : Type 0 where
  pub hours : Option (List ℕ)
  pub minutes : Option (List ℕ)
  pub seconds : Option Seconds

-- `-?P(nD)?(T(nH)?(nM)?(n(\.f)?S)?)?`
pub record DayTime : Type 0 where
  pub negative : Bool
  pub days : Option (List ℕ)
  pub clock : Option ClockPart

abbrev pub print_seconds : Option Seconds → List ℕ
print_seconds None = []
print_seconds (Some s) = s.whole ++ print_fraction s.fraction ++ codes "S"

abbrev pub print_clock_part : Option ClockPart → List ℕ
print_clock_part None = []
print_clock_part (Some c) =
    codes "T" ++ print_part (codes "H") c.hours ++ print_part (codes "M") c.minutes ++ print_seconds c.seconds

abbrev pub print_day_time : DayTime → List ℕ
print_day_time d = print_minus d.negative ++ codes "P" ++ print_part (codes "D") d.days ++ print_clock_part d.clock

-- the digits of seconds before the point, and after it if there is one
abbrev pub IsSeconds : Option Seconds → Type 0
IsSeconds None = ⊤
IsSeconds (Some s) = IsNumeral s.whole × IsOptionalNumeral s.fraction

-- each part after `T` is a numeral or absent, and at least one is there
pub record IsClockPart (c : ClockPart) : Type 0 where
  pub hours : IsOptionalNumeral c.hours
  pub minutes : IsOptionalNumeral c.minutes
  pub seconds : IsSeconds c.seconds
  pub some : IsTrue (is_some c.hours || is_some c.minutes || is_some c.seconds)

abbrev pub IsOptionalClockPart : Option ClockPart → Type 0
IsOptionalClockPart None = ⊤
IsOptionalClockPart (Some c) = IsClockPart c

-- the days are a numeral or absent, and at least one part is there
pub record IsDayTime (d : DayTime) : Type 0 where
  pub days : IsOptionalNumeral d.days
  pub clock : IsOptionalClockPart d.clock
  pub some : IsTrue (is_some d.days || is_some d.clock)

-- the nanoseconds of seconds with a fraction
abbrev pub seconds_nanos : Option Seconds → ℕ
seconds_nanos None = 0
seconds_nanos (Some s) = number s.whole * 1_000_000_000 + fraction_nanos s.fraction

-- the nanoseconds of hours, minutes and seconds
abbrev pub clock_part_nanos : Option ClockPart → ℕ
clock_part_nanos None = 0
clock_part_nanos (Some c) = (count c.hours * 60 + count c.minutes) * 60_000_000_000 + seconds_nanos c.seconds

-- the nanoseconds of a dayTimeDuration, 24 hours to a day
abbrev pub nanos_meant : DayTime → ℕ
nanos_meant d = count d.days * 86_400_000_000_000 + clock_part_nanos d.clock

abbrev pub day_time_value : DayTime → ℤ
day_time_value d = with_sign d.negative (nanos_meant d)

-- a fraction, if any, has at most nine digits
abbrev pub is_seconds_short : Option Seconds → Bool
is_seconds_short None = true
is_seconds_short (Some s) = is_short s.fraction

abbrev pub is_clock_short : Option ClockPart → Bool
is_clock_short None = true
is_clock_short (Some c) = is_seconds_short c.seconds

-- a dayTimeDuration with at most nine digits of a fraction, and of at most 10,000 years of 365.25 days either way
abbrev pub is_day_time_in_range : DayTime → Bool
is_day_time_in_range d = is_clock_short d.clock && nat_le (nanos_meant d) most_nanos
