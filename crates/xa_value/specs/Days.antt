-- The day of a number; that of 1970-01-01 is 0 (the proleptic Gregorian calendar; XML Schema, part 2, section 3.2.7).
use Rattle.std.specs.Prelude.{ℕ, zero, suc, ◌+◌, Bool, if◌then◌else◌, ℤ, unsigned_abs, int_le, ◌-ℤ◌}
use Rattle.xa_value.specs.Calendar.{day_number}

-- a day of the calendar
pub record Day : Type 0 where
  pub year : ℕ
  pub month : ℕ
  pub day : ℕ

-- the greatest number up to a bound that passes the test
unfoldable pub greatest : (ℕ → Bool) → ℕ → ℕ
greatest test zero = zero
greatest test (suc n) = if test (suc n) then suc n else greatest test n

-- the last year that begins on the day of that number or before it
unfoldable pub year_of_day : ℤ → ℕ
year_of_day n = greatest (λ y. int_le (day_number y 1 1) n) 9999

-- the last month of a year that begins on the day of that number or before it
unfoldable pub month_of_day : ℕ → ℤ → ℕ
month_of_day year n = greatest (λ m. int_le (day_number year m 1) n) 12

-- the day of that number in that month
abbrev pub day_of_month : ℕ → ℕ → ℤ → Day
day_of_month year month n = record { year = year; month = month; day = unsigned_abs (n -ℤ day_number year month 1) + 1 }

-- the day of that number, from 0001-01-01 to 9999-12-31
abbrev pub day_of_number : ℤ → Day
day_of_number n = day_of_month (year_of_day n) (month_of_day (year_of_day n) n) n
