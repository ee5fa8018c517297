-- The day of a number, where there is one from 0001-01-01 to 9999-12-31.
use Rattle.std.proofs.Common.{◌≡◌, ℕ, ◌≤◌, Bool, true, false, refl, arith, ℤ, pos, ◌≤ℤ◌, ◌<ℤ◌, negsuc, unsigned_abs, rules, inl, inr}
use Rattle.std.specs.Prelude.{int_le, Ok, Err}
use Rattle.std.proofs.lemmas.Bool.{cases_order, and_parts}
use Rattle.jiff_core.proofs.SignedLemmas.{signed_arith}
use Rattle.jiff_core.proofs.CalendarLemmas.{days_from_civil-day_count, day_count-lt_year, day_count_bounds}
use Rattle.jiff_core.proofs.DateLemmas.{civil, days_from_civil-max}
use Rattle.jiff_core.specs.declared.civil.date.Date.{Date}
use Rattle.jiff_core.specs.Calendar.{days_from_civil, IsCivilDate, IsEpochDay}
use Rattle.jiff_core.specs.Date.{epoch_day}
use Rattle.xa_value.specs.Calendar.{day_number}
use Rattle.xa_func.specs.declared.fault.FuncFault.TheVariants.{CalendarRange}
use Rattle.xa_value.proofs.DayLemmas.{test_le, test_lt, number_le_year, number_lt_year, at_number}
use Rattle.xa_func.specs.Dates.{day_at, is_day_number}
use Rattle.xa_func.specs.Civil.{day_of}

first_day : IsCivilDate (pos 1) 1 1
first_day = search rules

-- a day from the year 1 on lies between the first and the last
first_le : (y m d : ℕ) → IsCivilDate (pos y) m d → 1 ≤ y → day_number 1 1 1 ≤ℤ day_number y m d
first_le y m d h one = elim (cases_order 1 y) [
  | inl same ↦ rw (← same) (number_le_year 1 m d h.2.0)
  | inr (inl lt) ↦ omega (arith, signed_arith, number_lt_year 1 1 1 y first_day lt, number_le_year y m d h.2.0)
  | inr (inr gt) ↦ absurd (omega arith)
]

last_le : (y m d : ℕ) → IsCivilDate (pos y) m d → day_number y m d ≤ℤ day_number 9999 12 31
last_le y m d h = omega (arith, signed_arith, days_from_civil-day_count, day_count_bounds (pos y) m d h, days_from_civil-max)

at_day : (y m d : ℕ) → IsCivilDate (pos y) m d → 1 ≤ y → day_at (day_number y m d) ≡ Ok (record { year = y; month = m; day = d })
unfolding day_at
at_day y m d h one = rw (test_le _ _ (first_le y m d h one), test_le _ _ (last_le y m d h), at_number y m d h one) refl

pub day_at_civil : (d : Date) → pos 1 ≤ℤ d.year → day_at (epoch_day d) ≡ Ok (day_of d)
day_at_civil d later = of_year d.year d.month d.day (civil d) later where
  of_year : (z : ℤ) (m d : ℕ) → IsCivilDate z m d → pos 1 ≤ℤ z → day_at (days_from_civil z m d) ≡ Ok (record { year = unsigned_abs z; month = m; day = d })
  of_year (pos y) m d h later = at_day y m d h (omega (arith, signed_arith))
  of_year (negsuc y) m d h later = absurd (omega (arith, signed_arith))

pub day_at_early : (d : Date) → d.year <ℤ pos 1 → day_at (epoch_day d) ≡ Err CalendarRange
unfolding day_at
day_at_early d early =
    let before : epoch_day d <ℤ day_number 1 1 1 = omega (arith, signed_arith, days_from_civil-day_count, day_count-lt_year d.year d.month d.day (pos 1) 1 1 (civil d) (omega arith) early) in
    rw (test_lt _ _ before)

-- the days from the year 1 on are days that the library has
epoch_day_at : (n : ℤ) → is_day_number n ≡ true → IsEpochDay n
epoch_day_at n e =
    let both = and_parts (int_le (day_number 1 1 1) n) (int_le n (day_number 9999 12 31)) e in
    let low = both.0 in
    let high = both.1 in (
      omega (arith, signed_arith, low, days_from_civil-day_count, day_count_bounds (pos 1) 1 1 first_day),
      omega (arith, signed_arith, high, days_from_civil-max),
    )

pub day_at_outside : (n : ℤ) → ¬ (IsEpochDay n) → day_at n ≡ Err CalendarRange
unfolding day_at
day_at_outside n out = by_test n out (is_day_number n) refl where
  by_test : (n : ℤ) → ¬ (IsEpochDay n) → (v : Bool) → is_day_number n ≡ v → day_at n ≡ Err CalendarRange
  by_test n out true e = absurd (out (epoch_day_at n e))
  by_test n out false e = rw e
