-- The day of a number is the day that has it.
use Rattle.std.proofs.Common.{◌≡◌, ℕ, zero, suc, ◌+◌, ◌-◌, ◌<◌, ◌≤◌, Bool, true, false, if◌then◌else◌, refl, sym, arith, ℤ, pos, ◌-ℤ◌, ◌≤ℤ◌, ◌<ℤ◌, negsuc, unsigned_abs, inl, inr}
use Rattle.std.specs.Prelude.{int_le}
use Rattle.std.specs.Int.{int_div_euclid}
use Rattle.std.proofs.lemmas.Bool.{cases_order}
use Rattle.jiff_core.proofs.SignedLemmas.{signed_arith}
use Rattle.jiff_core.proofs.CalendarLemmas.{day_count-epoch, days_from_civil-day_count, day_count-lt_year, day_count-lt_month, day_count-day_of_year}
use Rattle.std.proofs.lemmas.Int.{by_lt_z}
use Rattle.jiff_core.proofs.MarchLemmas.{day_count-early}
use Rattle.jiff_core.proofs.DateLemmas.{civil, days_from_civil-day}
use Rattle.jiff_core.specs.declared.civil.date.Date.{Date}
use Rattle.jiff_core.specs.Calendar.{days_from_civil, IsCivilDate}
use Rattle.jiff_core.specs.Date.{epoch_day}
use Rattle.xa_value.specs.Calendar.{day_number}
use Rattle.xa_value.specs.Days.{greatest, day_of_number, year_of_day, month_of_day}
use Rattle.xa_value.specs.Moment.{IsMoment}

-- tests of signed numbers
le_at : (a b : ℤ) (v : Bool) → int_le a b ≡ v → a ≤ℤ b → int_le a b ≡ true
le_at a b true e h = e
le_at a b false e h = absurd (omega (arith, signed_arith))

pub test_le : (a b : ℤ) → a ≤ℤ b → int_le a b ≡ true
test_le a b h = le_at a b (int_le a b) refl h

lt_at : (a b : ℤ) (v : Bool) → int_le a b ≡ v → b <ℤ a → int_le a b ≡ false
lt_at a b false e h = e
lt_at a b true e h = absurd (omega (arith, signed_arith))

pub test_lt : (a b : ℤ) → b <ℤ a → int_le a b ≡ false
test_lt a b h = lt_at a b (int_le a b) refl h

-- the greatest number that passes a test, by what passes and what does not
greatest_is : (test : ℕ → Bool) (bound k : ℕ) → k ≤ bound → test k ≡ true → ((j : ℕ) → k < j → j ≤ bound → test j ≡ false) → greatest test bound ≡ k
unfolding greatest
greatest_is test zero k within here above = omega arith
greatest_is test (suc n) k within here above = at_last test n k within here above (greatest_is test n k) (test (suc n)) refl where
  at_last : (test : ℕ → Bool) (n k : ℕ) → k ≤ suc n → test k ≡ true → ((j : ℕ) → k < j → j ≤ suc n → test j ≡ false)
      → (k ≤ n → test k ≡ true → ((j : ℕ) → k < j → j ≤ n → test j ≡ false) → greatest test n ≡ k)
      → (v : Bool) → test (suc n) ≡ v → (if v then suc n else greatest test n) ≡ k
  at_last test n k within here above before true e = elim (cases_order k (suc n)) [
    | inl same ↦ sym same
    | inr (inl lt) ↦ let no = above (suc n) lt (omega arith) in absurd (cc (no, e))
    | inr (inr gt) ↦ absurd (omega arith)
  ]
  at_last test n k within here above before false e = elim (cases_order k (suc n)) [
    | inl same ↦ absurd (cc (same, e, here))
    | inr (inl lt) ↦ before (omega arith) here (λ j low high. above j low (omega arith))
    | inr (inr gt) ↦ absurd (omega arith)
  ]

-- earlier days have smaller numbers
pub number_le_year : (y m d : ℕ) → 1 ≤ d → day_number y 1 1 ≤ℤ day_number y m d
number_le_year y m d first = omega (arith, signed_arith, days_from_civil-day_count, day_count-day_of_year (pos y) m d first)

pub number_lt_year : (y m d later : ℕ) → IsCivilDate (pos y) m d → y < later → day_number y m d <ℤ day_number later 1 1
number_lt_year y m d later h lt = omega (arith, signed_arith, days_from_civil-day_count, day_count-lt_year (pos y) m d (pos later) 1 1 h (omega arith) (omega (arith, signed_arith)))

number_le_month : (y m d : ℕ) → 1 ≤ d → day_number y m 1 ≤ℤ day_number y m d
number_le_month y m d first = omega (arith, signed_arith, days_from_civil-day (pos y) m d 1 first (omega arith))

number_lt_month : (y m d later : ℕ) → IsCivilDate (pos y) m d → m < later → day_number y m d <ℤ day_number y later 1
number_lt_month y m d later h lt = omega (arith, signed_arith, days_from_civil-day_count, day_count-lt_month (pos y) m d later 1 h (omega arith) lt)

-- the year and the month of a day are found from its number
year_is : (y m d : ℕ) → IsCivilDate (pos y) m d → year_of_day (day_number y m d) ≡ y
unfolding year_of_day
year_is y m d h =
    greatest_is (λ j. int_le (day_number j 1 1) (day_number y m d)) 9999 y (omega (arith, signed_arith))
    (test_le _ _ (number_le_year y m d h.2.0)) (λ j lt _. test_lt _ _ (number_lt_year y m d j h lt))

month_is : (y m d : ℕ) → IsCivilDate (pos y) m d → month_of_day y (day_number y m d) ≡ m
unfolding month_of_day
month_is y m d h =
    greatest_is (λ j. int_le (day_number y j 1) (day_number y m d)) 12 m (h.1.1)
    (test_le _ _ (number_le_month y m d h.2.0)) (λ j lt _. test_lt _ _ (number_lt_month y m d j h lt))

day_is : (y m d : ℕ) → 1 ≤ d → unsigned_abs (day_number y m d -ℤ day_number y m 1) + 1 ≡ d
day_is y m d first =
    let since : day_number y m d -ℤ day_number y m 1 ≡ pos (d - 1) = omega (arith, signed_arith, days_from_civil-day (pos y) m d 1 first (omega arith)) in
    rw since (omega arith)

pub at_number : (y m d : ℕ) → IsCivilDate (pos y) m d → 1 ≤ y → day_of_number (day_number y m d) ≡ record { year = y; month = m; day = d }
at_number y m d h one = rw (year_is y m d h, month_is y m d h, day_is y m d h.2.0) refl

-- of a date from the year 1 on
day_of_civil : (d : Date) → pos 1 ≤ℤ d.year → day_of_number (epoch_day d) ≡ record { year = unsigned_abs d.year; month = d.month; day = d.day }
day_of_civil d later = of_year d.year d.month d.day (civil d) later where
  of_year : (z : ℤ) (m d : ℕ) → IsCivilDate z m d → pos 1 ≤ℤ z → day_of_number (days_from_civil z m d) ≡ record { year = unsigned_abs z; month = m; day = d }
  of_year (pos y) m d h later = at_number y m d h (omega (arith, signed_arith))
  of_year (negsuc y) m d h later = absurd (omega (arith, signed_arith))

-- the day 0001-01-01
first_number : day_number 1 1 1 ≡ negsuc 719_161
unfolding days_from_civil
first_number = rw (day_count-epoch, day_count-early (pos 1) 10000 1 1 refl (omega arith) (omega arith) (omega arith)) refl

-- a date from that day on is of the year 1 or later
year_one_on : (d : Date) → negsuc 719_161 ≤ℤ epoch_day d → pos 1 ≤ℤ d.year
year_one_on d late =
    by_lt_z d.year (pos 1)
    (λ early. absurd (omega (arith, signed_arith, days_from_civil-day_count, day_count-lt_year d.year d.month d.day (pos 1) 1 1 (civil d) (omega arith) early, first_number)))
    (λ ge. ge)

-- the day of a moment
pub moment_year : (seconds : ℤ) (d : Date) → IsMoment seconds → epoch_day d ≡ int_div_euclid seconds (pos 86_400) → pos 1 ≤ℤ d.year
moment_year seconds d h e =
    let since : negsuc 719_161 ≤ℤ int_div_euclid seconds (pos 86_400) = omega (arith, signed_arith, h.0) in
    year_one_on d (rw e since)

pub moment_day : (seconds : ℤ) (d : Date) → IsMoment seconds → epoch_day d ≡ int_div_euclid seconds (pos 86_400)
    → day_of_number (int_div_euclid seconds (pos 86_400)) ≡ record { year = unsigned_abs d.year; month = d.month; day = d.day }
moment_day seconds d h e = rw (← e) (day_of_civil d (moment_year seconds d h e))
