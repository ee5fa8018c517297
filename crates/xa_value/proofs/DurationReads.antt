-- Durations that were read print as texts that read as the same values.
use Rattle.std.proofs.Common.{◌≡◌, ℕ, zero, suc, ◌+◌, ◌*◌, ◌/◌, ◌%◌, ◌<◌, ◌≤◌, Bool, true, false, List, ◌++◌, drop, ℤ, pos, negsuc, neg_ℤ, ◌≤ℤ◌, Option, Some, None, Ok, Err, refl, sym, subst, arith}
use Rattle.std.specs.Prelude.{codes, decimal, ◌==◌, nat_le, if◌then◌else◌, is_some}
use Rattle.std.proofs.lemmas.Bool.{eqb-true}
use lib.Dec.{leb}
use Rattle.std.proofs.lemmas.Bool.Decides.{nat_tests}
use borrow.Author.Tests.{le-leb, leb-true, ne_eqb}
use Rattle.jiff_core.proofs.SignedLemmas.{signed_arith}
use Rattle.xa_value.specs.declared.read_error.ReadError.TheVariants.{NotThisType, OutOfRange}
use Rattle.xa_value.specs.Lexical.{number_after, trimmed, with_sign}
use Rattle.xa_value.specs.parsing.Lexical.{begins_with}
use Rattle.xa_value.specs.Duration.{most_months, most_nanos, IsMonths, IsNanos, part_text, year_month_text, seconds_text, clock_part_text, day_time_text}
use Rattle.xa_value.specs.parsing.Duration.{after_part, part, without_minus, within, is_years_and_months, months_of, read_year_month, is_days_and_clock, nanos_of, has_short_fraction, read_day_time}
use Rattle.xa_value.specs.DigitGrammar.{print_minus}
use Rattle.xa_value.specs.DurationGrammar.{YearMonth, IsYearMonth, print_year_month, year_month_value, is_year_month_in_range, Seconds, IsSeconds, print_seconds, seconds_nanos, is_seconds_short, ClockPart, IsOptionalClockPart, print_clock_part, clock_part_nanos, is_clock_short, DayTime, IsDayTime, print_day_time, day_time_value, is_day_time_in_range}
use Rattle.xa_value.proofs.NumeralLemmas.{number_decimal}
use Rattle.xa_value.proofs.PrintedLemmas.{IsTreeOf, tree_reads, positive, numeral_decimal, part_written, either_written}
use Rattle.xa_value.proofs.TimeReads.{fraction_written}
use Rattle.xa_value.proofs.DurationGrammarLemmas.{year_month_means, year_month_plain, day_time_means, day_time_plain}
use Rattle.xa_value.proofs.ZoneLemmas.{if_ok_or_err}

-- ---- magnitudes with a sign

-- a number of at most that magnitude
abbrev IsWithin : ℕ → ℤ → Type 0
IsWithin most z = (neg_ℤ (pos most) ≤ℤ z) × (z ≤ℤ pos most)

negative_within : (most n : ℕ) → n ≤ most → IsWithin most (neg_ℤ (pos n))
negative_within most zero h = (omega (arith, signed_arith), omega (arith, signed_arith))
negative_within zero (suc n) h = absurd (omega arith)
negative_within (suc most) (suc n) h = (omega (arith, signed_arith), omega (arith, signed_arith))

positive_within : (most n : ℕ) → n ≤ most → IsWithin most (pos n)
positive_within zero n h = (omega (arith, signed_arith), omega (arith, signed_arith))
positive_within (suc most) n h = (omega (arith, signed_arith), omega (arith, signed_arith))

within_read : (most : ℕ) (b : Bool) (n : ℕ) (z : ℤ) → within most b n ≡ Ok z → IsWithin most z
unfolding within
within_read most true n z h =
    let k = if_ok_or_err (nat_le n most) (Ok (neg_ℤ (pos n))) OutOfRange z h in
    let e : neg_ℤ (pos n) ≡ z = cc in
    subst (IsWithin most) e (negative_within most n (leb-true n most k.0))
within_read most false n z h =
    let k = if_ok_or_err (nat_le n most) (Ok (pos n)) OutOfRange z h in
    let e : pos n ≡ z = cc in
    subst (IsWithin most) e (positive_within most n (leb-true n most k.0))

-- what is not zero is not negative either
not_below : (n : ℕ) → leb (suc n) 0 ≡ false
not_below n = grind (arith, nat_tests)

-- ---- years and months

abbrev YearMonthOf : List ℕ → ℤ → Type 0
YearMonthOf = IsTreeOf ℤ YearMonth IsYearMonth print_year_month year_month_value is_year_month_in_range

-- the tree of this many months, not zero
months_tree : (b : Bool) (n : ℕ) → 0 < n → n ≤ most_months → YearMonthOf (print_minus b ++ codes "P" ++ part_text (n / 12) 89 ++ part_text (n % 12) 77) (with_sign b n)
months_tree b n some h =
    let y = part_written 89 (n / 12) (omega arith) in
    let m = part_written 77 (n % 12) (omega arith) in
    let total : n / 12 * 12 + n % 12 ≡ n = omega arith in
    record {
      tree = record { negative = b; years = y.part; months = m.part };
      valid = record { years = y.valid; months = m.valid; some = either_written _ _ (n / 12) (n % 12) y.there m.there (omega arith) };
      whole = rw (y.text, m.text) refl;
      in_range = rw (y.value, m.value, total) (le-leb n most_months h);
      value = rw (y.value, m.value, total) refl;
    }

no_months : YearMonthOf (codes "P0M") (pos 0)
unfolding number_after
no_months = record {
  tree = record { negative = false; years = None; months = Some (codes "0") };
  valid = record { years = tt; months = (omega arith, refl); some = refl };
  whole = refl;
  in_range = refl;
  value = refl;
}

year_month_tree : (z : ℤ) → IsMonths z → YearMonthOf (year_month_text z) z
unfolding year_month_text
year_month_tree (pos zero) h = no_months
year_month_tree (pos (suc n)) h =
    let other = ne_eqb (suc n) 0 (λ e. absurd (omega arith)) in
    rw (other, not_below (suc n)) (months_tree false (suc n) (omega arith) (omega (arith, signed_arith)))
year_month_tree (negsuc n) h =
    let other = ne_eqb (suc n) 0 (λ e. absurd (omega arith)) in
    rw other (months_tree true (suc n) (omega arith) (omega (arith, signed_arith)))

months_in_range : (text : List ℕ) (z : ℤ) → read_year_month text ≡ Ok z → IsMonths z
unfolding read_year_month
months_in_range text z h =
    let whole = without_minus text in
    within_read most_months (begins_with 45 text) (months_of (drop 1 whole)) z
    (if_ok_or_err (is_years_and_months whole) (within most_months (begins_with 45 text) (months_of (drop 1 whole))) NotThisType z h).1

pub year_month_reads : (text : List ℕ) (z : ℤ) → read_year_month text ≡ Ok z → read_year_month (trimmed (year_month_text z)) ≡ Ok z
year_month_reads text z h =
    tree_reads IsYearMonth print_year_month year_month_value is_year_month_in_range read_year_month (year_month_text z) z
    year_month_means year_month_plain (year_month_tree z (months_in_range text z h))

-- ---- days, hours, minutes and seconds

-- the seconds that this many nanoseconds print as
record SecondsWritten (n : ℕ) : Type 0 where
  seconds : Option Seconds
  valid : IsSeconds seconds
  text : seconds_text n ≡ print_seconds seconds
  value : seconds_nanos seconds ≡ n
  kept : is_seconds_short seconds ≡ true
  there : 0 < n → is_some seconds ≡ true

seconds_written : (n : ℕ) → n < 60_000_000_000 → SecondsWritten n
unfolding seconds_text
seconds_written n h = by_zero (n == 0) refl
  where
    by_zero : (b : Bool) → (n == 0) ≡ b → SecondsWritten n
    by_zero true e = let none : n ≡ 0 = eqb-true n 0 e in record { seconds = None; valid = tt; text = rw e refl; value = sym none; kept = refl; there = λ some. absurd (omega arith) }
    by_zero false e =
        let f = fraction_written (n % 1_000_000_000) (omega arith) in
        let value = f.value in
        record {
          seconds = Some (record { whole = decimal (n / 1_000_000_000); fraction = f.fraction });
          valid = (numeral_decimal (n / 1_000_000_000) (omega arith), f.valid);
          text = rw (e, f.text) refl;
          value = rw (number_decimal (n / 1_000_000_000) (omega arith)) (omega arith);
          kept = f.kept;
          there = λ some. refl;
        }

-- the nanoseconds of a day
abbrev day : ℕ
day = 86_400_000_000_000

-- the hours, minutes and seconds that this many nanoseconds print as
record ClockWritten (n : ℕ) : Type 0 where
  clock : Option ClockPart
  valid : IsOptionalClockPart clock
  text : clock_part_text n ≡ print_clock_part clock
  value : clock_part_nanos clock ≡ n
  kept : is_clock_short clock ≡ true
  there : 0 < n → is_some clock ≡ true

clock_there : (n : ℕ) → n < day → (n == 0) ≡ false → ClockWritten n
unfolding clock_part_text
clock_there n small e =
    let some = positive n e in
    let hours = n / 3_600_000_000_000 in
    let minutes = n / 60_000_000_000 % 60 in
    let h = part_written 72 hours (omega arith) in
    let m = part_written 77 minutes (omega arith) in
    let s = seconds_written (n % 60_000_000_000) (omega arith) in
    let h_value = h.value in
    let m_value = m.value in
    let s_value = s.value in
    record {
      clock = Some (record { hours = h.part; minutes = m.part; seconds = s.seconds });
      valid = record {
        hours = h.valid;
        minutes = m.valid;
        seconds = s.valid;
        some = either_written _ _ (hours + minutes) (n % 60_000_000_000) (either_written _ _ hours minutes h.there m.there) s.there (omega arith);
      };
      text = rw (e, h.text, m.text, s.text) refl;
      value = omega arith;
      kept = s.kept;
      there = λ l. refl;
    }

clock_written : (n : ℕ) → n < day → ClockWritten n
unfolding clock_part_text
clock_written n small = by_zero (n == 0) refl
  where
    by_zero : (b : Bool) → (n == 0) ≡ b → ClockWritten n
    by_zero true e = let none : n ≡ 0 = eqb-true n 0 e in record { clock = None; valid = tt; text = rw e refl; value = sym none; kept = refl; there = λ some. absurd (omega arith) }
    by_zero false e = clock_there n small e

abbrev DayTimeOf : List ℕ → ℤ → Type 0
DayTimeOf = IsTreeOf ℤ DayTime IsDayTime print_day_time day_time_value is_day_time_in_range

-- the tree of this many nanoseconds, not zero
nanos_tree : (b : Bool) (n : ℕ) → 0 < n → n ≤ most_nanos → DayTimeOf (print_minus b ++ codes "P" ++ part_text (n / 86_400_000_000_000) 68 ++ clock_part_text (n % 86_400_000_000_000)) (with_sign b n)
nanos_tree b n some h =
    let d = part_written 68 (n / 86_400_000_000_000) (omega arith) in
    let c = clock_written (n % 86_400_000_000_000) (omega arith) in
    let total : n / 86_400_000_000_000 * 86_400_000_000_000 + n % 86_400_000_000_000 ≡ n = omega arith in
    record {
      tree = record { negative = b; days = d.part; clock = c.clock };
      valid = record { days = d.valid; clock = c.valid; some = either_written _ _ (n / 86_400_000_000_000) (n % 86_400_000_000_000) d.there c.there (omega arith) };
      whole = rw (d.text, c.text) refl;
      in_range = rw (c.kept, d.value, c.value, total) (le-leb n most_nanos h);
      value = rw (d.value, c.value, total) refl;
    }

no_nanos : DayTimeOf (codes "PT0S") (pos 0)
unfolding number_after
no_nanos = record {
  tree = record { negative = false; days = None; clock = Some (record { hours = None; minutes = None; seconds = Some (record { whole = codes "0"; fraction = None }) }) };
  valid = record { days = tt; clock = record { hours = tt; minutes = tt; seconds = ((omega arith, refl), tt); some = refl }; some = refl };
  whole = refl;
  in_range = refl;
  value = refl;
}

day_time_tree : (z : ℤ) → IsNanos z → DayTimeOf (day_time_text z) z
unfolding day_time_text
day_time_tree (pos zero) h = no_nanos
day_time_tree (pos (suc n)) h =
    let other = ne_eqb (suc n) 0 (λ e. absurd (omega arith)) in
    rw (other, not_below (suc n)) (nanos_tree false (suc n) (omega arith) (omega (arith, signed_arith)))
day_time_tree (negsuc n) h =
    let other = ne_eqb (suc n) 0 (λ e. absurd (omega arith)) in
    rw other (nanos_tree true (suc n) (omega arith) (omega (arith, signed_arith)))

nanos_in_range : (text : List ℕ) (z : ℤ) → read_day_time text ≡ Ok z → IsNanos z
unfolding read_day_time
nanos_in_range text z h =
    let whole = without_minus text in
    let clock = drop 1 (after_part 68 (drop 1 whole)) in
    let found = within most_nanos (begins_with 45 text) (nanos_of (part 68 (drop 1 whole)) clock) in
    let k = if_ok_or_err (is_days_and_clock whole) (if has_short_fraction clock then found else Err OutOfRange) NotThisType z h in
    within_read most_nanos (begins_with 45 text) (nanos_of (part 68 (drop 1 whole)) clock) z (if_ok_or_err (has_short_fraction clock) found OutOfRange z k.1).1

pub day_time_reads : (text : List ℕ) (z : ℤ) → read_day_time text ≡ Ok z → read_day_time (trimmed (day_time_text z)) ≡ Ok z
day_time_reads text z h =
    tree_reads IsDayTime print_day_time day_time_value is_day_time_in_range read_day_time (day_time_text z) z
    day_time_means day_time_plain (day_time_tree z (nanos_in_range text z h))
