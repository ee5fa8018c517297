-- Times that were read print as texts that read as the same.
use Rattle.std.proofs.Common.{◌≡◌, ℕ, zero, suc, ◌+◌, ◌-◌, ◌*◌, ◌/◌, ◌%◌, ◌^◌, ◌<◌, ◌≤◌, Bool, true, false, not, ◌&&◌, List, ◌++◌, length, drop, ℤ, Option, Some, None, Result, Ok, Err, refl, sym, ap, subst, ◌∙◌, arith}
use Rattle.std.specs.Prelude.{codes, ◌==◌}
use Rattle.std.proofs.lemmas.List.{length-take}
use Rattle.std.proofs.lemmas.Bool.{eqb-true}
use native.Mathlib.Nat.{pow-succ', pow-zero, mul_assoc, pow-suc}
use borrow.Author.Tests.{le-leb}
use Rattle.xa_value.specs.declared.read_error.ReadError.{ReadError}
use Rattle.xa_value.specs.declared.read_error.ReadError.TheVariants.{NotThisType, OutOfRange}
use Rattle.xa_value.specs.Gives.{◌>>=◌}
use Rattle.xa_value.specs.Lexical.{number, number_after, last_digits, trimmed}
use Rattle.xa_value.specs.parsing.Lexical.{has_shape}
use Rattle.xa_value.specs.Time.{ClockTime, day_nanos, nanoseconds, significant_digits, fraction_text, clock_text, time_text}
use Rattle.xa_value.specs.parsing.Time.{fraction_length, fraction_digits, is_clock, clock_nanos, time_of, read_time}
use Rattle.xa_value.specs.Zone.{zone_text}
use Rattle.xa_value.specs.parsing.Zone.{read_zone}
use Rattle.xa_value.proofs.TimeLemmas.{clock_bounds, nanoseconds_lt, fraction_digits_count}
use Rattle.xa_value.proofs.NumeralLemmas.{Digits}
use Rattle.xa_value.specs.TimeGrammar.{Time, IsTime, print_time, time_value, is_time_in_range}
use Rattle.xa_value.specs.DigitGrammar.{IsOptionalNumeral, print_fraction, fraction_nanos, is_short}
use Rattle.xa_value.proofs.DigitGrammarLemmas.{all-from_Digits}
use Rattle.xa_value.proofs.PrintedLemmas.{IsTreeOf, tree_reads, positive, Digits-padded, length-padded, number-padded, digits_padded}
use Rattle.xa_value.proofs.TimeGrammarLemmas.{time_means, time_plain}
use Rattle.xa_value.proofs.ZoneLemmas.{IsZone, zone_read, zone_written, if_ok_or_err}

-- the digits of a fraction, as long as they are
record Significant (count n : ℕ) (ds : List ℕ) : Type 0 where
  digits : Digits ds
  short : length ds ≤ count
  value : number ds * 10 ^ (count - length ds) ≡ n
  some : 0 < n → 0 < length ds

one_zero_more : (count n : ℕ) (ds : List ℕ) → n % 10 ≡ 0 → Significant count (n / 10) ds → Significant (suc count) n ds
one_zero_more count n ds e ih =
    let within = ih.short in
    let places : suc count - length ds ≡ suc (count - length ds) = omega arith in
    let value : number ds * 10 ^ (suc count - length ds) ≡ n / 10 * 10 =
    ap (λ k. number ds * 10 ^ k) places ∙ ap (λ p. number ds * p) (pow-suc 10 (count - length ds)) ∙ sym (mul_assoc (number ds) (10 ^ (count - length ds)) 10) ∙ ap (λ v. v * 10) ih.value in
    record { digits = ih.digits; short = omega arith; value = omega arith; some = λ l. ih.some (omega arith) }

all_digits : (count n : ℕ) → n < 10 ^ count → 0 < count → Significant count n (last_digits count n)
all_digits count n h some =
    let size = length-padded count n in
    let none : count - length (last_digits count n) ≡ 0 = omega arith in
    let value : number (last_digits count n) * 10 ^ (count - length (last_digits count n)) ≡ n =
    ap (λ k. number (last_digits count n) * 10 ^ k) none ∙ ap (λ p. number (last_digits count n) * p) (pow-zero 10) ∙ omega (arith, number-padded count n h) in
    record { digits = Digits-padded count n; short = omega arith; value = value; some = λ l. omega arith }

significant_reads : (count n : ℕ) → n < 10 ^ count → Significant count n (significant_digits count n)
unfolding significant_digits number_after
significant_reads zero n h = record {
  digits = refl;
  short = omega arith;
  value = let none : n ≡ 0 = omega (arith, pow-zero 10) in rw none refl;
  some = λ l. absurd (omega (arith, pow-zero 10));
}
significant_reads (suc count) n h = by_last (n % 10 == 0) refl (significant_reads count (n / 10) (omega (arith, pow-succ' 10 count)))
  where
    by_last : (b : Bool) → (n % 10 == 0) ≡ b → Significant count (n / 10) (significant_digits count (n / 10)) → Significant (suc count) n (significant_digits (suc count) n)
    by_last true e ih = rw e (one_zero_more count n (significant_digits count (n / 10)) (eqb-true (n % 10) 0 e) ih)
    by_last false e ih = rw e (all_digits (suc count) n h (omega arith))

-- the fraction that this many nanoseconds print as
pub record FractionWritten (n : ℕ) : Type 0 where
  pub fraction : Option (List ℕ)
  pub valid : IsOptionalNumeral fraction
  pub text : fraction_text n ≡ print_fraction fraction
  pub value : fraction_nanos fraction ≡ n
  pub kept : is_short fraction ≡ true

pub fraction_written : (n : ℕ) → n < 1_000_000_000 → FractionWritten n
unfolding fraction_text nanoseconds
fraction_written n h = by_zero (n == 0) refl
  where
    by_zero : (b : Bool) → (n == 0) ≡ b → FractionWritten n
    by_zero true e = record { fraction = None; valid = tt; text = rw e refl; value = sym (eqb-true n 0 e); kept = refl }
    by_zero false e =
        let k = significant_reads 9 n h in
        record {
          fraction = Some (significant_digits 9 n);
          valid = (k.some (positive n e), all-from_Digits (significant_digits 9 n) k.digits);
          text = rw e refl;
          value = k.value;
          kept = le-leb (length (significant_digits 9 n)) 9 k.short;
        }

-- what two steps that gave a value show
pub bind_ok : {A B : Type 0} (r : Result A ReadError) (f : A → Result B ReadError) (b : B) → (r >>= f) ≡ Ok b → (a : A) × (r ≡ Ok a) × (f a ≡ Ok b)
bind_ok (Ok a) f b h = (a, refl, h)
bind_ok (Err e) f b h = absurd (cc)

-- a time within a day, in a zone in range
abbrev pub IsClockTime : ClockTime → Type 0
IsClockTime t = (t.nanos < day_nanos) × IsZone t.zone

clock_nanos_lt : (text : List ℕ) → is_clock text ≡ true → clock_nanos text < day_nanos
unfolding clock_nanos nanoseconds
clock_nanos_lt text h =
    let bounds = clock_bounds text h in
    let rest = drop 8 text in
    let size : length (fraction_digits rest) ≤ 9 = omega (arith, length-take (fraction_length rest - 1) (drop 1 rest)) in
    let fraction = nanoseconds_lt (fraction_digits rest) (fraction_digits_count rest) size in
    omega arith

time_of_in_day : (text : List ℕ) (z : Option ℤ) (t : ClockTime) → IsZone z → time_of text z ≡ Ok t → IsClockTime t
unfolding time_of
time_of_in_day text z t offset h =
    let k = if_ok_or_err (is_clock text) (Ok (record { nanos = clock_nanos text; zone = z })) OutOfRange t h in
    let made : ClockTime = record { nanos = clock_nanos text; zone = z } in
    let e : made ≡ t = cc in
    subst IsClockTime e (clock_nanos_lt text k.0, offset)

-- a time that was read lies in a day
pub time_in_day : (text : List ℕ) (t : ClockTime) → read_time text ≡ Ok t → IsClockTime t
unfolding read_time
time_in_day text t h =
    let shape = has_shape (codes "99:99:99") text && not (fraction_length (drop 8 text) == 1) in
    let zoned = read_zone (drop (fraction_length (drop 8 text)) (drop 8 text)) in
    let k = if_ok_or_err shape (zoned >>= λ z. time_of text z) NotThisType t h in
    let steps = bind_ok zoned (λ z. time_of text z) t k.1 in
    time_of_in_day text steps.0 t (zone_read _ steps.0 steps.1) steps.2

abbrev TimeOf : List ℕ → ClockTime → Type 0
TimeOf = IsTreeOf ClockTime Time IsTime print_time time_value is_time_in_range

-- the tree of a time of day
pub time_tree : (nanos : ℕ) (z : Option ℤ) → nanos < day_nanos → IsZone z → TimeOf (clock_text nanos ++ zone_text z) (record { nanos = nanos; zone = z })
unfolding clock_text
time_tree nanos z day offset =
    let f = fraction_written (nanos % 1_000_000_000) (omega arith) in
    let zone = zone_written z offset in
    let h = number-padded 2 (nanos / 3_600_000_000_000) (omega arith) in
    let m = number-padded 2 (nanos / 60_000_000_000 % 60) (omega arith) in
    let s = number-padded 2 (nanos / 1_000_000_000 % 60) (omega arith) in
    let total : ((nanos / 3_600_000_000_000 * 60 + nanos / 60_000_000_000 % 60) * 60 + nanos / 1_000_000_000 % 60) * 1_000_000_000 + nanos % 1_000_000_000 ≡ nanos = omega arith in
    record {
      tree = record {
        clock = record {
          hours = last_digits 2 (nanos / 3_600_000_000_000);
          minutes = last_digits 2 (nanos / 60_000_000_000 % 60);
          seconds = last_digits 2 (nanos / 1_000_000_000 % 60);
          fraction = f.fraction;
        };
        zone = zone.tree;
      };
      valid = (record { hours = digits_padded 2 _; minutes = digits_padded 2 _; seconds = digits_padded 2 _; fraction = f.valid }, zone.valid);
      whole = rw (f.text, zone.text) refl;
      in_range = rw (
        h,
        m,
        s,
        le-leb (nanos / 3_600_000_000_000) 23 (omega arith),
        le-leb (nanos / 60_000_000_000 % 60) 59 (omega arith),
        le-leb (nanos / 1_000_000_000 % 60) 59 (omega arith),
        f.kept,
        zone.in_range,
      ) refl;
      value = rw (h, m, s, f.value, zone.value) (ap (λ n. record { nanos = n; zone = z }) total);
    }

pub time_reads : (text : List ℕ) (t : ClockTime) → read_time text ≡ Ok t → read_time (trimmed (time_text t)) ≡ Ok t
time_reads text t h =
    let k = time_in_day text t h in
    tree_reads IsTime print_time time_value is_time_in_range read_time (time_text t) t time_means time_plain (time_tree t.nanos t.zone k.0 k.1)
