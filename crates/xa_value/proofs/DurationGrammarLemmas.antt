-- Reading durations agrees with their grammar.
use Rattle.std.proofs.Common.{◌≡◌, ℕ, ◌+◌, ◌*◌, ◌<◌, Bool, true, false, not, ◌&&◌, ◌||◌, ◌⊎◌, inl, inr, List, [], ◌∷◌, ◌++◌, length, drop, ℤ, Option, Some, None, Result, Ok, Err, refl, sym, ap, ◌∙◌, arith, length-append, append_assoc}
use Rattle.std.specs.Prelude.{codes, ◌==◌, is_some, if◌then◌else◌, nat_le}
use Rattle.std.proofs.lemmas.List.{append-nil}
use Rattle.std.proofs.lemmas.Bool.{and_parts}
use borrow.Author.Tests.{ne_eqb}
use Rattle.xa_value.specs.declared.read_error.ReadError.{ReadError}
use Rattle.xa_value.specs.declared.read_error.ReadError.TheVariants.{NotThisType, OutOfRange}
use Rattle.xa_value.specs.Lexical.{number_after, trimmed, with_sign}
use Rattle.xa_value.specs.parsing.Lexical.{begins_with, digit_count}
use Rattle.xa_value.specs.Time.{nanoseconds}
use Rattle.xa_value.specs.parsing.Time.{fraction_length}
use Rattle.xa_value.specs.Duration.{most_months, most_nanos}
use Rattle.xa_value.specs.parsing.Duration.{part_length, part, after, after_part, seconds_length, without_minus, within, is_years_and_months, months_of, read_year_month, is_clock_part, is_days_and_clock, nanos_of, has_short_fraction, read_day_time}
use Rattle.xa_value.specs.DigitGrammar.{IsOptionalNumeral, count, print_minus, print_fraction}
use Rattle.xa_value.specs.DurationGrammar.{print_part, YearMonth, IsYearMonth, print_year_month, year_month_value, is_year_month_in_range, Seconds, ClockPart, DayTime, print_seconds, print_clock_part, print_day_time, IsSeconds, IsClockPart, IsOptionalClockPart, IsDayTime, clock_part_nanos, is_clock_short, day_time_value, is_day_time_in_range}
use Rattle.xa_value.proofs.DigitGrammarLemmas.{begins_at, emptied, Solid-minus}
use Rattle.xa_value.proofs.SolidLemmas.{Solid, Solid-append, trimmed_solid}
use Rattle.xa_value.proofs.PartGrammarLemmas.{no_digit_no_part, PartIs, part_is, not_part, part_split, seconds_are, seconds_split, Solid-part, Solid-seconds}

-- ---- what both have

-- a text is its minus, if any, and what follows
minus_split : (text : List ℕ) → text ≡ print_minus (begins_with 45 text) ++ without_minus text
unfolding without_minus
minus_split text = by_minus (begins_with 45 text) refl
  where
    by_minus : (b : Bool) → begins_with 45 text ≡ b → text ≡ print_minus b ++ (if b then drop 1 text else text)
    by_minus true e = begins_at 45 0 text e
    by_minus false e = refl

-- a text is its minus, `P` and what follows
marked : (b : Bool) (x y rest : List ℕ) → rest ≡ x ++ y → print_minus b ++ (80 ∷ rest) ≡ print_minus b ++ codes "P" ++ x ++ y
marked true x y rest e = ap (λ t. 45 ∷ 80 ∷ t) e
marked false x y rest e = ap (λ t. 80 ∷ t) e

-- a mark is not all there is
past_mark : (text : List ℕ) (c : ℕ) → 0 < length text → (length (c ∷ text) == 1) ≡ false
past_mark text c some = ne_eqb (length (c ∷ text)) 1 (λ k. absurd (omega arith))

-- where a part is there, its text is not empty
either_printed : (u v : ℕ) (p q : Option (List ℕ)) → IsOptionalNumeral p → IsOptionalNumeral q → (is_some p || is_some q) ≡ true → 0 < length (print_part (u ∷ []) p ++ print_part (v ∷ []) q)
either_printed u v None None p q e = absurd (cc)
either_printed u v None (Some ds) p q e = let some = q.0 in omega (arith, length-append ds (v ∷ []))
either_printed u v (Some ds) q' p q e = let some = p.0 in omega (arith, length-append (ds ++ u ∷ []) (print_part (v ∷ []) q'), length-append ds (u ∷ []))

-- ---- years and months

record MonthsAre (years months : Option (List ℕ)) (body : List ℕ) : Type 0 where
  value : months_of body ≡ count years * 12 + count months
  after : after_part 77 (after_part 89 body) ≡ []

months_are : (years months : Option (List ℕ)) → IsOptionalNumeral years → IsOptionalNumeral months → MonthsAre years months (print_part (codes "Y") years ++ print_part (codes "M") months)
unfolding months_of
months_are years months y_valid m_valid =
    let last = print_part (codes "M") months in
    let nil = append-nil last in
    let none : part_length 89 last ≡ 0 = ap (part_length 89) (sym nil) ∙ not_part 89 77 months [] m_valid refl refl (no_digit_no_part 89 [] refl) in
    let y_is = part_is 89 years last y_valid refl none in
    let m_is : PartIs 77 (count months) last [] = rw nil at (part_is 77 months [] m_valid refl (no_digit_no_part 77 [] refl)) in
    record { value = rw (y_is.value, y_is.after, m_is.value) refl; after = rw (y_is.after) m_is.after }

months_shape : (years months : Option (List ℕ)) → IsOptionalNumeral years → IsOptionalNumeral months → (is_some years || is_some months) ≡ true
    → is_years_and_months (80 ∷ (print_part (codes "Y") years ++ print_part (codes "M") months)) ≡ true
unfolding is_years_and_months
months_shape years months y_valid m_valid some =
    let k = months_are years months y_valid m_valid in
    rw (past_mark (print_part (codes "Y") years ++ print_part (codes "M") months) 80 (either_printed 89 77 years months y_valid m_valid some), k.after) refl

year_month_signed : (b : Bool) (years months : Option (List ℕ)) → IsOptionalNumeral years → IsOptionalNumeral months → (is_some years || is_some months) ≡ true
    → read_year_month (print_minus b ++ codes "P" ++ print_part (codes "Y") years ++ print_part (codes "M") months) ≡ (if nat_le (count years * 12 + count months) most_months then Ok (with_sign b (count years * 12 + count months)) else Err OutOfRange)
unfolding read_year_month without_minus within
year_month_signed true years months y_valid m_valid some = rw (months_shape years months y_valid m_valid some, (months_are years months y_valid m_valid).value) refl
year_month_signed false years months y_valid m_valid some = rw (months_shape years months y_valid m_valid some, (months_are years months y_valid m_valid).value) refl

-- a text of the grammar reads as what it means
pub year_month_means : (d : YearMonth) → IsYearMonth d → read_year_month (print_year_month d) ≡ (if is_year_month_in_range d then Ok (year_month_value d) else Err OutOfRange)
year_month_means d valid = year_month_signed d.negative d.years d.months valid.years valid.months valid.some

pub year_month_plain : (d : YearMonth) → IsYearMonth d → trimmed (print_year_month d) ≡ print_year_month d
year_month_plain d valid =
    trimmed_solid (print_year_month d)
    (Solid-append _ (print_part (codes "M") d.months)
    (Solid-append _ (print_part (codes "Y") d.years) (Solid-append (print_minus d.negative) (codes "P") (Solid-minus d.negative) (refl, tt)) (Solid-part 89 d.years valid.years (refl, tt)))
    (Solid-part 77 d.months valid.months (refl, tt)))

either_there : (u v : ℕ) (p q : Option (List ℕ)) (text : List ℕ) → text ≡ print_part (u ∷ []) p ++ print_part (v ∷ []) q → not (length (80 ∷ text) == 1) ≡ true → (is_some p || is_some q) ≡ true
either_there u v None None text e h = absurd (let k : false ≡ true = rw e at h in cc)
either_there u v None (Some ds) text e h = refl
either_there u v (Some ds) q text e h = refl

year_month_tree : (text : List ℕ) → is_years_and_months (without_minus text) ≡ true → (d : YearMonth) × IsYearMonth d × (text ≡ print_year_month d)
unfolding is_years_and_months
year_month_tree text h =
    let whole = without_minus text in
    let body = drop 1 whole in
    let last = after_part 77 (after_part 89 body) in
    let k = and_parts (begins_with 80 whole && not (length whole == 1)) (length last == 0) h in
    let j = and_parts (begins_with 80 whole) (not (length whole == 1)) k.0 in
    let mark : whole ≡ 80 ∷ body = begins_at 80 0 whole j.0 in
    let y = part_split 89 body in
    let m = part_split 77 (after_part 89 body) in
    let m_whole : after_part 89 body ≡ print_part (codes "M") m.part = m.whole ∙ ap (λ t. print_part (codes "M") m.part ++ t) (emptied last k.1) ∙ append-nil (print_part (codes "M") m.part) in
    let parts : body ≡ print_part (codes "Y") y.part ++ print_part (codes "M") m.part = y.whole ∙ ap (λ t. print_part (codes "Y") y.part ++ t) m_whole in (
      record { negative = begins_with 45 text; years = y.part; months = m.part },
      record { years = y.valid; months = m.valid; some = either_there 89 77 y.part m.part body parts (rw mark at j.1) },
      minus_split text ∙ ap (λ t. print_minus (begins_with 45 text) ++ t) mark
          ∙ marked (begins_with 45 text) (print_part (codes "Y") y.part) (print_part (codes "M") m.part) body parts,
    )

-- a text that is of this type is a text of the grammar
pub year_month_covers : (text : List ℕ) → ((d : YearMonth) × IsYearMonth d × (text ≡ print_year_month d)) ⊎ (read_year_month text ≡ Err NotThisType)
unfolding read_year_month
year_month_covers text = by_shape (is_years_and_months (without_minus text)) refl
  where
    by_shape : (b : Bool) → is_years_and_months (without_minus text) ≡ b → ((d : YearMonth) × IsYearMonth d × (text ≡ print_year_month d)) ⊎ (read_year_month text ≡ Err NotThisType)
    by_shape true e = inl (year_month_tree text e)
    by_shape false e = inr (rw e refl)

-- ---- hours, minutes and seconds

record BodyIs (c : ClockPart) (text : List ℕ) : Type 0 where
  value : (d : ℕ) → nanos_of d text ≡ d * 86_400_000_000_000 + clock_part_nanos (Some c)
  kept : has_short_fraction text ≡ is_clock_short (Some c)
  after : after (seconds_length (after_part 77 (after_part 72 text))) (after_part 77 (after_part 72 text)) ≡ []

-- the text after `T`
abbrev print_body : ClockPart → List ℕ
print_body c = print_part (codes "H") c.hours ++ (print_part (codes "M") c.minutes ++ print_seconds c.seconds)

body_is : (c : ClockPart) → IsClockPart c → BodyIs c (print_body c)
unfolding nanos_of has_short_fraction
body_is c valid =
    let last = print_seconds c.seconds in
    let s = seconds_are c.seconds valid.seconds in
    let m_rest = print_part (codes "M") c.minutes ++ last in
    let m = part_is 77 c.minutes last valid.minutes refl (s.no_part 77 refl refl) in
    let h = part_is 72 c.hours m_rest valid.hours refl (not_part 72 77 c.minutes last valid.minutes refl refl (s.no_part 72 refl refl)) in
    let value = s.value in
    record {
      value = λ d. rw (h.value, h.after, m.value, m.after) (omega arith);
      kept = rw (h.after, m.after) s.kept;
      after = rw (h.after, m.after) s.after;
    }

seconds_printed : (s : Option Seconds) → IsSeconds s → is_some s ≡ true → 0 < length (print_seconds s)
seconds_printed None valid e = absurd (cc)
seconds_printed (Some s) valid e =
    let some = valid.0.0 in
    let text = s.whole ++ print_fraction s.fraction in
    omega (arith, length-append text (codes "S"), length-append s.whole (print_fraction s.fraction))

-- where a part is there, the text after `T` is not empty
body_printed : (h m : Option (List ℕ)) (s : Option Seconds) → IsOptionalNumeral h → IsOptionalNumeral m → IsSeconds s → (is_some h || is_some m || is_some s) ≡ true
    → 0 < length (print_part (codes "H") h ++ (print_part (codes "M") m ++ print_seconds s))
body_printed None None s h m valid e = seconds_printed s valid e
body_printed None (Some ds) s h m valid e = let some = m.0 in omega (arith, length-append (ds ++ codes "M") (print_seconds s), length-append ds (codes "M"))
body_printed (Some ds) m' s h m valid e =
    let some = h.0 in
    omega (arith, length-append (ds ++ codes "H") (print_part (codes "M") m' ++ print_seconds s), length-append ds (codes "H"))

-- what the reader finds after the days
record ClockIs (c : Option ClockPart) (text : List ℕ) : Type 0 where
  no_digit : digit_count text ≡ 0
  shape : ((length text == 0) || is_clock_part text) ≡ true
  kept : has_short_fraction (drop 1 text) ≡ is_clock_short c
  value : (d : ℕ) → nanos_of d (drop 1 text) ≡ d * 86_400_000_000_000 + clock_part_nanos c

no_clock : ClockIs None []
unfolding nanos_of has_short_fraction part_length seconds_length number_after nanoseconds fraction_length
no_clock = record { no_digit = refl; shape = refl; kept = refl; value = λ d. omega arith }

clock_regroup : (c : ClockPart) → print_clock_part (Some c) ≡ 84 ∷ print_body c
clock_regroup c = ap (λ t. 84 ∷ t) (append_assoc (print_part (codes "H") c.hours) (print_part (codes "M") c.minutes) (print_seconds c.seconds))

clock_here : (c : ClockPart) → IsClockPart c → ClockIs (Some c) (84 ∷ print_body c)
unfolding is_clock_part
clock_here c valid =
    let k = body_is c valid in
    let some = body_printed c.hours c.minutes c.seconds valid.hours valid.minutes valid.seconds valid.some in
    record { no_digit = refl; shape = rw (past_mark (print_body c) 84 some, k.after) (or_true (length (84 ∷ print_body c) == 0)); kept = k.kept; value = k.value }
  where
    or_true : (b : Bool) → (b || true) ≡ true
    or_true true = refl
    or_true false = refl

clock_is : (c : Option ClockPart) → IsOptionalClockPart c → ClockIs c (print_clock_part c)
clock_is None valid = no_clock
clock_is (Some c) valid = rw (clock_regroup c) (clock_here c valid)

-- ---- days and clock

record DaysAre (d : Option (List ℕ)) (c : Option ClockPart) (body : List ℕ) : Type 0 where
  shape : is_days_and_clock (80 ∷ body) ≡ true
  kept : has_short_fraction (drop 1 (after_part 68 body)) ≡ is_clock_short c
  value : nanos_of (part 68 body) (drop 1 (after_part 68 body)) ≡ count d * 86_400_000_000_000 + clock_part_nanos c

-- where the days or the clock are there, the text after `P` is not empty
days_printed : (d : Option (List ℕ)) (c : Option ClockPart) → IsOptionalNumeral d → (is_some d || is_some c) ≡ true → 0 < length (print_part (codes "D") d ++ print_clock_part c)
days_printed None None valid e = absurd (cc)
days_printed None (Some c) valid e = omega arith
days_printed (Some ds) c valid e = let some = valid.0 in omega (arith, length-append (ds ++ codes "D") (print_clock_part c), length-append ds (codes "D"))

days_are : (d : Option (List ℕ)) (c : Option ClockPart) → IsOptionalNumeral d → IsOptionalClockPart c → (is_some d || is_some c) ≡ true → DaysAre d c (print_part (codes "D") d ++ print_clock_part c)
unfolding is_days_and_clock
days_are d c d_valid c_valid some =
    let clock = clock_is c c_valid in
    let k = part_is 68 d (print_clock_part c) d_valid refl (no_digit_no_part 68 (print_clock_part c) clock.no_digit) in
    record {
      shape = rw (past_mark (print_part (codes "D") d ++ print_clock_part c) 80 (days_printed d c d_valid some), k.after) clock.shape;
      kept = rw k.after clock.kept;
      value = rw (k.value, k.after) (clock.value (count d));
    }

-- two tests in turn, or both at once
both_tests : (x y : Bool) (p q : Result ℤ ReadError) → (if x then (if y then p else q) else q) ≡ (if x && y then p else q)
both_tests true y p q = refl
both_tests false y p q = refl

day_time_signed : (b : Bool) (d : Option (List ℕ)) (c : Option ClockPart) → IsOptionalNumeral d → IsOptionalClockPart c → (is_some d || is_some c) ≡ true
    → read_day_time (print_minus b ++ codes "P" ++ print_part (codes "D") d ++ print_clock_part c)
    ≡ (if is_clock_short c && nat_le (count d * 86_400_000_000_000 + clock_part_nanos c) most_nanos then Ok (with_sign b (count d * 86_400_000_000_000 + clock_part_nanos c)) else Err OutOfRange)
unfolding read_day_time without_minus within
day_time_signed true d c d_valid c_valid some = let k = days_are d c d_valid c_valid some in rw (k.shape, k.kept, k.value) (both_tests (is_clock_short c) _ _ _)
day_time_signed false d c d_valid c_valid some = let k = days_are d c d_valid c_valid some in rw (k.shape, k.kept, k.value) (both_tests (is_clock_short c) _ _ _)

-- a text of the grammar reads as what it means
pub day_time_means : (d : DayTime) → IsDayTime d → read_day_time (print_day_time d) ≡ (if is_day_time_in_range d then Ok (day_time_value d) else Err OutOfRange)
day_time_means d valid = day_time_signed d.negative d.days d.clock valid.days valid.clock valid.some

Solid-clock : (c : Option ClockPart) → IsOptionalClockPart c → Solid (print_clock_part c)
Solid-clock None valid = tt
Solid-clock (Some c) valid = (
  refl,
  Solid-append (print_part (codes "H") c.hours ++ print_part (codes "M") c.minutes) (print_seconds c.seconds)
      (Solid-append (print_part (codes "H") c.hours) (print_part (codes "M") c.minutes) (Solid-part 72 c.hours valid.hours (refl, tt)) (Solid-part 77 c.minutes valid.minutes (refl, tt)))
      (Solid-seconds c.seconds valid.seconds),
)

pub day_time_plain : (d : DayTime) → IsDayTime d → trimmed (print_day_time d) ≡ print_day_time d
day_time_plain d valid =
    trimmed_solid (print_day_time d)
    (Solid-append _ (print_clock_part d.clock)
    (Solid-append _ (print_part (codes "D") d.days) (Solid-append (print_minus d.negative) (codes "P") (Solid-minus d.negative) (refl, tt)) (Solid-part 68 d.days valid.days (refl, tt)))
    (Solid-clock d.clock valid.clock))

-- hours, minutes and seconds, and the text that they are
record BodySplit (text : List ℕ) : Type 0 where
  clock : ClockPart
  valid : IsClockPart clock
  whole : 84 ∷ text ≡ print_clock_part (Some clock)

part_there : (h m : Option (List ℕ)) (s : Option Seconds) (text : List ℕ) → text ≡ print_part (codes "H") h ++ (print_part (codes "M") m ++ print_seconds s)
    → not (length (84 ∷ text) == 1) ≡ true → (is_some h || is_some m || is_some s) ≡ true
part_there None None None text e h = absurd (let k : false ≡ true = rw e at h in cc)
part_there None None (Some s) text e h = refl
part_there None (Some ds) s text e h = refl
part_there (Some ds) m s text e h = refl

body_split : (text : List ℕ) → is_clock_part (84 ∷ text) ≡ true → BodySplit text
unfolding is_clock_part
body_split text shape =
    let rest = after_part 77 (after_part 72 text) in
    let k = and_parts (not (length (84 ∷ text) == 1)) (length (after (seconds_length rest) rest) == 0) shape in
    let h = part_split 72 text in
    let m = part_split 77 (after_part 72 text) in
    let s = seconds_split rest (emptied (after (seconds_length rest) rest) k.1) in
    let clock : ClockPart = record { hours = h.part; minutes = m.part; seconds = s.seconds } in
    let m_whole : after_part 72 text ≡ print_part (codes "M") m.part ++ print_seconds s.seconds = m.whole ∙ ap (λ t. print_part (codes "M") m.part ++ t) s.whole in
    let whole : text ≡ print_body clock = h.whole ∙ ap (λ t. print_part (codes "H") h.part ++ t) m_whole in
    record {
      clock = clock;
      valid = record { hours = h.valid; minutes = m.valid; seconds = s.valid; some = part_there h.part m.part s.seconds text whole k.0 };
      whole = ap (λ t. 84 ∷ t) whole ∙ sym (clock_regroup clock);
    }

clock_begins : (text : List ℕ) → is_clock_part text ≡ true → text ≡ 84 ∷ drop 1 text
unfolding is_clock_part
clock_begins text h =
    let rest = after_part 77 (after_part 72 (drop 1 text)) in
    let k = and_parts (begins_with 84 text && not (length text == 1)) (length (after (seconds_length rest) rest) == 0) h in
    begins_at 84 0 text (and_parts (begins_with 84 text) (not (length text == 1)) k.0).0

-- what follows the days, and the text that it is
record ClockSplit (text : List ℕ) : Type 0 where
  clock : Option ClockPart
  valid : IsOptionalClockPart clock
  whole : text ≡ print_clock_part clock

clock_split : (text : List ℕ) → ((length text == 0) || is_clock_part text) ≡ true → ClockSplit text
clock_split text shape = by_length (length text == 0) refl
  where
    by_length : (b : Bool) → (length text == 0) ≡ b → ClockSplit text
    by_length true e = record { clock = None; valid = tt; whole = emptied text e }
    by_length false e =
        let there : is_clock_part text ≡ true = rw e at shape in
        let mark : text ≡ 84 ∷ drop 1 text = clock_begins text there in
        let k = body_split (drop 1 text) (rw mark at there) in
        record { clock = Some k.clock; valid = k.valid; whole = mark ∙ k.whole }

days_there : (d : Option (List ℕ)) (c : Option ClockPart) (text : List ℕ) → text ≡ print_part (codes "D") d ++ print_clock_part c → not (length (80 ∷ text) == 1) ≡ true → (is_some d || is_some c) ≡ true
days_there None None text e h = absurd (let k : false ≡ true = rw e at h in cc)
days_there None (Some c) text e h = refl
days_there (Some ds) c text e h = refl

day_time_tree : (text : List ℕ) → is_days_and_clock (without_minus text) ≡ true → (d : DayTime) × IsDayTime d × (text ≡ print_day_time d)
unfolding is_days_and_clock
day_time_tree text h =
    let whole = without_minus text in
    let body = drop 1 whole in
    let rest = after_part 68 body in
    let k = and_parts (begins_with 80 whole && not (length whole == 1)) ((length rest == 0) || is_clock_part rest) h in
    let j = and_parts (begins_with 80 whole) (not (length whole == 1)) k.0 in
    let mark : whole ≡ 80 ∷ body = begins_at 80 0 whole j.0 in
    let d = part_split 68 body in
    let c = clock_split rest k.1 in
    let parts : body ≡ print_part (codes "D") d.part ++ print_clock_part c.clock = d.whole ∙ ap (λ t. print_part (codes "D") d.part ++ t) c.whole in (
      record { negative = begins_with 45 text; days = d.part; clock = c.clock },
      record { days = d.valid; clock = c.valid; some = days_there d.part c.clock body parts (rw mark at j.1) },
      minus_split text ∙ ap (λ t. print_minus (begins_with 45 text) ++ t) mark
          ∙ marked (begins_with 45 text) (print_part (codes "D") d.part) (print_clock_part c.clock) body parts,
    )

-- a text that is of this type is a text of the grammar
pub day_time_covers : (text : List ℕ) → ((d : DayTime) × IsDayTime d × (text ≡ print_day_time d)) ⊎ (read_day_time text ≡ Err NotThisType)
unfolding read_day_time
day_time_covers text = by_shape (is_days_and_clock (without_minus text)) refl
  where
    by_shape : (b : Bool) → is_days_and_clock (without_minus text) ≡ b → ((d : DayTime) × IsDayTime d × (text ≡ print_day_time d)) ⊎ (read_day_time text ≡ Err NotThisType)
    by_shape true e = inl (day_time_tree text e)
    by_shape false e = inr (rw e refl)
