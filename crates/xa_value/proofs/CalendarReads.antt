-- Dates that were read print as texts that read as the same.
use Rattle.std.proofs.Common.{◌≡◌, ℕ, ◌<◌, ◌≤◌, true, List, ◌++◌, drop, ℤ, pos, Option, Ok, refl, ap, subst, ◌∙◌, arith, append_assoc}
use Rattle.std.specs.Prelude.{codes}
use Rattle.jiff_core.specs.Calendar.{days_in_month}
use Rattle.jiff_core.proofs.CalendarLemmas.{days_in_month_bounds}
use Rattle.xa_value.specs.declared.read_error.ReadError.TheVariants.{NotThisType, OutOfRange}
use Rattle.xa_value.specs.Gives.{◌>>=◌}
use Rattle.xa_value.specs.Lexical.{number, last_digits, trimmed}
use Rattle.xa_value.specs.parsing.Lexical.{has_shape, two_digits}
use Rattle.xa_value.specs.Time.{ClockTime, clock_text, day_nanos}
use Rattle.xa_value.specs.parsing.Time.{read_time}
use Rattle.xa_value.specs.Zone.{zone_text}
use Rattle.xa_value.specs.parsing.Zone.{read_zone}
use Rattle.xa_value.specs.Calendar.{CivilDate, CivilDateTime, is_day, day_text, date_text, date_time_text}
use Rattle.xa_value.specs.parsing.Calendar.{date_of, date_time_of, year_of, read_date, read_date_time}
use Rattle.xa_value.proofs.CalendarLemmas.{day_bounds}
use Rattle.xa_value.specs.TimeGrammar.{Day, IsDay, Date as DateTree, IsDate as IsDateTree, print_date, date_value, is_date_in_range, DateTime as DateTimeTree, IsDateTime as IsDateTimeTree, print_date_time, date_time_value, is_date_time_in_range}
use Rattle.xa_value.proofs.PrintedLemmas.{IsTreeOf, tree_reads, number-padded, digits_padded}
use Rattle.xa_value.proofs.CalendarGrammarLemmas.{date_means, date_plain, date_time_means, date_time_plain}
use Rattle.xa_value.proofs.TimeReads.{bind_ok, IsClockTime, time_in_day, time_tree}
use Rattle.xa_value.proofs.ZoneLemmas.{IsZone, zone_read, zone_written, if_ok_or_err}

-- a day of the calendar, in a zone in range
abbrev IsDate : CivilDate → Type 0
IsDate d = (is_day d.year d.month d.day ≡ true) × IsZone d.zone

abbrev IsDateTime : CivilDateTime → Type 0
IsDateTime d = (is_day d.year d.month d.day ≡ true) × (d.nanos < day_nanos) × IsZone d.zone

date_of_is_day : (y m d : ℕ) (z : Option ℤ) (v : CivilDate) → IsZone z → date_of y m d z ≡ Ok v → IsDate v
unfolding date_of
date_of_is_day y m d z v offset h =
    let made : CivilDate = record { year = y; month = m; day = d; zone = z } in
    let k = if_ok_or_err (is_day y m d) (Ok made) OutOfRange v h in
    let e : made ≡ v = cc in
    subst IsDate e (k.0, offset)

-- a date that was read is one
date_read : (text : List ℕ) (v : CivilDate) → read_date text ≡ Ok v → IsDate v
unfolding read_date
date_read text v h =
    let next = λ (z : Option ℤ). date_of (year_of text) (two_digits text 5) (two_digits text 8) z in
    let k = if_ok_or_err (has_shape (codes "9999-99-99") text) (read_zone (drop 10 text) >>= next) NotThisType v h in
    let steps = bind_ok (read_zone (drop 10 text)) next v k.1 in
    date_of_is_day _ _ _ steps.0 v (zone_read (drop 10 text) steps.0 steps.1) steps.2

date_time_of_is_day : (y m d : ℕ) (t : ClockTime) (v : CivilDateTime) → IsClockTime t → date_time_of y m d t ≡ Ok v → IsDateTime v
unfolding date_time_of
date_time_of_is_day y m d t v clock h =
    let made : CivilDateTime = record { year = y; month = m; day = d; nanos = t.nanos; zone = t.zone } in
    let k = if_ok_or_err (is_day y m d) (Ok made) OutOfRange v h in
    let e : made ≡ v = cc in
    subst IsDateTime e (k.0, clock.0, clock.1)

date_time_read : (text : List ℕ) (v : CivilDateTime) → read_date_time text ≡ Ok v → IsDateTime v
unfolding read_date_time
date_time_read text v h =
    let next = λ (t : ClockTime). date_time_of (year_of text) (two_digits text 5) (two_digits text 8) t in
    let k = if_ok_or_err (has_shape (codes "9999-99-99T") text) (read_time (drop 11 text) >>= next) NotThisType v h in
    let steps = bind_ok (read_time (drop 11 text)) next v k.1 in
    date_time_of_is_day _ _ _ steps.0 v (time_in_day (drop 11 text) steps.0 steps.1) steps.2

-- no month has more than 31 days
days_at_most_31 : (y : ℤ) (m d : ℕ) → d ≤ days_in_month y m → d ≤ 31
days_at_most_31 y m d h = let bounds = days_in_month_bounds y m in omega arith

-- the tree of a day
abbrev day_tree : ℕ → ℕ → ℕ → Day
day_tree y m d = record { year = last_digits 4 y; month = last_digits 2 m; day = last_digits 2 d }

day_valid : (y m d : ℕ) → IsDay (day_tree y m d)
day_valid y m d = record { year = digits_padded 4 y; month = digits_padded 2 m; day = digits_padded 2 d }

-- its digits are the numbers
printed_numbers : (y m d : ℕ) → is_day y m d ≡ true → (number (last_digits 4 y) ≡ y) × (number (last_digits 2 m) ≡ m) × (number (last_digits 2 d) ≡ d)
printed_numbers y m d day =
    let bounds = day_bounds y m d day in
    let in_month : d ≤ 31 = days_at_most_31 (pos y) m d bounds.5 in
    (number-padded 4 y (omega arith), number-padded 2 m (omega arith), number-padded 2 d (omega arith))

abbrev DateOf : List ℕ → CivilDate → Type 0
DateOf = IsTreeOf CivilDate DateTree IsDateTree print_date date_value is_date_in_range

-- the tree of a day in a zone
date_tree : (y m d : ℕ) (z : Option ℤ) → is_day y m d ≡ true → IsZone z → DateOf (day_text y m d ++ zone_text z) (record { year = y; month = m; day = d; zone = z })
unfolding day_text
date_tree y m d z day offset =
    let k = printed_numbers y m d day in
    let zone = zone_written z offset in
    record {
      tree = record { day = day_tree y m d; zone = zone.tree };
      valid = (day_valid y m d, zone.valid);
      whole = rw zone.text refl;
      in_range = rw (k.0, k.1, k.2, day, zone.in_range) refl;
      value = rw (k.0, k.1, k.2, zone.value) refl;
    }

abbrev DateTimeOf : List ℕ → CivilDateTime → Type 0
DateTimeOf = IsTreeOf CivilDateTime DateTimeTree IsDateTimeTree print_date_time date_time_value is_date_time_in_range

-- the tree of a time of a day
date_time_tree : (y m d n : ℕ) (z : Option ℤ) → is_day y m d ≡ true → n < day_nanos → IsZone z
    → DateTimeOf (day_text y m d ++ codes "T" ++ clock_text n ++ zone_text z) (record { year = y; month = m; day = d; nanos = n; zone = z })
unfolding day_text
date_time_tree y m d n z day clock offset =
    let k = printed_numbers y m d day in
    let t = time_tree n z clock offset in
    record {
      tree = record { day = day_tree y m d; time = t.tree };
      valid = (day_valid y m d, t.valid);
      whole = append_assoc (day_text y m d ++ codes "T") (clock_text n) (zone_text z) ∙ ap (λ s. day_text y m d ++ codes "T" ++ s) t.whole;
      in_range = rw (k.0, k.1, k.2, day, t.in_range) refl;
      value = rw (k.0, k.1, k.2) (ap (λ (c : ClockTime). record { year = y; month = m; day = d; nanos = c.nanos; zone = c.zone }) t.value);
    }

pub date_reads : (text : List ℕ) (v : CivilDate) → read_date text ≡ Ok v → read_date (trimmed (date_text v)) ≡ Ok v
date_reads text v h =
    let k = date_read text v h in
    tree_reads IsDateTree print_date date_value is_date_in_range read_date (date_text v) v date_means date_plain (date_tree v.year v.month v.day v.zone k.0 k.1)

pub date_time_reads : (text : List ℕ) (v : CivilDateTime) → read_date_time text ≡ Ok v → read_date_time (trimmed (date_time_text v)) ≡ Ok v
date_time_reads text v h =
    let k = date_time_read text v h in
    tree_reads IsDateTimeTree print_date_time date_time_value is_date_time_in_range read_date_time (date_time_text v) v
    date_time_means date_time_plain (date_time_tree v.year v.month v.day v.nanos v.zone k.0 k.1 k.2)
