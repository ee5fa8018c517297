-- Reading dates, and dates with times, agrees with their grammar.
use Rattle.std.proofs.Common.{◌≡◌, ℕ, ◌+◌, ◌-◌, ◌*◌, Bool, true, false, ◌⊎◌, inl, inr, List, [], ◌∷◌, ◌++◌, drop, Ok, Err, refl, sym, ap, ◌∙◌, arith, length-append, append_assoc}
use Rattle.std.specs.Prelude.{codes, if◌then◌else◌}
use Rattle.std.specs.Char.{is_ascii_digit}
use Rattle.std.proofs.lemmas.List.{drop-drop}
use Rattle.std.proofs.lemmas.List.Folds.{list_all-append}
use Rattle.std.proofs.lemmas.Bool.{and_parts}
use Rattle.xa_value.specs.declared.read_error.ReadError.TheVariants.{NotThisType, OutOfRange}
use Rattle.xa_value.specs.Lexical.{number, number_after, trimmed}
use Rattle.xa_value.specs.parsing.Lexical.{has_shape}
use Rattle.xa_value.specs.parsing.Time.{read_time}
use Rattle.xa_value.specs.parsing.Zone.{read_zone}
use Rattle.xa_value.specs.parsing.Calendar.{date_of, date_time_of, read_date, read_date_time}
use Rattle.xa_value.specs.DigitGrammar.{IsDigits}
use Rattle.xa_value.specs.TimeGrammar.{Zone, IsZone, print_zone, zone_value, is_zone_in_range, Time, IsTime, print_time, time_value, is_time_in_range, Day, IsDay, print_day, Date, IsDate, print_date, date_value, is_date_in_range, DateTime, IsDateTime, print_date_time, date_time_value, is_date_time_in_range}
use Rattle.xa_value.proofs.DigitGrammarLemmas.{Digits-from_all}
use Rattle.xa_value.proofs.ZoneGrammarLemmas.{by_two, number_two, two_cut, mark_cut, Solid-two, zone_means, zone_covers, ZoneOf, Solid-zone}
use Rattle.xa_value.proofs.TimeGrammarLemmas.{both_in_range, time_means, time_covers, TimeOf, Solid-time}
use Rattle.xa_value.proofs.SolidLemmas.{Solid, Solid-append, Solid-digits, trimmed_solid}

-- ---- four digits

-- what holds of any four digits
by_four : (P : List ℕ → Type 0) (ds : List ℕ) → IsDigits 4 ds
    → ((a b c d : ℕ) → is_ascii_digit a ≡ true → is_ascii_digit b ≡ true → is_ascii_digit c ≡ true → is_ascii_digit d ≡ true → P (a ∷ b ∷ c ∷ d ∷ [])) → P ds
by_four P [] h k = absurd (let e = h.0 in omega arith)
by_four P (a ∷ []) h k = absurd (let e = h.0 in omega arith)
by_four P (a ∷ b ∷ ds) h k =
    let i = and_parts (is_ascii_digit a) _ h.1 in
    let j = and_parts (is_ascii_digit b) _ i.1 in
    by_two (λ t. P (a ∷ b ∷ t)) ds (omega (arith, h.0), j.1) (λ c d. k a b c d i.0 j.0)

-- their number, by their places
number_four : (a b c d : ℕ) → number (a ∷ b ∷ c ∷ d ∷ []) ≡ ((a - 48) * 10 + (b - 48)) * 100 + ((c - 48) * 10 + (d - 48))
unfolding number_after
number_four a b c d = omega arith

IsDigits-append : (m n : ℕ) (xs ys : List ℕ) → IsDigits m xs → IsDigits n ys → IsDigits (m + n) (xs ++ ys)
IsDigits-append m n xs ys p q = (let k = p.0 in let l = q.0 in omega (arith, length-append xs ys), rw (list_all-append is_ascii_digit xs ys, p.1) q.1)

-- ---- texts of the grammar

-- what the reader makes of digits and a zone
abbrev DateReads : Zone → List ℕ → List ℕ → List ℕ → Type 0
DateReads z y m d =
    let v : Date = record { day = record { year = y; month = m; day = d }; zone = z } in
    read_date (print_date v) ≡ (if is_date_in_range v then Ok (date_value v) else Err OutOfRange)

date_digits : (z : Zone) (a b c d e f g h : ℕ) → IsZone z
    → is_ascii_digit a ≡ true → is_ascii_digit b ≡ true → is_ascii_digit c ≡ true → is_ascii_digit d ≡ true
    → is_ascii_digit e ≡ true → is_ascii_digit f ≡ true → is_ascii_digit g ≡ true → is_ascii_digit h ≡ true
    → DateReads z (a ∷ b ∷ c ∷ d ∷ []) (e ∷ f ∷ []) (g ∷ h ∷ [])
unfolding read_date has_shape date_of
date_digits z a b c d e f g h zone a_is b_is c_is d_is e_is f_is g_is h_is =
    rw (number_four a b c d, number_two e f, number_two g h, a_is, b_is, c_is, d_is, e_is, f_is, g_is, h_is, zone_means z zone)
    (both_in_range _ (is_zone_in_range z) (zone_value z) _)

-- a text of the grammar reads as what it means
pub date_means : (d : Date) → IsDate d → read_date (print_date d) ≡ (if is_date_in_range d then Ok (date_value d) else Err OutOfRange)
date_means v valid =
    by_four (λ y. DateReads v.zone y v.day.month v.day.day) v.day.year valid.0.year (λ a b c d a_is b_is c_is d_is.
    by_two (λ m. DateReads v.zone (a ∷ b ∷ c ∷ d ∷ []) m v.day.day) v.day.month valid.0.month (λ e f e_is f_is.
    by_two (λ t. DateReads v.zone (a ∷ b ∷ c ∷ d ∷ []) (e ∷ f ∷ []) t) v.day.day valid.0.day (λ g h g_is h_is.
    date_digits v.zone a b c d e f g h valid.1 a_is b_is c_is d_is e_is f_is g_is h_is)))

abbrev DateTimeReads : Time → List ℕ → List ℕ → List ℕ → Type 0
DateTimeReads t y m d =
    let v : DateTime = record { day = record { year = y; month = m; day = d }; time = t } in
    read_date_time (print_day v.day ++ codes "T" ++ print_time v.time) ≡ (if is_date_time_in_range v then Ok (date_time_value v) else Err OutOfRange)

date_time_digits : (t : Time) (a b c d e f g h : ℕ) → IsTime t
    → is_ascii_digit a ≡ true → is_ascii_digit b ≡ true → is_ascii_digit c ≡ true → is_ascii_digit d ≡ true
    → is_ascii_digit e ≡ true → is_ascii_digit f ≡ true → is_ascii_digit g ≡ true → is_ascii_digit h ≡ true
    → DateTimeReads t (a ∷ b ∷ c ∷ d ∷ []) (e ∷ f ∷ []) (g ∷ h ∷ [])
unfolding read_date_time has_shape date_time_of
date_time_digits t a b c d e f g h time a_is b_is c_is d_is e_is f_is g_is h_is =
    rw (number_four a b c d, number_two e f, number_two g h, a_is, b_is, c_is, d_is, e_is, f_is, g_is, h_is, time_means t time)
    (both_in_range _ (is_time_in_range t) (time_value t) _)

pub date_time_means : (d : DateTime) → IsDateTime d → read_date_time (print_date_time d) ≡ (if is_date_time_in_range d then Ok (date_time_value d) else Err OutOfRange)
date_time_means v valid =
    by_four (λ y. DateTimeReads v.time y v.day.month v.day.day) v.day.year valid.0.year (λ a b c d a_is b_is c_is d_is.
    by_two (λ m. DateTimeReads v.time (a ∷ b ∷ c ∷ d ∷ []) m v.day.day) v.day.month valid.0.month (λ e f e_is f_is.
    by_two (λ t. DateTimeReads v.time (a ∷ b ∷ c ∷ d ∷ []) (e ∷ f ∷ []) t) v.day.day valid.0.day (λ g h g_is h_is.
    date_time_digits v.time a b c d e f g h valid.1 a_is b_is c_is d_is e_is f_is g_is h_is)))

Solid-day : (d : Day) → IsDay d → Solid (print_day d)
Solid-day d valid =
    Solid-append (d.year ++ codes "-" ++ d.month ++ codes "-") d.day
    (Solid-append (d.year ++ codes "-" ++ d.month) (codes "-")
    (Solid-append (d.year ++ codes "-") d.month
    (Solid-append d.year (codes "-") (Solid-digits d.year (Digits-from_all d.year valid.year.1)) (refl, tt))
    (Solid-two d.month valid.month))
    (refl, tt))
    (Solid-two d.day valid.day)

pub date_plain : (d : Date) → IsDate d → trimmed (print_date d) ≡ print_date d
date_plain d valid = trimmed_solid (print_date d) (Solid-append (print_day d.day) (print_zone d.zone) (Solid-day d.day valid.0) (Solid-zone d.zone valid.1))

pub date_time_plain : (d : DateTime) → IsDateTime d → trimmed (print_date_time d) ≡ print_date_time d
date_time_plain d valid =
    trimmed_solid (print_date_time d)
    (Solid-append (print_day d.day ++ codes "T") (print_time d.time) (Solid-append (print_day d.day) (codes "T") (Solid-day d.day valid.0) (refl, tt)) (Solid-time d.time valid.1))

-- ---- texts that are dates

-- `YYYY-MM-DD`, and the text that it begins
record DaySplit (places text : List ℕ) : Type 0 where
  day : Day
  valid : IsDay day
  whole : text ≡ print_day day ++ drop 10 text
  rest : has_shape places (drop 10 text) ≡ true

day_split : (places text : List ℕ) → has_shape (codes "9999-99-99" ++ places) text ≡ true → DaySplit places text
day_split places text shape =
    let century = two_cut (codes "99-99-99" ++ places) text shape in
    let year = two_cut (codes "-99-99" ++ places) (drop 2 text) century.rest in
    let b = mark_cut 45 (codes "99-99" ++ places) (drop 2 (drop 2 text)) refl year.rest in
    let month = two_cut (codes "-99" ++ places) (drop 1 (drop 2 (drop 2 text))) b.rest in
    let c = mark_cut 45 (codes "99" ++ places) (drop 2 (drop 1 (drop 2 (drop 2 text)))) refl month.rest in
    let day = two_cut places (drop 1 (drop 2 (drop 1 (drop 2 (drop 2 text))))) c.rest in
    let last : drop 2 (drop 1 (drop 2 (drop 1 (drop 2 (drop 2 text))))) ≡ drop 10 text = simp drop-drop in
    let all : text ≡ century.digits ++ (year.digits ++ (45 ∷ (month.digits ++ (45 ∷ (day.digits ++ drop 10 text))))) =
    century.whole
    ∙ ap (λ t. century.digits ++ t) (year.whole
    ∙ ap (λ t. year.digits ++ t) (b.whole
    ∙ ap (λ t. 45 ∷ t) (month.whole ∙ ap (λ t. month.digits ++ t) (c.whole ∙ ap (λ t. 45 ∷ t) (day.whole ∙ ap (λ t. day.digits ++ t) last))))) in
    record {
      day = record { year = century.digits ++ year.digits; month = month.digits; day = day.digits };
      valid = record { year = IsDigits-append 2 2 century.digits year.digits century.valid year.valid; month = month.valid; day = day.valid };
      whole = all ∙ regroup century.digits year.digits month.digits day.digits (drop 10 text);
      rest = rw last at day.rest;
    }
  where
    regroup : (x y m d rest : List ℕ) → x ++ (y ++ (45 ∷ (m ++ (45 ∷ (d ++ rest))))) ≡ (x ++ y) ++ codes "-" ++ m ++ codes "-" ++ d ++ rest
    regroup x y m d rest = simp append_assoc

-- a date of the grammar, with that text
abbrev DateOf : List ℕ → Type 0
DateOf text = (d : Date) × IsDate d × (text ≡ print_date d)

date_tree : (text : List ℕ) → has_shape (codes "9999-99-99") text ≡ true → ZoneOf (drop 10 text) → DateOf text
date_tree text shape z =
    let k = day_split [] text shape in
    (record { day = k.day; zone = z.0 }, (k.valid, z.1), k.whole ∙ ap (λ t. print_day k.day ++ t) z.2)

-- a text that is a date is a text of the grammar
pub date_covers : (text : List ℕ) → DateOf text ⊎ (read_date text ≡ Err NotThisType)
unfolding read_date
date_covers text = by_shape (has_shape (codes "9999-99-99") text) refl
  where
    by_zone : has_shape (codes "9999-99-99") text ≡ true → ZoneOf (drop 10 text) ⊎ (read_zone (drop 10 text) ≡ Err NotThisType) → DateOf text ⊎ (read_date text ≡ Err NotThisType)
    by_zone shape (inl z) = inl (date_tree text shape z)
    by_zone shape (inr refused) = inr (rw (shape, refused) refl)

    by_shape : (b : Bool) → has_shape (codes "9999-99-99") text ≡ b → DateOf text ⊎ (read_date text ≡ Err NotThisType)
    by_shape true shape = by_zone shape (zone_covers (drop 10 text))
    by_shape false shape = inr (rw shape refl)

-- a date with a time of the grammar, with that text
abbrev DateTimeOf : List ℕ → Type 0
DateTimeOf text = (d : DateTime) × IsDateTime d × (text ≡ print_date_time d)

date_time_tree : (text : List ℕ) → has_shape (codes "9999-99-99T") text ≡ true → TimeOf (drop 11 text) → DateTimeOf text
date_time_tree text shape t =
    let k = day_split (codes "T") text shape in
    let mark = mark_cut 84 [] (drop 10 text) refl k.rest in
    let rest : drop 1 (drop 10 text) ≡ drop 11 text = drop-drop 1 10 text in
    let last : drop 10 text ≡ 84 ∷ print_time t.0 = mark.whole ∙ ap (λ s. 84 ∷ s) (rest ∙ t.2) in (
      record { day = k.day; time = t.0 },
      (k.valid, t.1),
      k.whole ∙ ap (λ s. print_day k.day ++ s) last ∙ sym (append_assoc (print_day k.day) (codes "T") (print_time t.0)),
    )

pub date_time_covers : (text : List ℕ) → DateTimeOf text ⊎ (read_date_time text ≡ Err NotThisType)
unfolding read_date_time
date_time_covers text = by_shape (has_shape (codes "9999-99-99T") text) refl
  where
    by_time : has_shape (codes "9999-99-99T") text ≡ true → TimeOf (drop 11 text) ⊎ (read_time (drop 11 text) ≡ Err NotThisType) → DateTimeOf text ⊎ (read_date_time text ≡ Err NotThisType)
    by_time shape (inl t) = inl (date_time_tree text shape t)
    by_time shape (inr refused) = inr (rw (shape, refused) refl)

    by_shape : (b : Bool) → has_shape (codes "9999-99-99T") text ≡ b → DateTimeOf text ⊎ (read_date_time text ≡ Err NotThisType)
    by_shape true shape = by_time shape (time_covers (drop 11 text))
    by_shape false shape = inr (rw shape refl)
