-- Reading times agrees with their grammar.
use Rattle.std.proofs.Common.{◌≡◌, ℕ, Bool, true, false, not, ◌&&◌, ◌⊎◌, inl, inr, List, [], ◌∷◌, ◌++◌, drop, Option, Ok, Err, refl, sym, ap, ◌∙◌, append_assoc}
use Rattle.std.specs.Prelude.{codes, ◌==◌, if◌then◌else◌, nat_le}
use Rattle.std.specs.Char.{is_ascii_digit}
use Rattle.std.proofs.Math.Seq.{drop-append_seam}
use Rattle.std.proofs.lemmas.List.{drop-drop}
use Rattle.xa_value.specs.declared.read_error.ReadError.TheVariants.{NotThisType, OutOfRange}
use Rattle.xa_value.specs.Gives.{◌>>=◌}
use Rattle.xa_value.specs.Lexical.{trimmed}
use Rattle.xa_value.specs.parsing.Lexical.{has_shape}
use Rattle.xa_value.specs.Time.{nanoseconds}
use Rattle.xa_value.specs.parsing.Time.{fraction_length, fraction_digits, is_clock, clock_nanos as nanos_read, time_of, read_time}
use Rattle.xa_value.specs.parsing.Zone.{read_zone}
use Rattle.xa_value.specs.DigitGrammar.{IsDigits, IsOptionalNumeral, print_fraction, fraction_nanos, is_short}
use Rattle.xa_value.specs.TimeGrammar.{Zone, IsZone, print_zone, zone_value, is_zone_in_range, Clock, IsClock, print_clock, clock_nanos, is_clock_in_range, Time, IsTime, print_time, time_value, is_time_in_range}
use Rattle.xa_value.proofs.DigitGrammarLemmas.{fraction_is, fraction_split, Solid-fraction}
use Rattle.xa_value.proofs.ZoneGrammarLemmas.{by_two, number_two, two_cut, mark_cut, Solid-two, zone_tree_begins, zone_means, zone_covers, ZoneOf, Solid-zone}
use Rattle.xa_value.proofs.SolidLemmas.{Solid, Solid-append, trimmed_solid}

-- two steps that are each out of range or not
pub both_in_range : {A B : Type 0} (first second : Bool) (a : A) (f : A → B)
    → ((if second then Ok a else Err OutOfRange) >>= λ x. (if first then Ok (f x) else Err OutOfRange)) ≡ (if first && second then Ok (f a) else Err OutOfRange)
both_in_range true true a f = refl
both_in_range true false a f = refl
both_in_range false true a f = refl
both_in_range false false a f = refl

-- ---- texts of the grammar

-- a fraction and a zone, after the seconds
record TailIs (f : Option (List ℕ)) (z : Zone) (rest : List ℕ) : Type 0 where
  pointed : (fraction_length rest == 1) ≡ false
  kept : nat_le (fraction_length rest) 10 ≡ is_short f
  value : nanoseconds (fraction_digits rest) ≡ fraction_nanos f
  zone : read_zone (drop (fraction_length rest) rest) ≡ (if is_zone_in_range z then Ok (zone_value z) else Err OutOfRange)

tail_is : (f : Option (List ℕ)) (z : Zone) → IsOptionalNumeral f → IsZone z → TailIs f z (print_fraction f ++ print_zone z)
tail_is f z fraction zone =
    let begins = zone_tree_begins z in
    let k = fraction_is f (print_zone z) fraction begins.0 begins.1 in
    record {
      pointed = rw k.size k.pointed;
      kept = rw k.size k.kept;
      value = k.value;
      zone = rw k.size (rw (drop-append_seam (print_fraction f) (print_zone z)) (zone_means z zone));
    }

-- what the reader makes of digits, a fraction and a zone
abbrev ClockReads : Option (List ℕ) → Zone → List ℕ → List ℕ → List ℕ → Type 0
ClockReads f z h m s =
    let c : Clock = record { hours = h; minutes = m; seconds = s; fraction = f } in
    read_time (print_clock c ++ print_zone z) ≡ (if is_clock_in_range c && is_zone_in_range z then Ok (record { nanos = clock_nanos c; zone = zone_value z }) else Err OutOfRange)

digits_read : (f : Option (List ℕ)) (z : Zone) (a b c d e g : ℕ) → TailIs f z (print_fraction f ++ print_zone z)
    → is_ascii_digit a ≡ true → is_ascii_digit b ≡ true → is_ascii_digit c ≡ true → is_ascii_digit d ≡ true → is_ascii_digit e ≡ true → is_ascii_digit g ≡ true
    → ClockReads f z (a ∷ b ∷ []) (c ∷ d ∷ []) (e ∷ g ∷ [])
unfolding read_time has_shape time_of is_clock nanos_read
digits_read f z a b c d e g rest a_is b_is c_is d_is e_is g_is =
    rw (number_two a b, number_two c d, number_two e g, a_is, b_is, c_is, d_is, e_is, g_is, rest.pointed, rest.zone, rest.kept, rest.value)
    (both_in_range _ (is_zone_in_range z) (zone_value z) _)

clock_means : (c : Clock) (z : Zone) → IsClock c → IsZone z → ClockReads c.fraction z c.hours c.minutes c.seconds
clock_means c z valid zone =
    let rest = tail_is c.fraction z valid.fraction zone in
    by_two (λ h. ClockReads c.fraction z h c.minutes c.seconds) c.hours valid.hours (λ h1 h2 h1_is h2_is.
    by_two (λ m. ClockReads c.fraction z (h1 ∷ h2 ∷ []) m c.seconds) c.minutes valid.minutes (λ m1 m2 m1_is m2_is.
    by_two (λ s. ClockReads c.fraction z (h1 ∷ h2 ∷ []) (m1 ∷ m2 ∷ []) s) c.seconds valid.seconds (λ s1 s2 s1_is s2_is.
    digits_read c.fraction z h1 h2 m1 m2 s1 s2 rest h1_is h2_is m1_is m2_is s1_is s2_is)))

-- a text of the grammar reads as what it means
pub time_means : (t : Time) → IsTime t → read_time (print_time t) ≡ (if is_time_in_range t then Ok (time_value t) else Err OutOfRange)
time_means t valid = clock_means t.clock t.zone valid.0 valid.1

Solid-clock : (c : Clock) → IsClock c → Solid (print_clock c)
Solid-clock c valid =
    Solid-append (c.hours ++ codes ":" ++ c.minutes ++ codes ":" ++ c.seconds) (print_fraction c.fraction)
    (Solid-append (c.hours ++ codes ":" ++ c.minutes ++ codes ":") c.seconds
    (Solid-append (c.hours ++ codes ":" ++ c.minutes) (codes ":")
    (Solid-append (c.hours ++ codes ":") c.minutes (Solid-append c.hours (codes ":") (Solid-two c.hours valid.hours) (refl, tt)) (Solid-two c.minutes valid.minutes))
    (refl, tt))
    (Solid-two c.seconds valid.seconds))
    (Solid-fraction c.fraction valid.fraction)

pub Solid-time : (t : Time) → IsTime t → Solid (print_time t)
Solid-time t valid = Solid-append (print_clock t.clock) (print_zone t.zone) (Solid-clock t.clock valid.0) (Solid-zone t.zone valid.1)

pub time_plain : (t : Time) → IsTime t → trimmed (print_time t) ≡ print_time t
time_plain t valid = trimmed_solid (print_time t) (Solid-time t valid)

-- ---- texts that are times

-- `hh:mm:ss`, and the text that it begins
record ClockSplit (text : List ℕ) : Type 0 where
  hours : List ℕ
  minutes : List ℕ
  seconds : List ℕ
  valid : IsDigits 2 hours × IsDigits 2 minutes × IsDigits 2 seconds
  whole : text ≡ hours ++ codes ":" ++ minutes ++ codes ":" ++ seconds ++ drop 8 text

clock_split : (text : List ℕ) → has_shape (codes "99:99:99") text ≡ true → ClockSplit text
clock_split text shape =
    let h = two_cut (codes ":99:99") text shape in
    let c = mark_cut 58 (codes "99:99") (drop 2 text) refl h.rest in
    let m = two_cut (codes ":99") (drop 1 (drop 2 text)) c.rest in
    let d = mark_cut 58 (codes "99") (drop 2 (drop 1 (drop 2 text))) refl m.rest in
    let s = two_cut [] (drop 1 (drop 2 (drop 1 (drop 2 text)))) d.rest in
    let rest : drop 2 (drop 1 (drop 2 (drop 1 (drop 2 text)))) ≡ drop 8 text = simp drop-drop in
    let all : text ≡ h.digits ++ (58 ∷ (m.digits ++ (58 ∷ (s.digits ++ drop 8 text)))) =
    h.whole ∙ ap (λ t. h.digits ++ t) (c.whole ∙ ap (λ t. 58 ∷ t) (m.whole ∙ ap (λ t. m.digits ++ t) (d.whole ∙ ap (λ t. 58 ∷ t) (s.whole ∙ ap (λ t. s.digits ++ t) rest)))) in
    record { hours = h.digits; minutes = m.digits; seconds = s.digits; valid = (h.valid, m.valid, s.valid); whole = all ∙ regroup h.digits m.digits s.digits (drop 8 text) }
  where
    regroup : (h m s rest : List ℕ) → h ++ (58 ∷ (m ++ (58 ∷ (s ++ rest)))) ≡ h ++ codes ":" ++ m ++ codes ":" ++ s ++ rest
    regroup h m s rest = simp append_assoc

-- a time of the grammar, with that text
abbrev pub TimeOf : List ℕ → Type 0
TimeOf text = (t : Time) × IsTime t × (text ≡ print_time t)

time_tree : (text : List ℕ) → has_shape (codes "99:99:99") text ≡ true → not (fraction_length (drop 8 text) == 1) ≡ true → ZoneOf (drop (fraction_length (drop 8 text)) (drop 8 text)) → TimeOf text
time_tree text shape pointed z =
    let k = clock_split text shape in
    let f = fraction_split (drop 8 text) pointed in
    let clock : Clock = record { hours = k.hours; minutes = k.minutes; seconds = k.seconds; fraction = f.fraction } in
    let front = k.hours ++ codes ":" ++ k.minutes ++ codes ":" ++ k.seconds in (
      record { clock = clock; zone = z.0 },
      (record { hours = k.valid.0; minutes = k.valid.1; seconds = k.valid.2; fraction = f.valid }, z.1),
      k.whole ∙ ap (λ t. front ++ t) (f.whole ∙ ap (λ t. print_fraction f.fraction ++ t) z.2) ∙ sym (append_assoc front (print_fraction f.fraction) (print_zone z.0)),
    )

-- a text that is a time is a text of the grammar
pub time_covers : (text : List ℕ) → TimeOf text ⊎ (read_time text ≡ Err NotThisType)
unfolding read_time
time_covers text = by_shape (has_shape (codes "99:99:99") text) (not (fraction_length rest == 1)) refl refl
  where
    rest : List ℕ
    rest = drop 8 text

    by_zone : has_shape (codes "99:99:99") text ≡ true → not (fraction_length rest == 1) ≡ true → ZoneOf (drop (fraction_length rest) rest) ⊎ (read_zone (drop (fraction_length rest) rest) ≡ Err NotThisType) → TimeOf text ⊎ (read_time text ≡ Err NotThisType)
    by_zone shape pointed (inl z) = inl (time_tree text shape pointed z)
    by_zone shape pointed (inr refused) = inr (rw (shape, pointed, refused) refl)

    by_shape : (a b : Bool) → has_shape (codes "99:99:99") text ≡ a → not (fraction_length rest == 1) ≡ b → TimeOf text ⊎ (read_time text ≡ Err NotThisType)
    by_shape true true shape pointed = by_zone shape pointed (zone_covers (drop (fraction_length rest) rest))
    by_shape true false shape pointed = inr (rw (shape, pointed) refl)
    by_shape false b shape pointed = inr (rw shape refl)
