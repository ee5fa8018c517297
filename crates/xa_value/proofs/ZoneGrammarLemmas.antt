-- Reading zones agrees with their grammar; digits and marks of a shape.
use Rattle.std.proofs.Common.{◌≡◌, ℕ, ◌+◌, ◌-◌, ◌*◌, Bool, true, false, ◌&&◌, ◌||◌, ◌⊎◌, inl, inr, List, [], ◌∷◌, ◌++◌, length, drop, Ok, Err, refl, sym, ap, ◌∙◌, arith, length-append, append_assoc}
use Rattle.std.specs.Prelude.{codes, ◌==◌, if◌then◌else◌, bytes_eq}
use Rattle.std.specs.Char.{is_ascii_digit}
use Rattle.std.proofs.lemmas.List.{append-nil}
use Rattle.std.proofs.lemmas.Slice.Eq.{bytes_eq-Decides}
use Rattle.std.proofs.lemmas.Bool.{and_parts, or_cases, eqb-true}
use Rattle.xa_value.specs.declared.read_error.ReadError.TheVariants.{NotThisType, OutOfRange}
use Rattle.xa_value.specs.Lexical.{number, number_after}
use Rattle.xa_value.specs.parsing.Lexical.{begins_with, digit_count, has_shape}
use Rattle.xa_value.specs.parsing.Zone.{is_offset_text, read_offset, read_zone}
use Rattle.xa_value.specs.DigitGrammar.{IsDigits}
use Rattle.xa_value.specs.TimeGrammar.{Zone, absent, utc, offset, IsZone, print_zone, zone_value, is_zone_in_range}
use Rattle.xa_value.proofs.DigitGrammarLemmas.{Digits-from_all, emptied}
use Rattle.xa_value.proofs.SolidLemmas.{Solid, Solid-append, Solid-digits}

-- ---- two digits

-- what holds of any two digits
pub by_two : (P : List ℕ → Type 0) (ds : List ℕ) → IsDigits 2 ds → ((a b : ℕ) → is_ascii_digit a ≡ true → is_ascii_digit b ≡ true → P (a ∷ b ∷ [])) → P ds
by_two P [] h k = absurd (let e = h.0 in omega arith)
by_two P (a ∷ []) h k = absurd (let e = h.0 in omega arith)
by_two P (a ∷ b ∷ []) h k = let j = and_parts (is_ascii_digit a) (is_ascii_digit b && true) h.1 in k a b j.0 (and_parts (is_ascii_digit b) true j.1).0
by_two P (a ∷ b ∷ c ∷ ds) h k = absurd (let e = h.0 in omega arith)

-- their number, by their places
pub number_two : (a b : ℕ) → number (a ∷ b ∷ []) ≡ (a - 48) * 10 + (b - 48)
unfolding number_after
number_two a b = omega arith

pub Solid-two : (ds : List ℕ) → IsDigits 2 ds → Solid ds
Solid-two ds valid = Solid-digits ds (Digits-from_all ds valid.1)

-- two digits that a text begins with, and a shape that the rest begins with
pub record TwoCut (places text : List ℕ) : Type 0 where
  pub digits : List ℕ
  pub valid : IsDigits 2 digits
  pub whole : text ≡ digits ++ drop 2 text
  pub rest : has_shape places (drop 2 text) ≡ true

pub two_cut : (places text : List ℕ) → has_shape (57 ∷ 57 ∷ places) text ≡ true → TwoCut places text
unfolding has_shape
two_cut places [] h = absurd (cc)
two_cut places (a ∷ []) h = absurd (let k = (and_parts (is_ascii_digit a) false h).1 in cc)
two_cut places (a ∷ b ∷ cs) h =
    let j = and_parts (is_ascii_digit a) (is_ascii_digit b && has_shape places cs) h in
    let k = and_parts (is_ascii_digit b) (has_shape places cs) j.1 in
    record { digits = a ∷ b ∷ []; valid = (refl, rw (j.0, k.0) refl); whole = refl; rest = k.1 }

-- a mark that a text begins with, and a shape that the rest begins with
pub record MarkCut (mark : ℕ) (places text : List ℕ) : Type 0 where
  pub whole : text ≡ mark ∷ drop 1 text
  pub rest : has_shape places (drop 1 text) ≡ true

pub mark_cut : (mark : ℕ) (places text : List ℕ) → (mark == 57) ≡ false → has_shape (mark ∷ places) text ≡ true → MarkCut mark places text
unfolding has_shape
mark_cut mark places [] other h = absurd (cc)
mark_cut mark places (c ∷ cs) other h =
    let k = and_parts (mark == c) (has_shape places cs) (rw other at h) in
    record { whole = ap (λ d. d ∷ cs) (sym (eqb-true mark c k.0)); rest = k.1 }

-- ---- zones

-- the text of a zone begins with no digit and no point
pub zone_tree_begins : (z : Zone) → (digit_count (print_zone z) ≡ 0) × (begins_with 46 (print_zone z) ≡ false)
zone_tree_begins absent = (refl, refl)
zone_tree_begins utc = (refl, refl)
zone_tree_begins (offset true hours minutes) = (refl, refl)
zone_tree_begins (offset false hours minutes) = (refl, refl)

-- a text of the grammar reads as what it means
abbrev ZoneReads : Zone → Type 0
ZoneReads z = read_zone (print_zone z) ≡ (if is_zone_in_range z then Ok (zone_value z) else Err OutOfRange)

offset_means : (negative : Bool) (a b c d : ℕ) → is_ascii_digit a ≡ true → is_ascii_digit b ≡ true → is_ascii_digit c ≡ true → is_ascii_digit d ≡ true
    → ZoneReads (offset negative (a ∷ b ∷ []) (c ∷ d ∷ []))
unfolding read_zone read_offset has_shape
offset_means true a b c d a_is b_is c_is d_is = rw (number_two a b, number_two c d, a_is, b_is, c_is, d_is) refl
offset_means false a b c d a_is b_is c_is d_is = rw (number_two a b, number_two c d, a_is, b_is, c_is, d_is) refl

pub zone_means : (z : Zone) → IsZone z → ZoneReads z
unfolding read_zone
zone_means absent valid = refl
zone_means utc valid = refl
zone_means (offset negative hours minutes) valid =
    by_two (λ h. ZoneReads (offset negative h minutes)) hours valid.0 (λ a b a_is b_is.
    by_two (λ m. ZoneReads (offset negative (a ∷ b ∷ []) m)) minutes valid.1 (λ c d c_is d_is. offset_means negative a b c d a_is b_is c_is d_is))

-- a mark, two digits, a colon and two digits
record OffsetSplit (mark : ℕ) (text : List ℕ) : Type 0 where
  hours : List ℕ
  minutes : List ℕ
  valid : IsDigits 2 hours × IsDigits 2 minutes
  whole : text ≡ mark ∷ (hours ++ codes ":" ++ minutes)

offset_split : (mark : ℕ) (text : List ℕ) → (mark == 57) ≡ false → length text ≡ 6 → has_shape (mark ∷ codes "99:99") text ≡ true → OffsetSplit mark text
offset_split mark text other size shape =
    let s = mark_cut mark (codes "99:99") text other shape in
    let h = two_cut (codes ":99") (drop 1 text) s.rest in
    let c = mark_cut 58 (codes "99") (drop 2 (drop 1 text)) refl h.rest in
    let last = drop 1 (drop 2 (drop 1 text)) in
    let m = two_cut [] last c.rest in
    let after : drop 2 (drop 1 text) ≡ 58 ∷ (m.digits ++ drop 2 last) = c.whole ∙ ap (λ t. 58 ∷ t) m.whole in
    let all : text ≡ mark ∷ (h.digits ++ (58 ∷ (m.digits ++ drop 2 last))) = s.whole ∙ ap (λ t. mark ∷ t) (h.whole ∙ ap (λ t. h.digits ++ t) after) in
    let ends : drop 2 last ≡ [] = offset_ends mark h.digits m.digits (drop 2 last) text h.valid.0 m.valid.0 size all in
    record {
      hours = h.digits;
      minutes = m.digits;
      valid = (h.valid, m.valid);
      whole =
          all ∙ ap (λ t. mark ∷ (h.digits ++ (58 ∷ (m.digits ++ t)))) ends ∙ ap (λ t. mark ∷ (h.digits ++ (58 ∷ t))) (append-nil m.digits)
          ∙ ap (λ t. mark ∷ t) (sym (append_assoc h.digits (codes ":") m.digits));
    }
  where
    offset_ends : (mark : ℕ) (h m rest text : List ℕ) → length h ≡ 2 → length m ≡ 2 → length text ≡ 6 → text ≡ mark ∷ (h ++ (58 ∷ (m ++ rest))) → rest ≡ []
    offset_ends mark h m [] text p q size e = refl
    offset_ends mark h m (c ∷ cs) text p q size e =
        absurd (omega (arith, ap length e, length-append h (58 ∷ (m ++ (c ∷ cs))), length-append m (c ∷ cs)))

-- a zone of the grammar, with that text
abbrev pub ZoneOf : List ℕ → Type 0
ZoneOf text = (z : Zone) × IsZone z × (text ≡ print_zone z)

offset_tree : (text : List ℕ) → is_offset_text text ≡ true → ZoneOf text
offset_tree text h =
    let plus = has_shape (codes "+99:99") text in
    let minus = has_shape (codes "-99:99") text in
    let k = and_parts (length text == 6) (plus || minus) h in
    let size : length text ≡ 6 = eqb-true (length text) 6 k.0 in
    elim (or_cases plus minus k.1) [
      | inl shape ↦ let s = offset_split 43 text refl size shape in (offset false s.hours s.minutes, s.valid, s.whole ∙ offset_regroup 43 s.hours s.minutes)
      | inr shape ↦ let s = offset_split 45 text refl size shape in (offset true s.hours s.minutes, s.valid, s.whole ∙ offset_regroup 45 s.hours s.minutes)
    ]
  where
    offset_regroup : (mark : ℕ) (h m : List ℕ) → mark ∷ (h ++ codes ":" ++ m) ≡ mark ∷ [] ++ h ++ codes ":" ++ m
    offset_regroup mark h m = refl

-- a text that is a zone is a text of the grammar
pub zone_covers : (text : List ℕ) → ZoneOf text ⊎ (read_zone text ≡ Err NotThisType)
unfolding read_zone
zone_covers text = by_length (length text == 0) refl
  where
    by_shape : (b : Bool) → (length text == 0) ≡ false → bytes_eq text (codes "Z") ≡ false → is_offset_text text ≡ b → ZoneOf text ⊎ (read_zone text ≡ Err NotThisType)
    by_shape true there other e = inl (offset_tree text e)
    by_shape false there other e = inr (rw (there, other, e) refl)

    by_letter : (b : Bool) → (length text == 0) ≡ false → bytes_eq text (codes "Z") ≡ b → ZoneOf text ⊎ (read_zone text ≡ Err NotThisType)
    by_letter true there e = inl (utc, tt, (bytes_eq-Decides text (codes "Z")).0 e)
    by_letter false there e = by_shape (is_offset_text text) there e refl

    by_length : (b : Bool) → (length text == 0) ≡ b → ZoneOf text ⊎ (read_zone text ≡ Err NotThisType)
    by_length true e = inl (absent, tt, emptied text e)
    by_length false e = by_letter (bytes_eq text (codes "Z")) e refl

-- the text of a zone has no white space
pub Solid-zone : (z : Zone) → IsZone z → Solid (print_zone z)
Solid-zone absent valid = tt
Solid-zone utc valid = (refl, tt)
Solid-zone (offset true hours minutes) valid = (refl, Solid-append (hours ++ codes ":") minutes (Solid-append hours (codes ":") (Solid-two hours valid.0) (refl, tt)) (Solid-two minutes valid.1))
Solid-zone (offset false hours minutes) valid = (refl, Solid-append (hours ++ codes ":") minutes (Solid-append hours (codes ":") (Solid-two hours valid.0) (refl, tt)) (Solid-two minutes valid.1))
