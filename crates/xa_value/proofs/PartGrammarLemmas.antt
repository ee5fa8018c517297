-- The parts of a duration's grammar are those that the reader finds.
use Rattle.std.proofs.Common.{◌≡◌, ℕ, suc, ◌+◌, ◌*◌, ◌<◌, Bool, true, false, not, ◌&&◌, List, [], ◌∷◌, ◌++◌, length, take, drop, Option, Some, None, refl, sym, ap, subst, ◌∙◌, arith, length-append, append_assoc}
use Rattle.std.specs.Prelude.{codes, ◌==◌, nat_le, nat_lt}
use Rattle.std.specs.Char.{is_ascii_digit}
use Rattle.std.proofs.Math.Seq.{take-append_seam, drop-append_seam}
use Rattle.std.proofs.lemmas.List.{append-nil, take-append-drop, drop-drop}
use Rattle.std.proofs.lemmas.Bool.{and_parts}
use borrow.Author.Tests.{lt-ltb, ltb-true, ne_eqb, eq-eqb}
use Rattle.xa_value.specs.Lexical.{number, number_after}
use Rattle.xa_value.specs.parsing.Lexical.{begins_with, digit_count}
use Rattle.xa_value.specs.Time.{nanoseconds}
use Rattle.xa_value.specs.parsing.Time.{fraction_length, fraction_digits}
use Rattle.xa_value.specs.parsing.Duration.{part_length, part, after, after_part, seconds_length, seconds_part, seconds_fraction}
use Rattle.xa_value.specs.DigitGrammar.{IsNumeral, IsOptionalNumeral, count, print_fraction, fraction_nanos, is_short}
use Rattle.xa_value.specs.DurationGrammar.{Seconds, IsSeconds, print_part, print_seconds, seconds_nanos, is_seconds_short}
use Rattle.xa_value.proofs.NumeralLemmas.{digit_count_append, digit_count_other}
use Rattle.xa_value.proofs.DigitGrammarLemmas.{Digits-from_all, numeral_taken, begins_at, fraction_is, fraction_split, Solid-numeral, Solid-fraction}
use Rattle.xa_value.proofs.SolidLemmas.{Solid, Solid-append}

-- ---- a number and its unit

-- a text that begins with no digit begins with no part
pub no_digit_no_part : (u : ℕ) (rest : List ℕ) → digit_count rest ≡ 0 → part_length u rest ≡ 0
unfolding part_length
no_digit_no_part u rest none = rw none refl

-- nor does one whose digits another character follows
other_unit : (u : ℕ) (ds rest : List ℕ) → IsNumeral ds → digit_count rest ≡ 0 → begins_with u rest ≡ false → part_length u (ds ++ rest) ≡ 0
unfolding part_length
other_unit u ds rest valid none other =
    let size = digit_count_append ds rest (Digits-from_all ds valid.1) none in
    rw (size, drop-append_seam ds rest, other, lt-ltb 0 (length ds) valid.0) refl

part_size : (u : ℕ) (ds rest : List ℕ) → IsNumeral ds → is_ascii_digit u ≡ false → part_length u (ds ++ (u ∷ rest)) ≡ length ds
unfolding part_length
part_size u ds rest valid letter =
    let size = digit_count_append ds (u ∷ rest) (Digits-from_all ds valid.1) (digit_count_other u rest letter) in
    rw (size, drop-append_seam ds (u ∷ rest), eq-eqb u u refl, lt-ltb 0 (length ds) valid.0) refl

drop_past : (xs : List ℕ) (y : ℕ) (ys : List ℕ) → drop (length xs + 1) (xs ++ y ∷ ys) ≡ ys
drop_past [] y ys = refl
drop_past (x ∷ xs) y ys = let more : suc (length xs) + 1 ≡ suc (length xs + 1) = omega arith in rw more (drop_past xs y ys)

-- what the reader finds where a part stands
pub record PartIs (u n : ℕ) (text rest : List ℕ) : Type 0 where
  pub value : part u text ≡ n
  pub after : after_part u text ≡ rest

part_here : (u : ℕ) (ds rest : List ℕ) → IsNumeral ds → is_ascii_digit u ≡ false → PartIs u (number ds) (ds ++ (u ∷ rest)) rest
part_here u ds rest valid letter =
    let size = part_size u ds rest valid letter in
    let some = valid.0 in
    let there = ne_eqb (length ds) 0 (λ e. absurd (omega arith)) in
    record { value = rw (size, take-append_seam ds (u ∷ rest)) refl; after = rw (size, there) (drop_past ds u rest) }

part_absent : (u : ℕ) (rest : List ℕ) → part_length u rest ≡ 0 → PartIs u 0 rest rest
unfolding number_after
part_absent u rest none = record { value = rw none refl; after = rw none refl }

part_regroup : (u : ℕ) (ds rest : List ℕ) → ds ++ u ∷ [] ++ rest ≡ ds ++ (u ∷ rest)
part_regroup u ds rest = append_assoc ds (u ∷ []) rest

pub part_is : (u : ℕ) (p : Option (List ℕ)) (rest : List ℕ) → IsOptionalNumeral p → is_ascii_digit u ≡ false → part_length u rest ≡ 0 → PartIs u (count p) (print_part (u ∷ []) p ++ rest) rest
part_is u None rest valid letter none = part_absent u rest none
part_is u (Some ds) rest valid letter none = subst (λ t. PartIs u (number ds) t rest) (sym (part_regroup u ds rest)) (part_here u ds rest valid letter)

-- a part of one unit is none of another
pub not_part : (u v : ℕ) (p : Option (List ℕ)) (rest : List ℕ) → IsOptionalNumeral p → is_ascii_digit v ≡ false → (u == v) ≡ false → part_length u rest ≡ 0 → part_length u (print_part (v ∷ []) p ++ rest) ≡ 0
not_part u v None rest valid letter other none = none
not_part u v (Some ds) rest valid letter other none = ap (part_length u) (part_regroup v ds rest) ∙ other_unit u ds (v ∷ rest) valid (digit_count_other v rest letter) other

-- a part, and the text that it begins
pub record PartSplit (u : ℕ) (text : List ℕ) : Type 0 where
  pub part : Option (List ℕ)
  pub valid : IsOptionalNumeral part
  pub whole : text ≡ print_part (u ∷ []) part ++ after_part u text

pub part_split : (u : ℕ) (text : List ℕ) → PartSplit u text
unfolding part_length
part_split u text = by_shape (nat_lt 0 (digit_count text) && begins_with u (drop (digit_count text) text)) refl
  where
    by_shape : (b : Bool) → (nat_lt 0 (digit_count text) && begins_with u (drop (digit_count text) text)) ≡ b → PartSplit u text
    by_shape false e = record { part = None; valid = tt; whole = rw e refl }
    by_shape true e =
        let n = digit_count text in
        let k = and_parts (nat_lt 0 n) (begins_with u (drop n text)) e in
        let some : 0 < n = ltb-true 0 n k.0 in
        let there = ne_eqb n 0 (λ z. absurd (omega arith)) in
        let rest : after_part u text ≡ drop (n + 1) text = rw e (rw there refl) in
        record {
          part = Some (take n text);
          valid = numeral_taken text some;
          whole =
              sym (take-append-drop n text) ∙ ap (λ t. take n text ++ t) (begins_at u n text k.1)
              ∙ sym (part_regroup u (take n text) (drop (n + 1) text)) ∙ ap (λ t. take n text ++ u ∷ [] ++ t) (sym rest);
        }

-- ---- seconds with a fraction

-- a fraction begins with a point or not at all
fraction_no_digit : (f : Option (List ℕ)) (rest : List ℕ) → digit_count rest ≡ 0 → digit_count (print_fraction f ++ rest) ≡ 0
fraction_no_digit None rest none = none
fraction_no_digit (Some ds) rest none = refl

fraction_begins_with : (u : ℕ) (f : Option (List ℕ)) (rest : List ℕ) → (u == 46) ≡ false → begins_with u rest ≡ false → begins_with u (print_fraction f ++ rest) ≡ false
fraction_begins_with u None rest point other = other
fraction_begins_with u (Some ds) rest point other = point

-- what the reader finds where seconds stand, at the end of a text
pub record SecondsAre (s : Option Seconds) (text : List ℕ) : Type 0 where
  pub after : after (seconds_length text) text ≡ []
  pub value : number (take (digit_count (seconds_part text)) (seconds_part text)) * 1_000_000_000 + nanoseconds (fraction_digits (seconds_fraction (seconds_part text))) ≡ seconds_nanos s
  pub kept : nat_le (fraction_length (seconds_fraction (seconds_part text))) 10 ≡ is_seconds_short s
  pub no_part : (u : ℕ) → (u == 46) ≡ false → (u == 83) ≡ false → part_length u text ≡ 0

-- the whole and the fraction of the seconds themselves
record Halves (ds : List ℕ) (f : Option (List ℕ)) (seconds : List ℕ) : Type 0 where
  whole : number (take (digit_count seconds) seconds) ≡ number ds
  fraction : nanoseconds (fraction_digits (seconds_fraction seconds)) ≡ fraction_nanos f
  kept : nat_le (fraction_length (seconds_fraction seconds)) 10 ≡ is_short f

halves : (ds : List ℕ) (f : Option (List ℕ)) → IsNumeral ds → IsOptionalNumeral f → Halves ds f (ds ++ print_fraction f)
halves ds f whole fraction =
    let nil = append-nil (print_fraction f) in
    let none : digit_count (print_fraction f) ≡ 0 = ap digit_count (sym nil) ∙ fraction_no_digit f [] refl in
    let size = digit_count_append ds (print_fraction f) (Digits-from_all ds whole.1) none in
    let k = fraction_is f [] fraction refl refl in
    record {
      whole = rw (size, take-append_seam ds (print_fraction f)) refl;
      fraction = rw (size, drop-append_seam ds (print_fraction f)) (ap (λ t. nanoseconds (fraction_digits t)) (sym nil) ∙ k.value);
      kept = rw (size, drop-append_seam ds (print_fraction f), ap fraction_length (sym nil) ∙ k.size) k.kept;
    }

seconds_size : (ds : List ℕ) (f : Option (List ℕ)) → IsNumeral ds → IsOptionalNumeral f → seconds_length (ds ++ print_fraction f ++ codes "S") ≡ length (ds ++ print_fraction f)
unfolding seconds_length
seconds_size ds f whole fraction =
    let regroup = append_assoc ds (print_fraction f) (codes "S") in
    let size : digit_count (ds ++ print_fraction f ++ codes "S") ≡ length ds =
    ap digit_count regroup ∙ digit_count_append ds (print_fraction f ++ codes "S") (Digits-from_all ds whole.1) (fraction_no_digit f (codes "S") refl) in
    let k = fraction_is f (codes "S") fraction refl refl in
    let rest : drop (length ds) (ds ++ print_fraction f ++ codes "S") ≡ print_fraction f ++ codes "S" =
    ap (drop (length ds)) regroup ∙ drop-append_seam ds (print_fraction f ++ codes "S") in
    let sum : length ds + length (print_fraction f) ≡ length (ds ++ print_fraction f) = sym (length-append ds (print_fraction f)) in
    rw (size, rest, k.size, k.pointed, sum, drop-append_seam (ds ++ print_fraction f) (codes "S"), lt-ltb 0 (length ds) whole.0) refl

seconds_here : (s : Seconds) → IsSeconds (Some s) → SecondsAre (Some s) (s.whole ++ print_fraction s.fraction ++ codes "S")
seconds_here s valid =
    let text = s.whole ++ print_fraction s.fraction in
    let size = seconds_size s.whole s.fraction valid.0 valid.1 in
    let k = halves s.whole s.fraction valid.0 valid.1 in
    let some : 0 < length text = let l = valid.0.0 in omega (arith, length-append s.whole (print_fraction s.fraction)) in
    let there = ne_eqb (length text) 0 (λ e. absurd (omega arith)) in
    let cut : seconds_part (text ++ codes "S") ≡ text = rw size (take-append_seam text (codes "S")) in
    record {
      after = rw (size, there) (drop_past text 83 []);
      value = rw (cut, k.whole, k.fraction) refl;
      kept = rw cut k.kept;
      no_part = λ u point letter.
          ap (part_length u) (append_assoc s.whole (print_fraction s.fraction) (codes "S"))
          ∙ other_unit u s.whole (print_fraction s.fraction ++ codes "S") valid.0 (fraction_no_digit s.fraction (codes "S") refl)
          (fraction_begins_with u s.fraction (codes "S") point letter);
    }

no_seconds : SecondsAre None []
unfolding seconds_length part_length number_after nanoseconds fraction_length
no_seconds = record { after = refl; value = refl; kept = refl; no_part = λ u point letter. refl }

pub seconds_are : (s : Option Seconds) → IsSeconds s → SecondsAre s (print_seconds s)
seconds_are None valid = no_seconds
seconds_are (Some s) valid = seconds_here s valid

-- seconds, and the text that they are
pub record SecondsSplit (text : List ℕ) : Type 0 where
  pub seconds : Option Seconds
  pub valid : IsSeconds seconds
  pub whole : text ≡ print_seconds seconds

pub seconds_split : (text : List ℕ) → after (seconds_length text) text ≡ [] → SecondsSplit text
unfolding seconds_length
seconds_split text ends = by_shape (is_there) refl
  where
    rest : List ℕ
    rest = drop (digit_count text) text

    is_there : Bool
    is_there = nat_lt 0 (digit_count text) && not (fraction_length rest == 1) && begins_with 83 (drop (digit_count text + fraction_length rest) text)

    by_shape : (b : Bool) → is_there ≡ b → SecondsSplit text
    by_shape false e = record { seconds = None; valid = tt; whole = rw e at ends }
    by_shape true e =
        let n = digit_count text in
        let m = fraction_length rest in
        let k = and_parts (nat_lt 0 n && not (m == 1)) (begins_with 83 (drop (n + m) text)) e in
        let j = and_parts (nat_lt 0 n) (not (m == 1)) k.0 in
        let some : 0 < n = ltb-true 0 n j.0 in
        let there = ne_eqb (n + m) 0 (λ z. absurd (omega arith)) in
        let last : drop (n + m + 1) text ≡ [] = rw there at (rw e at ends) in
        let split = fraction_split rest j.1 in
        let unit : drop m rest ≡ codes "S" = drop-drop m n text ∙ begins_at 83 (n + m) text k.1 ∙ ap (λ t. 83 ∷ t) last in
        record {
          seconds = Some (record { whole = take n text; fraction = split.fraction });
          valid = (numeral_taken text some, split.valid);
          whole =
              sym (take-append-drop n text) ∙ ap (λ t. take n text ++ t) (split.whole ∙ ap (λ t. print_fraction split.fraction ++ t) unit)
              ∙ sym (append_assoc (take n text) (print_fraction split.fraction) (codes "S"));
        }

-- ---- texts without white space

pub Solid-part : (u : ℕ) (p : Option (List ℕ)) → IsOptionalNumeral p → Solid (u ∷ []) → Solid (print_part (u ∷ []) p)
Solid-part u None valid letter = tt
Solid-part u (Some ds) valid letter = Solid-append ds (u ∷ []) (Solid-numeral ds valid) letter

pub Solid-seconds : (s : Option Seconds) → IsSeconds s → Solid (print_seconds s)
Solid-seconds None valid = tt
Solid-seconds (Some s) valid =
    Solid-append (s.whole ++ print_fraction s.fraction) (codes "S")
    (Solid-append s.whole (print_fraction s.fraction) (Solid-numeral s.whole valid.0) (Solid-fraction s.fraction valid.1)) (refl, tt)
