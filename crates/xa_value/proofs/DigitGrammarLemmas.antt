-- The digits and fractions of a grammar are those that the reader finds.
use Rattle.std.proofs.Common.{◌≡◌, ℕ, zero, suc, ◌+◌, ◌-◌, ◌<◌, Bool, true, false, not, List, [], ◌∷◌, ◌++◌, length, take, drop, Option, Some, None, refl, sym, ap, ◌∙◌, arith}
use Rattle.std.specs.Prelude.{◌==◌, nat_le, IsTrue}
use Rattle.std.specs.List.{list_all}
use Rattle.std.specs.Char.{is_ascii_digit}
use Rattle.std.proofs.Math.Seq.{take-append_seam}
use Rattle.std.proofs.lemmas.List.{take-append-drop}
use Rattle.std.proofs.lemmas.List.Folds.{length-prefix_len}
use Rattle.std.proofs.lemmas.Bool.{and_parts, eqb-true}
use Rattle.std.proofs.lemmas.Bool.Decides.{nat_tests}
use borrow.Author.Tests.{ne_eqb}
use Rattle.xa_value.specs.parsing.Lexical.{begins_with, digit_count}
use Rattle.xa_value.specs.Time.{nanoseconds}
use Rattle.xa_value.specs.parsing.Time.{fraction_length, fraction_digits}
use Rattle.xa_value.specs.DigitGrammar.{IsNumeral, IsOptionalNumeral, print_minus, print_fraction, fraction_nanos, is_short}
use Rattle.xa_value.proofs.TimeLemmas.{digits_cons, digits_taken, no_fraction}
use Rattle.xa_value.proofs.NumeralLemmas.{Digits, digits_more, digit_count_append}
use Rattle.xa_value.proofs.SolidLemmas.{Solid, Solid-digits}

-- ---- digits

pub Digits-from_all : (ds : List ℕ) → IsTrue (list_all is_ascii_digit ds) → Digits ds
Digits-from_all [] h = refl
Digits-from_all (d ∷ ds) h = let k = and_parts (is_ascii_digit d) (list_all is_ascii_digit ds) h in digits_more d ds k.0 (Digits-from_all ds k.1)

pub all-from_Digits : (ds : List ℕ) → Digits ds → IsTrue (list_all is_ascii_digit ds)
all-from_Digits [] h = refl
all-from_Digits (d ∷ ds) h = let k = digits_cons d ds h in rw k.0 (all-from_Digits ds k.1)

-- the digits that a text begins with are a numeral
pub numeral_taken : (text : List ℕ) → 0 < digit_count text → IsNumeral (take (digit_count text) text)
numeral_taken text some = (
  omega (arith, length-prefix_len is_ascii_digit text),
  all-from_Digits (take (digit_count text) text) (digits_taken text),
)

-- ---- where a character stands

-- the text from a character on
pub begins_at : (c n : ℕ) (text : List ℕ) → begins_with c (drop n text) ≡ true → drop n text ≡ c ∷ drop (n + 1) text
begins_at c zero [] h = absurd (cc)
begins_at c zero (x ∷ xs) h = ap (λ d. d ∷ xs) (sym (eqb-true c x h))
begins_at c (suc n) [] h = absurd (cc)
begins_at c (suc n) (x ∷ xs) h = let e : suc n + 1 ≡ suc (n + 1) = omega arith in rw e (begins_at c n xs h)

-- what has no length is empty
pub emptied : (text : List ℕ) → (length text == 0) ≡ true → text ≡ []
emptied [] e = refl
emptied (c ∷ cs) e = let k = eqb-true (length (c ∷ cs)) 0 e in absurd (omega arith)

-- ---- fractions

-- what the reader finds where a fraction stands
pub record FractionIs (f : Option (List ℕ)) (rest : List ℕ) : Type 0 where
  pub size : fraction_length (print_fraction f ++ rest) ≡ length (print_fraction f)
  pub pointed : (length (print_fraction f) == 1) ≡ false
  pub kept : nat_le (length (print_fraction f)) 10 ≡ is_short f
  pub value : nanoseconds (fraction_digits (print_fraction f ++ rest)) ≡ fraction_nanos f

pub fraction_is : (f : Option (List ℕ)) (rest : List ℕ) → IsOptionalNumeral f → digit_count rest ≡ 0 → begins_with 46 rest ≡ false → FractionIs f rest
unfolding fraction_length
fraction_is None rest valid no_digit no_point = record { size = rw no_point refl; pointed = refl; kept = refl; value = no_fraction rest (rw no_point refl) }
fraction_is (Some ds) rest valid no_digit no_point =
    let some = valid.0 in
    let count = digit_count_append ds rest (Digits-from_all ds valid.1) no_digit in
    let same : 1 + length ds - 1 ≡ length ds = omega arith in
    record {
      size = rw count (omega arith);
      pointed = ne_eqb (suc (length ds)) 1 (λ e. absurd (omega arith));
      kept = kept_of (length ds);
      value = rw count (rw same (rw (take-append_seam ds rest) refl));
    }
  where
    kept_of : (n : ℕ) → nat_le (suc n) 10 ≡ nat_le n 9
    kept_of n = grind (arith, nat_tests)

-- a fraction, and the text that it begins
pub record FractionSplit (text : List ℕ) : Type 0 where
  pub fraction : Option (List ℕ)
  pub valid : IsOptionalNumeral fraction
  pub whole : text ≡ print_fraction fraction ++ drop (fraction_length text) text

fraction_some : (k : ℕ) → not (1 + k == 1) ≡ true → 0 < k
fraction_some zero h = absurd (cc)
fraction_some (suc k) h = omega arith

pub fraction_split : (text : List ℕ) → not (fraction_length text == 1) ≡ true → FractionSplit text
unfolding fraction_length
fraction_split text pointed = by_point (begins_with 46 text) refl
  where
    by_point : (b : Bool) → begins_with 46 text ≡ b → FractionSplit text
    by_point false e = record { fraction = None; valid = tt; whole = rw e refl }
    by_point true e =
        let ds = take (digit_count (drop 1 text)) (drop 1 text) in
        let begins = begins_at 46 0 text e in
        let some : 0 < digit_count (drop 1 text) = fraction_some (digit_count (drop 1 text)) (rw e at pointed) in
        let more : 1 + digit_count (drop 1 text) ≡ suc (digit_count (drop 1 text)) = omega arith in
        let rest : drop (fraction_length text) text ≡ drop (digit_count (drop 1 text)) (drop 1 text) = rw e (rw more (ap (drop (suc (digit_count (drop 1 text)))) begins)) in
        record {
          fraction = Some ds;
          valid = numeral_taken (drop 1 text) some;
          whole = begins ∙ ap (λ t. 46 ∷ t) (sym (take-append-drop (digit_count (drop 1 text)) (drop 1 text)) ∙ ap (λ t. ds ++ t) (sym rest));
        }

-- ---- texts without white space

pub Solid-numeral : (ds : List ℕ) → IsNumeral ds → Solid ds
Solid-numeral ds valid = Solid-digits ds (Digits-from_all ds valid.1)

pub Solid-minus : (b : Bool) → Solid (print_minus b)
Solid-minus true = (refl, tt)
Solid-minus false = tt

pub Solid-fraction : (f : Option (List ℕ)) → IsOptionalNumeral f → Solid (print_fraction f)
Solid-fraction None valid = tt
Solid-fraction (Some ds) valid = (refl, Solid-numeral ds valid)
