-- Reading integers agrees with their grammar.
use Rattle.std.proofs.Common.{◌≡◌, ℕ, ◌-◌, ◌^◌, Bool, true, false, ◌⊎◌, inl, inr, List, [], ◌++◌, length, drop, Ok, Err, refl, sym, ap, ◌∙◌}
use Rattle.std.specs.Prelude.{◌||◌, if◌then◌else◌, nat_lt, nat_le}
use Rattle.std.specs.List.{list_all}
use Rattle.std.specs.Char.{is_ascii_digit}
use Rattle.std.proofs.lemmas.List.{append-nil}
use Rattle.std.proofs.lemmas.Bool.{and_parts}
use borrow.Author.Tests.{lt-ltb, ltb-true}
use Rattle.xa_value.specs.declared.read_error.ReadError.TheVariants.{NotThisType, OutOfRange}
use Rattle.xa_value.specs.Digits.{is_number}
use Rattle.xa_value.specs.Lexical.{number, trimmed, with_sign}
use Rattle.xa_value.specs.parsing.Lexical.{begins_with}
use Rattle.xa_value.specs.parsing.Number.{integer_of, without_sign, read_integer}
use Rattle.xa_value.specs.DigitGrammar.{IsNumeral}
use Rattle.xa_value.specs.NumberGrammar.{Sign, plus, minus, neither, print_sign, is_minus, Integer, IsInteger, print_integer, integer_value, is_integer_in_range}
use Rattle.xa_value.proofs.NumeralLemmas.{digits_begin}
use Rattle.xa_value.proofs.DigitGrammarLemmas.{Digits-from_all, begins_at, Solid-numeral}
use Rattle.xa_value.proofs.SolidLemmas.{Solid, Solid-append, trimmed_solid}

numeral_is_number : (ds : List ℕ) → IsNumeral ds → is_number ds ≡ true
numeral_is_number ds valid = rw (lt-ltb 0 (length ds) valid.0, valid.1) refl

number_is_numeral : (ds : List ℕ) → is_number ds ≡ true → IsNumeral ds
number_is_numeral ds h =
    let k = and_parts (nat_lt 0 (length ds)) (list_all is_ascii_digit ds) h in
    (ltb-true 0 (length ds) k.0, k.1)

-- a numeral begins with no sign
numeral_unsigned : (ds : List ℕ) → IsNumeral ds → (begins_with 45 ds ≡ false) × (begins_with 43 ds ≡ false)
numeral_unsigned ds valid = (
  ap (begins_with 45) (sym (append-nil ds)) ∙ digits_begin 45 ds [] (Digits-from_all ds valid.1) valid.0 refl,
  ap (begins_with 43) (sym (append-nil ds)) ∙ digits_begin 43 ds [] (Digits-from_all ds valid.1) valid.0 refl,
)

integer_signed : (s : Sign) (ds : List ℕ) → IsNumeral ds
    → read_integer (print_sign s ++ ds) ≡ (if nat_le (number ds) (if is_minus s then 2 ^ 63 else 2 ^ 63 - 1) then Ok (with_sign (is_minus s) (number ds)) else Err OutOfRange)
unfolding read_integer without_sign integer_of
integer_signed plus ds valid = rw (numeral_is_number ds valid) refl
integer_signed minus ds valid = rw (numeral_is_number ds valid) refl
integer_signed neither ds valid = let k = numeral_unsigned ds valid in rw (k.0, k.1, numeral_is_number ds valid) refl

-- a text of the grammar reads as what it means
pub integer_means : (i : Integer) → IsInteger i → read_integer (print_integer i) ≡ (if is_integer_in_range i then Ok (integer_value i) else Err OutOfRange)
integer_means i valid = integer_signed i.sign i.digits valid

pub integer_plain : (i : Integer) → IsInteger i → trimmed (print_integer i) ≡ print_integer i
integer_plain i valid = trimmed_solid (print_integer i) (Solid-append (print_sign i.sign) i.digits (Solid-sign i.sign) (Solid-numeral i.digits valid))
  where
    Solid-sign : (s : Sign) → Solid (print_sign s)
    Solid-sign plus = (refl, tt)
    Solid-sign minus = (refl, tt)
    Solid-sign neither = tt

-- a sign, and the text that follows it
sign_split : (text : List ℕ) → (s : Sign) × (text ≡ print_sign s ++ without_sign text)
unfolding without_sign
sign_split text = by_sign (begins_with 45 text) (begins_with 43 text) refl refl
  where
    by_sign : (a b : Bool) → begins_with 45 text ≡ a → begins_with 43 text ≡ b → (s : Sign) × (text ≡ print_sign s ++ (if begins_with 45 text || begins_with 43 text then drop 1 text else text))
    by_sign true b e f = (minus, rw e (begins_at 45 0 text e))
    by_sign false true e f = (plus, rw (e, f) (begins_at 43 0 text f))
    by_sign false false e f = (neither, rw (e, f) refl)

-- a text that is an integer is a text of the grammar
pub integer_covers : (text : List ℕ) → ((i : Integer) × IsInteger i × (text ≡ print_integer i)) ⊎ (read_integer text ≡ Err NotThisType)
unfolding read_integer
integer_covers text = by_shape (is_number (without_sign text)) refl
  where
    by_shape : (b : Bool) → is_number (without_sign text) ≡ b → ((i : Integer) × IsInteger i × (text ≡ print_integer i)) ⊎ (read_integer text ≡ Err NotThisType)
    by_shape true e = let k = sign_split text in inl (record { sign = k.0; digits = without_sign text }, number_is_numeral (without_sign text) e, k.1)
    by_shape false e = inr (rw e refl)
