-- A value that prints as the text of a tree reads back as itself.
use Rattle.std.proofs.Common.{◌≡◌, ℕ, zero, suc, ◌+◌, ◌/◌, ◌%◌, ◌^◌, ◌<◌, Bool, true, false, ◌||◌, List, [], ◌∷◌, ◌++◌, length, Option, Some, None, Result, Ok, Err, refl, sym, ap, ◌∙◌, arith, length-append}
use Rattle.std.specs.Prelude.{decimal, ◌==◌, if◌then◌else◌, is_some}
use Rattle.std.specs.Char.{is_ascii_digit}
use Rattle.std.proofs.lemmas.Bool.{eqb-true}
use native.Mathlib.Nat.{pow-succ', pow-zero}
use Rattle.std.proofs.lemmas.Fmt.{decimal_nonempty}
use Rattle.xa_value.specs.declared.read_error.ReadError.{ReadError}
use Rattle.xa_value.specs.declared.read_error.ReadError.TheVariants.{OutOfRange}
use Rattle.xa_value.specs.Lexical.{number, number_after, last_digits, trimmed}
use Rattle.xa_value.specs.Duration.{part_text}
use Rattle.xa_value.specs.DigitGrammar.{IsDigits, IsNumeral, IsOptionalNumeral, count}
use Rattle.xa_value.specs.DurationGrammar.{print_part}
use Rattle.xa_value.proofs.TimeLemmas.{digits_cons}
use Rattle.xa_value.proofs.LexicalLemmas.{number_push}
use Rattle.xa_value.proofs.NumeralLemmas.{Digits, is_digit, digits_more, decimal_digits, number_decimal}
use Rattle.xa_value.proofs.DigitGrammarLemmas.{all-from_Digits}

-- the text is that of a valid tree in range, with that value
pub record IsTreeOf (A Tree : Type 0) (IsTree : Tree → Type 0) (print : Tree → List ℕ) (value_of : Tree → A) (is_in_range : Tree → Bool) (text : List ℕ) (a : A) : Type 0 where
  pub tree : Tree
  pub valid : IsTree tree
  pub whole : text ≡ print tree
  pub in_range : is_in_range tree ≡ true
  pub value : value_of tree ≡ a

pub tree_reads : {A Tree : Type 0} (IsTree : Tree → Type 0) (print : Tree → List ℕ) (value_of : Tree → A) (is_in_range : Tree → Bool) (reader : List ℕ → Result A ReadError) (text : List ℕ) (a : A)
    → ((tree : Tree) → IsTree tree → reader (print tree) ≡ (if is_in_range tree then Ok (value_of tree) else Err OutOfRange))
    → ((tree : Tree) → IsTree tree → trimmed (print tree) ≡ print tree)
    → IsTreeOf A Tree IsTree print value_of is_in_range text a → reader (trimmed text) ≡ Ok a
tree_reads IsTree print value_of is_in_range reader text a means plain k =
    let chosen : (if is_in_range k.tree then Ok (value_of k.tree) else Err OutOfRange) ≡ Ok a = rw k.in_range (ap Ok k.value) in
    ap (λ t. reader (trimmed t)) k.whole ∙ ap reader (plain k.tree k.valid) ∙ means k.tree k.valid ∙ chosen

-- ---- numbers as they are printed

-- what is not zero
pub positive : (n : ℕ) → (n == 0) ≡ false → 0 < n
positive zero e = absurd (cc)
positive (suc n) e = omega arith

pub numeral_decimal : (n : ℕ) → n < 2 ^ 64 → IsNumeral (decimal n)
numeral_decimal n small = (decimal_nonempty n small, all-from_Digits (decimal n) (decimal_digits n small))

-- the part that a number prints as
pub record PartWritten (unit n : ℕ) : Type 0 where
  pub part : Option (List ℕ)
  pub valid : IsOptionalNumeral part
  pub text : part_text n unit ≡ print_part (unit ∷ []) part
  pub value : count part ≡ n
  pub there : 0 < n → is_some part ≡ true

pub part_written : (unit n : ℕ) → n < 2 ^ 64 → PartWritten unit n
unfolding part_text
part_written unit n small = by_zero (n == 0) refl
  where
    by_zero : (b : Bool) → (n == 0) ≡ b → PartWritten unit n
    by_zero true e = let none : n ≡ 0 = eqb-true n 0 e in record { part = None; valid = tt; text = rw e refl; value = sym none; there = λ some. absurd (omega arith) }
    by_zero false e = record { part = Some (decimal n); valid = numeral_decimal n small; text = rw e refl; value = number_decimal n small; there = λ some. refl }

-- where numbers are not all zero, some part is there
nothing_there : (n : ℕ) → (0 < n → false ≡ true) → n ≡ 0
nothing_there zero there = refl
nothing_there (suc n) there = absurd (let k : false ≡ true = there (omega arith) in cc)

pub either_written : (x y : Bool) (m n : ℕ) → (0 < m → x ≡ true) → (0 < n → y ≡ true) → 0 < m + n → (x || y) ≡ true
either_written true y m n p q some = refl
either_written false true m n p q some = refl
either_written false false m n p q some = absurd (let k = nothing_there m p in let l = nothing_there n q in omega arith)

-- ---- digits as they are printed

-- a printed digit is a digit
is_cell : (n : ℕ) → is_ascii_digit (48 + n % 10) ≡ true
is_cell n = is_digit (48 + n % 10) (omega arith) (omega arith)

Digits-append : (xs ys : List ℕ) → Digits xs → Digits ys → Digits (xs ++ ys)
Digits-append [] ys p q = q
Digits-append (x ∷ xs) ys p q = let k = digits_cons x xs p in digits_more x (xs ++ ys) k.0 (Digits-append xs ys k.1 q)

pub Digits-padded : (count n : ℕ) → Digits (last_digits count n)
unfolding last_digits
Digits-padded zero n = refl
Digits-padded (suc count) n = Digits-append (last_digits count (n / 10)) ((48 + n % 10) ∷ []) (Digits-padded count (n / 10)) (digits_more (48 + n % 10) [] (is_cell n) refl)

pub length-padded : (count n : ℕ) → length (last_digits count n) ≡ count
unfolding last_digits
length-padded zero n = refl
length-padded (suc count) n = let ih = length-padded count (n / 10) in omega (arith, length-append (last_digits count (n / 10)) ((48 + n % 10) ∷ []))

pub number-padded : (count n : ℕ) → n < 10 ^ count → number (last_digits count n) ≡ n
unfolding last_digits number_after
number-padded zero n h = omega (arith, pow-zero 10)
number-padded (suc count) n h =
    let small : n / 10 < 10 ^ count = omega (arith, pow-succ' 10 count) in
    let ih = number-padded count (n / 10) small in
    number_push (last_digits count (n / 10)) (48 + n % 10) ∙ omega arith

pub digits_padded : (count n : ℕ) → IsDigits count (last_digits count n)
digits_padded count n = (length-padded count n, all-from_Digits (last_digits count n) (Digits-padded count n))
