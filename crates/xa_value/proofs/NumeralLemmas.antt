-- What digits and decimal numerals read as.
use Rattle.std.proofs.Common.{◌≡◌, ℕ, ◌^◌, ◌<◌, ◌≤◌, true, false, List, [], ◌∷◌, ◌++◌, length, refl, sym, ap, ◌∙◌, arith}
use Rattle.std.specs.Prelude.{decimal}
use Rattle.std.specs.Char.{is_ascii_digit}
use Rattle.std.proofs.lemmas.Str.Parse.{IsDigitsTest, FoldsDigits, IsNumeralModel, numerals_by_fold}
use Rattle.std.proofs.lemmas.Fmt.{digits_decimal, digits_value-decimal}
use borrow.Author.Tests.{le-leb, ne_eqb}
use Rattle.xa_value.specs.Lexical.{number, number_after}
use Rattle.xa_value.specs.parsing.Lexical.{begins_with, digit_count}
use Rattle.xa_value.proofs.TimeLemmas.{digits_cons, digit_bounds}

-- the text has digits alone
abbrev pub Digits : List ℕ → Type 0
Digits ds = digit_count ds ≡ length ds

-- a digit passes the test
pub is_digit : (c : ℕ) → 48 ≤ c → c ≤ 57 → is_ascii_digit c ≡ true
is_digit c low high = rw (le-leb 48 c low, le-leb c 57 high) refl

pub digits_more : (c : ℕ) (cs : List ℕ) → is_ascii_digit c ≡ true → Digits cs → Digits (c ∷ cs)
digits_more c cs e h = rw e (omega (arith, h))

tells_digits : IsDigitsTest Digits
tells_digits = record {
  empty = refl;
  parts = λ c cs h. let k = digits_cons c cs h in (digit_bounds c k.0, k.1);
  more = λ c cs k h. digits_more c cs (is_digit c k.0 k.1) h;
}

folds_digits : FoldsDigits number_after
unfolding number_after
folds_digits = record { empty = λ n. refl; more = λ n c cs k. refl }

-- our words for digits and their number are std's
pub own : IsNumeralModel Digits number
own = numerals_by_fold Digits tells_digits number_after folds_digits

pub decimal_digits : (n : ℕ) → n < 2 ^ 64 → Digits (decimal n)
decimal_digits n h = digits_decimal own n h

pub number_decimal : (n : ℕ) → n < 2 ^ 64 → number (decimal n) ≡ n
number_decimal n h = digits_value-decimal own n h

-- digits begin with no sign, point or letter
pub digits_begin : (c : ℕ) (ds rest : List ℕ) → Digits ds → 0 < length ds → is_ascii_digit c ≡ false → begins_with c (ds ++ rest) ≡ false
digits_begin c [] rest h some other = absurd (omega arith)
digits_begin c (d ∷ ds) rest h some other =
    let k = digits_cons d ds h in
    ne_eqb c d (λ e. absurd (let f : true ≡ false = sym k.0 ∙ sym (ap is_ascii_digit e) ∙ other in cc))

-- where digits end and something else follows
pub digit_count_append : (ds rest : List ℕ) → Digits ds → digit_count rest ≡ 0 → digit_count (ds ++ rest) ≡ length ds
digit_count_append [] rest h none = none
digit_count_append (d ∷ ds) rest h none =
    let k = digits_cons d ds h in
    let ih = digit_count_append ds rest k.1 none in
    rw k.0 (omega arith)

pub digit_count_other : (c : ℕ) (rest : List ℕ) → is_ascii_digit c ≡ false → digit_count (c ∷ rest) ≡ 0
digit_count_other c rest e = rw e refl
