-- What `parse` reads of digits.
use Rattle.std.proofs.Common.{◌≡◌, ℕ, ◌<◌, ◌≤◌, ◌^◌, true, List, length, arith, rules}
use Rattle.std.specs.Prelude.{IsUtf8, Result, Ok, Err, MatchResult, OkIff}
use Rattle.std.specs.List.{list_all}
use Rattle.std.specs.Char.{is_ascii_digit}
use Rattle.std.specs.Str.Parse.{digits_value, ParsesUnsigned}
use Rattle.std.proofs.lemmas.Bool.Decides.{nat_tests}
use Rattle.std.proofs.lemmas.Fmt.{IsAscii-from_digits}
use Rattle.std.proofs.lemmas.Str.{IsUtf8-from_ascii}
use Rattle.std.proofs.lemmas.Str.Parse.{IsNumeralModel, numerals_by_value, parse_digits}
use Rattle.xa_value.specs.Digits.{is_number}

own : IsNumeralModel (λ text. list_all is_ascii_digit text ≡ true) (digits_value 10)
own = numerals_by_value _ (search rules)

pub is_text : (text : List ℕ) → is_number text ≡ true → IsUtf8 text
is_text text h =
    let digits : list_all is_ascii_digit text ≡ true = grind (arith, nat_tests) in
    IsUtf8-from_ascii text (IsAscii-from_digits text (own.to text digits))

-- the number itself, or it has more than 64 bits
pub parsed : {E : Type 0} (text : List ℕ) (r : Result ℕ E) → is_number text ≡ true → ParsesUnsigned 64 10 text r
    → MatchResult r (λ n. n ≡ digits_value 10 text) (λ _. 2 ^ 64 ≤ digits_value 10 text)
parsed text r h parses =
    let digits : list_all is_ascii_digit text ≡ true = grind (arith, nat_tests) in
    let some : 0 < length text = grind (arith, nat_tests) in
    by_result r some (parse_digits own 64 text r parses digits)
  where
    by_result : {E : Type 0} (r : Result ℕ E) → 0 < length text
        → OkIff r ((0 < length text) × (digits_value 10 text < 2 ^ 64)) (digits_value 10 text)
        → MatchResult r (λ n. n ≡ digits_value 10 text) (λ _. 2 ^ 64 ≤ digits_value 10 text)
    by_result (Ok n) some p = p.1
    by_result (Err e) some p = grind arith
