-- Booleans, integers and bytes that were read print as texts that read as the same.
use Rattle.std.proofs.Common.{◌≡◌, ℕ, zero, suc, ◌-◌, ◌^◌, ◌≤◌, Bool, true, false, List, ℤ, pos, negsuc, neg_ℤ, ◌≤ℤ◌, Ok, refl, subst, arith}
use Rattle.std.specs.Prelude.{nat_le, decimal}
use Rattle.std.specs.Fmt.{signed_decimal}
use borrow.Author.Tests.{le-leb, leb-true}
use Rattle.jiff_core.proofs.SignedLemmas.{signed_arith}
use Rattle.xa_value.specs.declared.read_error.ReadError.TheVariants.{NotThisType, OutOfRange}
use Rattle.xa_value.specs.Digits.{is_number}
use Rattle.xa_value.specs.Lexical.{number, trimmed, trimmed_start, trimmed_end}
use Rattle.xa_value.specs.parsing.Lexical.{begins_with}
use Rattle.xa_value.specs.Number.{boolean_text}
use Rattle.xa_value.specs.parsing.Number.{read_boolean, integer_of, without_sign, read_integer}
use Rattle.xa_value.specs.NumberGrammar.{neither, minus, Integer, IsInteger as IsIntegerTree, print_integer, integer_value, is_integer_in_range}
use Rattle.xa_value.proofs.NumeralLemmas.{number_decimal}
use Rattle.xa_value.proofs.PrintedLemmas.{IsTreeOf, tree_reads, numeral_decimal}
use Rattle.xa_value.proofs.NumberGrammarLemmas.{integer_means, integer_plain}
use Rattle.xa_value.proofs.ZoneLemmas.{if_ok_or_err}

pub boolean_reads : (b : Bool) → read_boolean (trimmed (boolean_text b)) ≡ Ok b
unfolding read_boolean boolean_text trimmed_start trimmed_end
boolean_reads true = refl
boolean_reads false = refl

-- an integer of 64 bits
abbrev pub IsInteger : ℤ → Type 0
IsInteger z = (neg_ℤ (pos 9_223_372_036_854_775_808) ≤ℤ z) × (z ≤ℤ pos 9_223_372_036_854_775_807)

integer_of_read : (b : Bool) (n : ℕ) (z : ℤ) → integer_of b n ≡ Ok z → IsInteger z
unfolding integer_of
integer_of_read true n z h =
    let k = if_ok_or_err (nat_le n 9_223_372_036_854_775_808) (Ok (neg_ℤ (pos n))) OutOfRange z h in
    let small : n ≤ 9_223_372_036_854_775_808 = leb-true n 9_223_372_036_854_775_808 k.0 in
    let e : neg_ℤ (pos n) ≡ z = cc in
    subst IsInteger e (negated n small)
  where
    negated : (m : ℕ) → m ≤ 9_223_372_036_854_775_808 → IsInteger (neg_ℤ (pos m))
    negated zero l = (omega (arith, signed_arith), omega (arith, signed_arith))
    negated (suc m) l = (omega (arith, signed_arith), omega (arith, signed_arith))
integer_of_read false n z h =
    let k = if_ok_or_err (nat_le n 9_223_372_036_854_775_807) (Ok (pos n)) OutOfRange z h in
    let small : n ≤ 9_223_372_036_854_775_807 = leb-true n 9_223_372_036_854_775_807 k.0 in
    let e : pos n ≡ z = cc in
    subst IsInteger e (omega (arith, signed_arith), omega (arith, signed_arith))

-- an integer that was read is one of 64 bits
pub integer_read : (text : List ℕ) (z : ℤ) → read_integer text ≡ Ok z → IsInteger z
unfolding read_integer
integer_read text z h = integer_of_read (begins_with 45 text) (number (without_sign text)) z (if_ok_or_err (is_number (without_sign text)) _ NotThisType z h).1

-- the tree of an integer
integer_tree : (z : ℤ) → IsInteger z → IsTreeOf ℤ Integer IsIntegerTree print_integer integer_value is_integer_in_range (signed_decimal z) z
integer_tree (pos n) h =
    let small : n ≤ 2 ^ 63 - 1 = omega (arith, signed_arith) in
    let value = number_decimal n (omega arith) in
    record {
      tree = record { sign = neither; digits = decimal n };
      valid = numeral_decimal n (omega arith);
      whole = refl;
      in_range = rw value (le-leb n (2 ^ 63 - 1) small);
      value = rw value refl;
    }
integer_tree (negsuc n) h =
    let small : suc n ≤ 2 ^ 63 = omega (arith, signed_arith) in
    let value = number_decimal (suc n) (omega arith) in
    record {
      tree = record { sign = minus; digits = decimal (suc n) };
      valid = numeral_decimal (suc n) (omega arith);
      whole = refl;
      in_range = rw value (le-leb (suc n) (2 ^ 63) small);
      value = rw value refl;
    }

pub integer_reads : (z : ℤ) → IsInteger z → read_integer (trimmed (signed_decimal z)) ≡ Ok z
integer_reads z h = tree_reads IsIntegerTree print_integer integer_value is_integer_in_range read_integer (signed_decimal z) z integer_means integer_plain (integer_tree z h)
