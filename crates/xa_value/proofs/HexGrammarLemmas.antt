-- Reading hexadecimal digits agrees with their grammar.
use Rattle.std.proofs.Common.{◌≡◌, ℕ, ◌+◌, ◌*◌, ◌%◌, ◌<◌, true, false, ◌⊎◌, inl, inr, List, [], ◌∷◌, length, Some, Result, Ok, Err, refl, ap, ◌∙◌, arith}
use Rattle.std.proofs.lemmas.Bool.Decides.{nat_tests}
use Rattle.std.proofs.lemmas.List.Elements.{All-head, All-tail}
use Rattle.std.specs.List.{AllPass}
use Rattle.hex.specs.Hex.{hex_digit_value, is_hex_digit as is_digit_of_hex, digit_or_error, value_at, pair_value, decode_pairs, decode_of}
use Rattle.hex.specs.declared.error.FromHexError.{FromHexError}
use Rattle.hex.proofs.Pairs.{cons_byte, decode_pairs-ok_pair}
use Rattle.hex.proofs.HexLemmas.{decode_of-even, decode_of-ok}
use Rattle.xa_value.specs.declared.read_error.ReadError.TheVariants.{NotThisType}
use Rattle.xa_value.specs.Lexical.{is_blank, trimmed}
use Rattle.xa_value.specs.BinaryGrammar.{is_hex_digit, hex_digit, HexByte, print_hex, IsHex, hex_value}
use Rattle.xa_value.specs.parsing.Binary.{or_not_this_type, read_hex}
use Rattle.xa_value.proofs.SolidLemmas.{Solid, trimmed_solid, not_blank}

digit_read : (c : ℕ) → is_hex_digit c ≡ true → hex_digit_value c ≡ Some (hex_digit c)
digit_read c h = grind (arith, nat_tests)

digit_found : (c : ℕ) → is_digit_of_hex c ≡ true → is_hex_digit c ≡ true
digit_found c h = grind (arith, nat_tests)

digit_solid : (c : ℕ) → is_hex_digit c ≡ true → is_blank c ≡ false
digit_solid c h = let above : 32 < c = grind (arith, nat_tests) in not_blank c above

-- twice as many digits as bytes
print_even : (t : List HexByte) → length (print_hex t) ≡ 2 * length t
print_even [] = refl
print_even (byte ∷ bytes) = let ih = print_even bytes in omega arith

pairs_read : (i : ℕ) (t : List HexByte) → IsHex t → decode_pairs i (print_hex t) ≡ Ok (hex_value t)
unfolding decode_pairs
pairs_read i [] valid = refl
pairs_read i (byte ∷ bytes) valid =
    let high : value_at byte.high i ≡ Ok (hex_digit byte.high) = ap (digit_or_error byte.high i) (digit_read byte.high valid.0) in
    let low : value_at byte.low (i + 1) ≡ Ok (hex_digit byte.low) = ap (digit_or_error byte.low (i + 1)) (digit_read byte.low valid.1) in
    let pair : pair_value byte.high byte.low i ≡ Ok (hex_digit byte.high * 16 + hex_digit byte.low) = rw (high, low) refl in
    decode_pairs-ok_pair i byte.high byte.low _ (print_hex bytes) pair ∙ ap (cons_byte (hex_digit byte.high * 16 + hex_digit byte.low)) (pairs_read (i + 2) bytes valid.2)

-- a text of the grammar reads as what it means
pub hex_means : (t : List HexByte) → IsHex t → read_hex (print_hex t) ≡ Ok (hex_value t)
unfolding read_hex
hex_means t valid =
    let even : length (print_hex t) % 2 ≡ 0 = omega (arith, print_even t) in
    ap or_not_this_type (decode_of-even (print_hex t) even ∙ pairs_read 0 t valid)

Solid-hex : (t : List HexByte) → IsHex t → Solid (print_hex t)
Solid-hex [] valid = tt
Solid-hex (byte ∷ bytes) valid = (digit_solid byte.high valid.0, (digit_solid byte.low valid.1, Solid-hex bytes valid.2))

pub hex_solid : (t : List HexByte) → IsHex t → trimmed (print_hex t) ≡ print_hex t
hex_solid t valid = trimmed_solid (print_hex t) (Solid-hex t valid)

abbrev digit_holds : ℕ → Type 0
digit_holds c = is_digit_of_hex c ≡ true

-- an even number of digits is pairs of them
pairs_of : (text : List ℕ) → length text % 2 ≡ 0 → AllPass is_digit_of_hex text → (t : List HexByte) × IsHex t × (text ≡ print_hex t)
pairs_of [] even digits = ([], tt, refl)
pairs_of (a ∷ []) even digits = absurd (omega arith)
pairs_of (a ∷ b ∷ rest) even digits =
    let others = All-tail digit_holds a (b ∷ rest) digits in
    let ih = pairs_of rest (omega arith) (All-tail digit_holds b rest others) in
    (record { high = a; low = b } ∷ ih.0, (digit_found a (All-head digit_holds a (b ∷ rest) digits), digit_found b (All-head digit_holds b rest others), ih.1), ap (λ cs. a ∷ b ∷ cs) ih.2)

-- a text that is bytes is a text of the grammar
pub hex_covers : (text : List ℕ) → ((t : List HexByte) × IsHex t × (text ≡ print_hex t)) ⊎ (read_hex text ≡ Err NotThisType)
unfolding read_hex
hex_covers text = by_outcome (decode_of text) refl
  where
    by_outcome : (r : Result (List ℕ) FromHexError) → decode_of text ≡ r → ((t : List HexByte) × IsHex t × (text ≡ print_hex t)) ⊎ (or_not_this_type (decode_of text) ≡ Err NotThisType)
    by_outcome (Ok bytes) e = let k = decode_of-ok text bytes e in inl (pairs_of text k.0 k.1)
    by_outcome (Err fault) e = inr (rw e refl)
