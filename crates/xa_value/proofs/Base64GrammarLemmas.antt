-- Reading base64 agrees with its grammar.
use Rattle.std.proofs.Common.{◌≡◌, ℕ, suc, ◌+◌, ◌*◌, ◌/◌, ◌%◌, ◌<◌, Bool, true, false, not, ◌⊎◌, inl, inr, List, [], ◌∷◌, ◌++◌, length, reverse, Result, Ok, Err, refl, sym, ap, ◌∙◌, arith}
use Rattle.std.specs.List.{list_all}
use Rattle.std.proofs.lemmas.Bool.{and_parts}
use Rattle.std.proofs.lemmas.List.{reverse-append, reverse-reverse, append-nil}
use Rattle.std.proofs.lemmas.List.Elements.{filter-append}
use Rattle.base64.specs.Rfc4648.{encode_symbols, padding_len}
use Rattle.base64.specs.GeneralPurpose.{IsBytes, decode_of, encode_of}
use Rattle.base64.specs.Engines.{standard}
use Rattle.base64.specs.declared.decode.DecodeError.{DecodeError}
use Rattle.base64.proofs.EngineFacts.{decode_of-encode_of, decode_of_strict}
use Rattle.xa_value.specs.declared.read_error.ReadError.{ReadError}
use Rattle.xa_value.specs.declared.read_error.ReadError.TheVariants.{NotThisType}
use Rattle.xa_value.specs.Lexical.{is_blank, trimmed, trimmed_start, trimmed_end}
use Rattle.xa_value.specs.Binary.{without_blanks}
use Rattle.xa_value.specs.BinaryGrammar.{alphabet, symbol, Base64, end, one_byte, two_bytes, three_bytes, print_base64, IsBase64, base64_value}
use Rattle.xa_value.specs.parsing.Binary.{or_not_this_type}
use Rattle.xa_value.proofs.SolidLemmas.{Solid, Solid-at, without_blanks_solid}
use Rattle.xa_value.proofs.BinaryReads.{IsBytes-cons}
use Rattle.xa_value.proofs.Base64Bytes.{decoded_are_bytes}

-- ---- trees and encodings

three_encoded : (a b c : ℕ) (xs : List ℕ) → encode_of standard (a ∷ b ∷ c ∷ xs) ≡ symbol (a / 4) ∷ symbol (a % 4 * 16 + b / 16) ∷ symbol (b % 16 * 4 + c / 64) ∷ symbol (c % 64) ∷ encode_of standard xs
unfolding encode_symbols
three_encoded a b c xs = let same : padding_len (length (a ∷ b ∷ c ∷ xs)) ≡ padding_len (length xs) = omega arith in rw same refl

-- the text of a tree is the encoding of its bytes
printed : (t : Base64) → IsBase64 t → print_base64 t ≡ encode_of standard (base64_value t)
unfolding encode_symbols
printed end valid = refl
printed (one_byte a b) valid =
    let e0 : (a * 4 + b / 16) / 4 ≡ a = omega arith in
    let e1 : (a * 4 + b / 16) % 4 * 16 ≡ b = omega arith in
    rw (e0, e1) refl
printed (two_bytes a b c) valid =
    let e0 : (a * 4 + b / 16) / 4 ≡ a = omega arith in
    let e1 : (a * 4 + b / 16) % 4 * 16 + (b % 16 * 16 + c / 4) / 16 ≡ b = omega arith in
    let e2 : (b % 16 * 16 + c / 4) % 16 * 4 ≡ c = omega arith in
    rw (e0, e1, e2) refl
printed (three_bytes a b c d rest) valid =
    let e0 : (a * 4 + b / 16) / 4 ≡ a = omega arith in
    let e1 : (a * 4 + b / 16) % 4 * 16 + (b % 16 * 16 + c / 4) / 16 ≡ b = omega arith in
    let e2 : (b % 16 * 16 + c / 4) % 16 * 4 + (c % 4 * 64 + d) / 64 ≡ c = omega arith in
    let e3 : (c % 4 * 64 + d) % 64 ≡ d = omega arith in
    let ih = printed rest valid.4 in
    rw (three_encoded (a * 4 + b / 16) (b % 16 * 16 + c / 4) (c % 4 * 64 + d) (base64_value rest), e0, e1, e2, e3, ih) refl

nothing_is_bytes : IsBytes []
nothing_is_bytes i = omega arith

value_is_bytes : (t : Base64) → IsBase64 t → IsBytes (base64_value t)
value_is_bytes end valid = nothing_is_bytes
value_is_bytes (one_byte a b) valid = IsBytes-cons (a * 4 + b / 16) [] (omega arith) nothing_is_bytes
value_is_bytes (two_bytes a b c) valid =
    IsBytes-cons (a * 4 + b / 16) ((b % 16 * 16 + c / 4) ∷ []) (omega arith) (IsBytes-cons (b % 16 * 16 + c / 4) [] (omega arith) nothing_is_bytes)
value_is_bytes (three_bytes a b c d rest) valid =
    let bytes = base64_value rest in
    IsBytes-cons (a * 4 + b / 16) ((b % 16 * 16 + c / 4) ∷ (c % 4 * 64 + d) ∷ bytes) (omega arith)
    (IsBytes-cons (b % 16 * 16 + c / 4) ((c % 4 * 64 + d) ∷ bytes) (omega arith) (IsBytes-cons (c % 4 * 64 + d) bytes (omega arith) (value_is_bytes rest valid.4)))

-- the encoding of bytes is the text of a tree
tree_of : (xs : List ℕ) → IsBytes xs → (t : Base64) × IsBase64 t × (encode_of standard xs ≡ print_base64 t)
unfolding encode_symbols
tree_of [] byte = (end, tt, refl)
tree_of (a ∷ []) byte = let la : a < 256 = byte 0 in (one_byte (a / 4) (a % 4 * 16), (omega arith, omega arith, omega arith), refl)
tree_of (a ∷ b ∷ []) byte =
    let la : a < 256 = byte 0 in
    let lb : b < 256 = byte 1 in
    (two_bytes (a / 4) (a % 4 * 16 + b / 16) (b % 16 * 4), (omega arith, omega arith, omega arith, omega arith), refl)
tree_of (a ∷ b ∷ c ∷ xs) byte =
    let la : a < 256 = byte 0 in
    let lb : b < 256 = byte 1 in
    let lc : c < 256 = byte 2 in
    let ih = tree_of xs (λ i. byte (suc (suc (suc i)))) in (
      three_bytes (a / 4) (a % 4 * 16 + b / 16) (b % 16 * 4 + c / 64) (c % 64) ih.0,
      (omega arith, omega arith, omega arith, omega arith, ih.1),
      three_encoded a b c xs ∙ ap (λ cs. symbol (a / 4) ∷ symbol (a % 4 * 16 + b / 16) ∷ symbol (b % 16 * 4 + c / 64) ∷ symbol (c % 64) ∷ cs) ih.2,
    )

-- ---- reading a text without white space

abbrev pub read_solid : List ℕ → Result (List ℕ) ReadError
read_solid text = or_not_this_type (decode_of standard text)

-- a text of the grammar reads as what it means
pub base64_means : (t : Base64) → IsBase64 t → read_solid (print_base64 t) ≡ Ok (base64_value t)
base64_means t valid =
    ap read_solid (printed t valid) ∙ ap or_not_this_type (decode_of-encode_of standard (base64_value t) refl (value_is_bytes t valid))

-- a text that is bytes is a text of the grammar
pub base64_covers : (text : List ℕ) → IsBytes text → ((t : Base64) × IsBase64 t × (text ≡ print_base64 t)) ⊎ (read_solid text ≡ Err NotThisType)
base64_covers text byte = by_outcome (decode_of standard text) refl
  where
    by_outcome : (r : Result (List ℕ) DecodeError) → decode_of standard text ≡ r → ((t : Base64) × IsBase64 t × (text ≡ print_base64 t)) ⊎ (read_solid text ≡ Err NotThisType)
    by_outcome (Ok bytes) e =
        let t = tree_of bytes (decoded_are_bytes text bytes byte e) in
        inl (t.0, t.1, decode_of_strict standard text bytes (refl, refl) byte e ∙ t.2)
    by_outcome (Err fault) e = inr (rw e refl)

-- ---- white space

Solid-test : (xs : List ℕ) → list_all (λ c. not (is_blank c)) xs ≡ true → Solid xs
Solid-test [] h = tt
Solid-test (x ∷ xs) h = let k = and_parts (not (is_blank x)) (list_all (λ c. not (is_blank c)) xs) h in (turned (is_blank x) k.0, Solid-test xs k.1)
  where
    turned : (b : Bool) → not b ≡ true → b ≡ false
    turned true e = absurd (cc)
    turned false e = refl

symbol_solid : (n : ℕ) → n < 64 → is_blank (symbol n) ≡ false
symbol_solid n h = Solid-at alphabet n (Solid-test alphabet refl) h

Solid-base64 : (t : Base64) → IsBase64 t → Solid (print_base64 t)
Solid-base64 end valid = tt
Solid-base64 (one_byte a b) valid = (symbol_solid a valid.0, (symbol_solid b valid.1, (refl, (refl, tt))))
Solid-base64 (two_bytes a b c) valid = (symbol_solid a valid.0, (symbol_solid b valid.1, (symbol_solid c valid.2, (refl, tt))))
Solid-base64 (three_bytes a b c d rest) valid =
    (symbol_solid a valid.0, (symbol_solid b valid.1, (symbol_solid c valid.2, (symbol_solid d valid.3, Solid-base64 rest valid.4))))

pub base64_solid : (t : Base64) → IsBase64 t → without_blanks (print_base64 t) ≡ print_base64 t
base64_solid t valid = without_blanks_solid (print_base64 t) (Solid-base64 t valid)

-- once all white space is dropped, none at the ends is left to drop
start_dropped : (xs : List ℕ) → without_blanks (trimmed_start xs) ≡ without_blanks xs
unfolding trimmed_start
start_dropped [] = refl
start_dropped (x ∷ xs) = by_first (is_blank x) refl (start_dropped xs)
  where
    by_first : (b : Bool) → is_blank x ≡ b → without_blanks (trimmed_start xs) ≡ without_blanks xs → without_blanks (trimmed_start (x ∷ xs)) ≡ without_blanks (x ∷ xs)
    by_first true e ih = rw e ih
    by_first false e ih = rw e (rw e refl)

backwards : (xs : List ℕ) → without_blanks (reverse xs) ≡ reverse (without_blanks xs)
backwards [] = refl
backwards (x ∷ xs) =
    ap without_blanks (reverse-append (x ∷ []) xs) ∙ filter-append (λ c. not (is_blank c)) (reverse xs) (x ∷ []) ∙ by_first (is_blank x) refl (backwards xs)
  where
    by_first : (b : Bool) → is_blank x ≡ b → without_blanks (reverse xs) ≡ reverse (without_blanks xs) → without_blanks (reverse xs) ++ without_blanks (x ∷ []) ≡ reverse (without_blanks (x ∷ xs))
    by_first true e ih = rw (e, ih) (append-nil (reverse (without_blanks xs)))
    by_first false e ih = rw (e, ih) (sym (reverse-append (x ∷ []) (without_blanks xs)))

end_dropped : (xs : List ℕ) → without_blanks (trimmed_end xs) ≡ without_blanks xs
unfolding trimmed_end
end_dropped xs = backwards (trimmed_start (reverse xs)) ∙ ap reverse (start_dropped (reverse xs) ∙ backwards xs) ∙ reverse-reverse (without_blanks xs)

pub without_blanks_trimmed : (xs : List ℕ) → without_blanks (trimmed xs) ≡ without_blanks xs
without_blanks_trimmed xs = end_dropped (trimmed_start xs) ∙ start_dropped xs
