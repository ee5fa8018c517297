-- Bytes and URIs that were read print as texts that read as the same.
use Rattle.std.proofs.Common.{◌≡◌, ℕ, zero, suc, ◌+◌, ◌/◌, ◌%◌, ◌<◌, Bool, true, false, inl, inr, List, [], ◌∷◌, length, take, drop, reverse, Result, Ok, Err, refl, sym, ap, subst, ◌∙◌, arith}
use Rattle.std.specs.Prelude.{slice_index}
use Rattle.std.specs.List.{prefix_len}
use Rattle.std.proofs.lemmas.List.{reverse-reverse, get_or-drop, get_or-take, get_or_past, length-take}
use Rattle.std.proofs.lemmas.Bool.{cases_lt}
use Rattle.hex.specs.Hex.{IsBytes, decode_of, encode_with, encode_upper, upper_digits}
use Rattle.hex.proofs.HexLemmas.{decode_of-encode_upper, decode_of-ok}
use Rattle.base64.specs.GeneralPurpose.{decode_of as decode_by, encode_of as encode_by, IsStrict}
use Rattle.base64.specs.Engines.{standard}
use Rattle.base64.proofs.EngineFacts.{decode_of_strict}
use Rattle.xa_value.specs.Lexical.{is_blank, trimmed, trimmed_start, trimmed_end}
use Rattle.xa_value.specs.Binary.{hex_text, without_blanks, base64_text}
use Rattle.xa_value.specs.parsing.Binary.{or_not_this_type, read_hex, read_base64}
use Rattle.xa_value.proofs.LexicalLemmas.{trimmed_start_is_drop, trimmed_end_is_take}
use Rattle.xa_value.proofs.SolidLemmas.{Solid, Solid-at, trimmed_solid, Solid-without_blanks, without_blanks_solid}

-- the digits of hexadecimal text are no white space
upper_digit_solid : (k : ℕ) → k < 16 → is_blank (slice_index upper_digits k) ≡ false
upper_digit_solid k h = Solid-at upper_digits k (refl, (refl, (refl, (refl, (refl, (refl, (refl, (refl, (refl, (refl, (refl, (refl, (refl, (refl, (refl, (refl, tt)))))))))))))))) (omega arith)

Solid-encode_upper : (xs : List ℕ) → IsBytes xs → Solid (encode_with upper_digits xs)
unfolding encode_with
Solid-encode_upper [] h = tt
Solid-encode_upper (x ∷ xs) h =
    let byte : x < 256 = h 0 in
    (upper_digit_solid (x / 16) (omega arith), (upper_digit_solid (x % 16) (omega arith), Solid-encode_upper xs (λ i. h (suc i))))

-- what decoded does so
decoded : {X E : Type 0} (r : Result X E) (x : X) → or_not_this_type r ≡ Ok x → r ≡ Ok x
decoded (Ok y) x h = let e : y ≡ x = cc in ap Ok e
decoded (Err e) x h = absurd (cc)

pub hex_reads : (text bytes : List ℕ) → read_hex text ≡ Ok bytes → read_hex (trimmed (hex_text bytes)) ≡ Ok bytes
unfolding read_hex hex_text
hex_reads text bytes h =
    let byte : IsBytes bytes = (decode_of-ok text bytes (decoded (decode_of text) bytes h)).3 in
    ap (λ t. or_not_this_type (decode_of t)) (trimmed_solid (encode_upper bytes) (Solid-encode_upper bytes byte)) ∙ ap or_not_this_type (decode_of-encode_upper bytes byte)

pub IsBytes-cons : (x : ℕ) (xs : List ℕ) → x < 256 → IsBytes xs → IsBytes (x ∷ xs)
IsBytes-cons x xs h hs zero = h
IsBytes-cons x xs h hs (suc i) = hs i

pub IsBytes-without_blanks : (xs : List ℕ) → IsBytes xs → IsBytes (without_blanks xs)
IsBytes-without_blanks [] h = h
IsBytes-without_blanks (x ∷ xs) h = by_first (is_blank x) refl (IsBytes-without_blanks xs (λ i. h (suc i)))
  where
    by_first : (b : Bool) → is_blank x ≡ b → IsBytes (without_blanks xs) → IsBytes (without_blanks (x ∷ xs))
    by_first true e ih = rw e ih
    by_first false e ih = rw e (IsBytes-cons x (without_blanks xs) (h 0) ih)

IsBytes-drop : (n : ℕ) (xs : List ℕ) → IsBytes xs → IsBytes (drop n xs)
IsBytes-drop n xs h i = rw (get_or-drop n xs i 0) (h (n + i))

pub IsBytes-take : (n : ℕ) (xs : List ℕ) → IsBytes xs → IsBytes (take n xs)
IsBytes-take n xs h i = elim (cases_lt i n) [
  | inl below ↦ rw (get_or-take n xs i 0 below) (h i)
  | inr past ↦ rw (get_or_past (take n xs) i 0 (omega (arith, length-take n xs))) (omega arith)
]

-- a part of a text has bytes
pub IsBytes-trimmed : (xs : List ℕ) → IsBytes xs → IsBytes (trimmed xs)
IsBytes-trimmed xs h =
    let front : IsBytes (trimmed_start xs) = subst IsBytes (sym (trimmed_start_is_drop xs)) (IsBytes-drop (prefix_len is_blank xs) xs h) in
    subst IsBytes (sym (trimmed_end_is_take (trimmed_start xs))) (IsBytes-take (length (trimmed xs)) (trimmed_start xs) front)

strict : IsStrict standard
strict = (refl, refl)

pub base64_reads : (text bytes : List ℕ) → IsBytes text → read_base64 text ≡ Ok bytes → read_base64 (trimmed (base64_text bytes)) ≡ Ok bytes
unfolding read_base64 base64_text
base64_reads text bytes byte h =
    let d : decode_by standard (without_blanks text) ≡ Ok bytes = decoded (decode_by standard (without_blanks text)) bytes h in
    let e : without_blanks text ≡ encode_by standard bytes = decode_of_strict standard (without_blanks text) bytes strict (IsBytes-without_blanks text byte) d in
    let solid : Solid (encode_by standard bytes) = subst Solid e (Solid-without_blanks text) in
    let whole : without_blanks (trimmed (encode_by standard bytes)) ≡ without_blanks text =
    ap without_blanks (trimmed_solid (encode_by standard bytes) solid) ∙ without_blanks_solid (encode_by standard bytes) solid ∙ sym e in
    ap (λ t. or_not_this_type (decode_by standard t)) whole ∙ h

-- trimming a trimmed text changes nothing
trimmed_start_again : (xs : List ℕ) → trimmed_start (trimmed_start xs) ≡ trimmed_start xs
unfolding trimmed_start
trimmed_start_again [] = refl
trimmed_start_again (x ∷ xs) = by_first (is_blank x) refl (trimmed_start_again xs)
  where
    by_first : (b : Bool) → is_blank x ≡ b → trimmed_start (trimmed_start xs) ≡ trimmed_start xs → trimmed_start (trimmed_start (x ∷ xs)) ≡ trimmed_start (x ∷ xs)
    by_first true e ih = rw e ih
    by_first false e ih = rw e (rw e refl)

trimmed_end_again : (xs : List ℕ) → trimmed_end (trimmed_end xs) ≡ trimmed_end xs
unfolding trimmed_end
trimmed_end_again xs = rw (reverse-reverse (trimmed_start (reverse xs))) (ap reverse (trimmed_start_again (reverse xs)))

-- a text that begins with no white space
abbrev Begins : List ℕ → Type 0
Begins [] = Unit {0}
Begins (x ∷ xs) = is_blank x ≡ false

trimmed_start_begins : (xs : List ℕ) → Begins (trimmed_start xs)
unfolding trimmed_start
trimmed_start_begins [] = tt
trimmed_start_begins (x ∷ xs) = by_first (is_blank x) refl (trimmed_start_begins xs)
  where
    by_first : (b : Bool) → is_blank x ≡ b → Begins (trimmed_start xs) → Begins (trimmed_start (x ∷ xs))
    by_first true e ih = rw e ih
    by_first false e ih = rw e e

begins_taken : (n : ℕ) (xs : List ℕ) → Begins xs → trimmed_start (take n xs) ≡ take n xs
unfolding trimmed_start
begins_taken zero xs h = refl
begins_taken (suc n) [] h = refl
begins_taken (suc n) (x ∷ xs) h = rw h refl

pub trimmed_again : (xs : List ℕ) → trimmed (trimmed xs) ≡ trimmed xs
trimmed_again xs =
    let cut = trimmed_end_is_take (trimmed_start xs) in
    let start : trimmed_start (trimmed xs) ≡ trimmed xs =
    ap trimmed_start cut ∙ begins_taken (length (trimmed xs)) (trimmed_start xs) (trimmed_start_begins xs) ∙ sym cut in
    ap trimmed_end start ∙ trimmed_end_again (trimmed_start xs)
