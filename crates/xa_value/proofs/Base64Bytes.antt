-- What base64 decodes to is bytes.
use Rattle.std.proofs.Common.{◌≡◌, ℕ, zero, suc, ◌+◌, ◌*◌, ◌<◌, inl, inr, List, [], ◌∷◌, ◌++◌, length, drop, slice_index, Option, Some, None, Result, Ok, Err, refl, sym, subst, ◌∙◌, arith}
use Rattle.std.proofs.lemmas.List.{get_or-drop}
use Rattle.base64.specs.declared.decode.DecodeError.{DecodeError}
use Rattle.base64.specs.Decode.{IsDecodeTable, decode_group, or_else, symbol_error, group_error, group_bytes, groups_error, groups_bytes, groups_before_last, lone_error, no_leftover, push_leftover, scan_steps, scan, scan_last, scan_bytes, suffix_bytes, decode_error, decoded_bytes, decode_outcome}
use Rattle.base64.specs.GeneralPurpose.{IsBytes, decode_of}
use Rattle.base64.specs.Engines.{standard}
use Rattle.base64.proofs.Tables.{IsDecodeTable_from, are_tables_inverse}
use Rattle.base64.proofs.Decoding.{IsLeftover, IsLeftover_next, scan-cons_ok, scan-cons_err}
use Rattle.base64.proofs.EngineFacts.{decode_of_bytes}
use Rattle.xa_value.proofs.BinaryReads.{IsBytes-cons, IsBytes-take}

or_else_none : (x y : Option DecodeError) → or_else x y ≡ None → (x ≡ None) × (y ≡ None)
or_else_none None y h = (refl, h)
or_else_none (Some e) y h = absurd (cc)

-- four numbers of six bits are three bytes
group_is_bytes : (a b c d : ℕ) → a < 64 → b < 64 → c < 64 → d < 64 → IsBytes (decode_group a b c d)
group_is_bytes a b c d la lb lc ld zero = omega arith
group_is_bytes a b c d la lb lc ld (suc zero) = omega arith
group_is_bytes a b c d la lb lc ld (suc (suc zero)) = omega arith
group_is_bytes a b c d la lb lc ld (suc (suc (suc i))) = omega arith

IsBytes-append : (xs ys : List ℕ) → IsBytes xs → IsBytes ys → IsBytes (xs ++ ys)
IsBytes-append [] ys p q = q
IsBytes-append (x ∷ xs) ys p q = IsBytes-cons x (xs ++ ys) (p 0) (IsBytes-append xs ys (λ i. p (suc i)) q)

-- a symbol's number has six bits
symbol_small : (dec s : List ℕ) (i : ℕ) → IsDecodeTable dec → IsBytes s → symbol_error dec s i ≡ None → slice_index dec (slice_index s i) < 64
symbol_small dec s i table byte none = elim (table (slice_index s i) (byte i)) [
  | inl bad ↦ cc (rw bad at none)
  | inr good ↦ good
]

groups_are_bytes : (dec s : List ℕ) (q : ℕ) → IsDecodeTable dec → IsBytes s → groups_error dec s q ≡ None → IsBytes (groups_bytes dec s q)
unfolding groups_error groups_bytes
groups_are_bytes dec s zero table byte none = λ i. omega arith
groups_are_bytes dec s (suc q) table byte none =
    let i : ℕ = 4 * q in
    let parts = or_else_none (groups_error dec s q) (group_error dec s i) none in
    let p0 = or_else_none (symbol_error dec s i) _ parts.1 in
    let p1 = or_else_none (symbol_error dec s (i + 1)) _ p0.1 in
    let p2 = or_else_none (symbol_error dec s (i + 2)) (symbol_error dec s (i + 3)) p1.1 in
    IsBytes-append (groups_bytes dec s q) (group_bytes dec s i) (groups_are_bytes dec s q table byte parts.0)
    (group_is_bytes _ _ _ _ (symbol_small dec s i table byte p0.0) (symbol_small dec s (i + 1) table byte p1.0) (symbol_small dec s (i + 2) table byte p2.0) (symbol_small dec s (i + 3) table byte p2.1))

-- what the scan of the last symbols keeps has six bits
scan_small : (dec : List ℕ) (pad at : ℕ) (bs : List ℕ) (st fin : _) (i : ℕ) → IsDecodeTable dec → IsBytes bs → IsLeftover st i → scan dec pad at st i bs ≡ Ok fin → (k : ℕ) → slice_index fin.morsels k < 64
unfolding scan_steps
scan_small dec pad at [] st fin i table byte held h = let same : st ≡ fin = cc in subst (λ f. (k : ℕ) → slice_index f.morsels k < 64) same held.3
scan_small dec pad at (b ∷ bs) st fin i table byte held h =
    by_step (push_leftover dec pad at st i b) refl (λ next e. scan_small dec pad at bs next fin (i + 1) table (λ k. byte (suc k)) (IsLeftover_next dec pad at st i b next table held (byte 0) e) (sym (scan-cons_ok dec pad at st i b bs next e) ∙ h))
  where
    by_step : (r : Result _ DecodeError) → push_leftover dec pad at st i b ≡ r → ((next : _) → push_leftover dec pad at st i b ≡ Ok next → (k : ℕ) → slice_index fin.morsels k < 64) → (k : ℕ) → slice_index fin.morsels k < 64
    by_step (Ok next) e more = more next e
    by_step (Err fault) e more = cc (sym (scan-cons_err dec pad at st i b bs fault e) ∙ h)

zeros_small : (k : ℕ) → slice_index (0 ∷ 0 ∷ 0 ∷ 0 ∷ []) k < 64
zeros_small zero = omega arith
zeros_small (suc zero) = omega arith
zeros_small (suc (suc zero)) = omega arith
zeros_small (suc (suc (suc zero))) = omega arith
zeros_small (suc (suc (suc (suc k)))) = omega arith

last_are_bytes : (dec s : List ℕ) (pad at : ℕ) → IsDecodeTable dec → IsBytes s → IsBytes (suffix_bytes dec pad at s)
last_are_bytes dec s pad at table byte = by_scan (scan_last dec pad at s) refl
  where
    by_scan : (r : Result _ DecodeError) → scan_last dec pad at s ≡ r → IsBytes (scan_bytes r)
    by_scan (Ok st) e =
        let small = scan_small dec pad at (drop at s) no_leftover st 0 table (λ k. rw (get_or-drop at s k 0) (byte (at + k))) (omega arith, omega arith, omega arith, zeros_small) e in
        IsBytes-take _ _ (group_is_bytes _ _ _ _ (small 0) (small 1) (small 2) (small 3))
    by_scan (Err fault) e = λ i. omega arith

-- a text that decodes, decodes to bytes
pub decoded_are_bytes : (s b : List ℕ) → IsBytes s → decode_of standard s ≡ Ok b → IsBytes b
decoded_are_bytes s b byte h = decode_of_bytes standard s b all h
  where
    dec : List ℕ
    dec = standard.decode_table

    table : IsDecodeTable dec
    table = IsDecodeTable_from standard.encode_table dec (are_tables_inverse standard.encode_table dec 61 refl)

    no_error : (x : Option DecodeError) (d : List ℕ) → decode_outcome x d ≡ Ok b → x ≡ None
    no_error None d k = refl
    no_error (Some e) d k = absurd (cc)

    none : decode_error dec 61 standard.config.decode_allow_trailing_bits standard.config.decode_padding_mode s ≡ None
    none = no_error _ _ h

    all : IsBytes (decoded_bytes dec 61 s)
    all =
        let q = groups_before_last (length s) in
        let whole = or_else_none (lone_error dec 61 s) _ none in
        let groups = or_else_none (groups_error dec s q) _ whole.1 in
        IsBytes-append (groups_bytes dec s q) (suffix_bytes dec 61 (4 * q) s) (groups_are_bytes dec s q table byte groups.0) (last_are_bytes dec s 61 (4 * q) table byte)
