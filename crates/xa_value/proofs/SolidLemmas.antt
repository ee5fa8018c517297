-- Texts without white space stay as they are when they are trimmed.
use Rattle.std.proofs.Common.{◌≡◌, ℕ, zero, suc, ◌-◌, ◌<◌, Bool, true, false, List, [], ◌∷◌, ◌++◌, length, get_or, refl, ap, ◌∙◌, arith}
use Rattle.std.proofs.lemmas.Bool.Decides.{nat_tests}
use Rattle.xa_value.specs.Lexical.{is_blank, trimmed_start, trimmed_end, trimmed}
use Rattle.xa_value.specs.parsing.Lexical.{digit_count}
use Rattle.xa_value.specs.Binary.{without_blanks}
use Rattle.xa_value.proofs.LexicalLemmas.{last_other, trimmed_end_none}
use Rattle.xa_value.proofs.TimeLemmas.{digits_cons, digit_bounds}

-- no character is white space
abbrev pub Solid : List ℕ → Type 0
Solid [] = Unit {0}
Solid (c ∷ cs) = (is_blank c ≡ false) × Solid cs

pub Solid-append : (xs ys : List ℕ) → Solid xs → Solid ys → Solid (xs ++ ys)
Solid-append [] ys p q = q
Solid-append (x ∷ xs) ys p q = (p.0, Solid-append xs ys p.1 q)

-- characters above the space are no white space
pub not_blank : (c : ℕ) → 32 < c → is_blank c ≡ false
not_blank c h = grind (arith, nat_tests)

pub Solid-at : (xs : List ℕ) (i : ℕ) → Solid xs → i < length xs → is_blank (get_or xs i 0) ≡ false
Solid-at [] i p l = absurd (omega arith)
Solid-at (x ∷ xs) zero p l = p.0
Solid-at (x ∷ xs) (suc i) p l = Solid-at xs i p.1 (omega arith)

trimmed_start_solid : (xs : List ℕ) → Solid xs → trimmed_start xs ≡ xs
unfolding trimmed_start
trimmed_start_solid [] p = refl
trimmed_start_solid (x ∷ xs) p = rw p.0 refl

trimmed_end_solid : (xs : List ℕ) → Solid xs → trimmed_end xs ≡ xs
trimmed_end_solid [] p = trimmed_end_none [] (omega arith)
trimmed_end_solid (x ∷ xs) p = last_other (x ∷ xs) (omega arith) (Solid-at (x ∷ xs) (length (x ∷ xs) - 1) p (omega arith))

-- such a text has nothing to trim
pub trimmed_solid : (xs : List ℕ) → Solid xs → trimmed xs ≡ xs
trimmed_solid xs p = ap trimmed_end (trimmed_start_solid xs p) ∙ trimmed_end_solid xs p

pub Solid-digits : (ds : List ℕ) → digit_count ds ≡ length ds → Solid ds
Solid-digits [] h = tt
Solid-digits (d ∷ ds) h =
    let k = digits_cons d ds h in
    let range = digit_bounds d k.0 in
    (not_blank d (omega arith), Solid-digits ds k.1)

-- what is left once white space is dropped has none
pub Solid-without_blanks : (xs : List ℕ) → Solid (without_blanks xs)
Solid-without_blanks [] = tt
Solid-without_blanks (x ∷ xs) = by_first (is_blank x) refl (Solid-without_blanks xs)
  where
    by_first : (b : Bool) → is_blank x ≡ b → Solid (without_blanks xs) → Solid (without_blanks (x ∷ xs))
    by_first true e ih = rw e ih
    by_first false e ih = rw e (e, ih)

pub without_blanks_solid : (xs : List ℕ) → Solid xs → without_blanks xs ≡ xs
without_blanks_solid [] p = refl
without_blanks_solid (x ∷ xs) p = rw p.0 (ap (λ ys. x ∷ ys) (without_blanks_solid xs p.1))
