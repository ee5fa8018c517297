-- White space at the end of a text.
use Rattle.std.proofs.Common.{◌≡◌, ℕ, ◌-◌, ◌<◌, ◌≤◌, true, false, List, [], ◌∷◌, ◌++◌, length, take, get_or, reverse, refl, sym, ap, ◌∙◌, arith}
use Rattle.std.proofs.lemmas.List.{reverse-append, reverse-reverse}
use Rattle.httparse.specs.Grammar.{is_ows, skip_ows}
use Rattle.xa_value.proofs.LexicalLemmas.{front_and_last}

-- the text without the white space that it ends with
abbrev pub trimmed : List ℕ → List ℕ
trimmed xs = reverse (skip_ows (reverse xs))

-- a text that ends with white space, without it
trimmed_blank : (xs : List ℕ) (b : ℕ) → is_ows b ≡ true → trimmed (xs ++ b ∷ []) ≡ trimmed xs
trimmed_blank xs b blank = rw (reverse-append xs (b ∷ []), blank) refl

-- a text that ends with another character ends there
trimmed_other : (xs : List ℕ) (b : ℕ) → is_ows b ≡ false → trimmed (xs ++ b ∷ []) ≡ xs ++ b ∷ []
trimmed_other xs b other =
    rw (reverse-append xs (b ∷ []), other) (ap reverse (sym (reverse-append xs (b ∷ []))) ∙ reverse-reverse (xs ++ b ∷ []))

pub last_blank : (xs : List ℕ) → 1 ≤ length xs → is_ows (get_or xs (length xs - 1) 0) ≡ true → trimmed (take (length xs - 1) xs) ≡ trimmed xs
last_blank xs some blank =
    sym (ap trimmed (front_and_last xs some) ∙ trimmed_blank (take (length xs - 1) xs) (get_or xs (length xs - 1) 0) blank)

pub last_other : (xs : List ℕ) → 1 ≤ length xs → is_ows (get_or xs (length xs - 1) 0) ≡ false → trimmed xs ≡ xs
last_other xs some other =
    ap trimmed (front_and_last xs some)
    ∙ trimmed_other (take (length xs - 1) xs) (get_or xs (length xs - 1) 0) other
    ∙ sym (front_and_last xs some)

pub trimmed_none : (xs : List ℕ) → length xs < 1 → trimmed xs ≡ xs
trimmed_none [] none = refl
trimmed_none (x ∷ xs) none = absurd (omega arith)
