-- The shape of a pattern's text, part by part.
use Rattle.std.proofs.Common.{◌≡◌, ℕ, ◌<◌, Bool, true, false, List, [], ◌∷◌, length, refl, sym, ap, ◌∙◌, arith}
use Rattle.std.specs.Prelude.{◌&&◌, ◌||◌, bytes_eq, codes}
use Rattle.std.specs.List.{list_all}
use Rattle.std.proofs.lemmas.Bool.{and_parts}
use Rattle.std.proofs.lemmas.Slice.Eq.{bytes_eq-Decides}
use Rattle.xa_value.specs.Digits.{is_number}
use Rattle.xa_policy.specs.Pattern.{is_star, is_plus, is_pattern}

-- ---- numbers, `*` and `+` are told apart

bytes_eq_true : (p q : List ℕ) → bytes_eq p q ≡ true → p ≡ q
bytes_eq_true p q e = (bytes_eq-Decides p q).0 e

pub or_more : (a b c : Bool) → (a || b) ≡ true → (a || b || c) ≡ true
or_more true b c h = refl
or_more false true c h = refl
or_more false false c h = absurd (cc)

other_text : (p q : List ℕ) → is_number p ≡ true → is_number q ≡ false → bytes_eq p q ≡ false
other_text p q h k = by_test (bytes_eq p q) refl
  where
    by_test : (b : Bool) → bytes_eq p q ≡ b → bytes_eq p q ≡ false
    by_test false e = e
    by_test true e = let same : p ≡ q = bytes_eq_true p q e in absurd (let f : true ≡ false = sym h ∙ ap is_number same ∙ k in cc)

pub number_no_star : (p : List ℕ) → is_number p ≡ true → is_star p ≡ false
number_no_star p h = other_text p (codes "*") h refl

pub number_no_plus : (p : List ℕ) → is_number p ≡ true → is_plus p ≡ false
number_no_plus p h = other_text p (codes "+") h refl

-- a part before the last is no `+`
pub single_no_plus : (p : List ℕ) → (is_number p || is_star p) ≡ true → is_plus p ≡ false
single_no_plus p h = by_test (is_plus p) refl
  where
    by_test : (b : Bool) → is_plus p ≡ b → is_plus p ≡ false
    by_test false e = e
    by_test true e = let same : p ≡ codes "+" = bytes_eq_true p (codes "+") e in absurd (let f : true ≡ false = sym h ∙ ap (λ t. is_number t || is_star t) same in cc)

-- ---- the shape, from the first part on

-- whether parts go on with a pattern, after a `+` or none
abbrev pub goes_on : Bool → List (List ℕ) → Bool
goes_on ended [] = true
goes_on true (p ∷ ps) = false
goes_on false (p ∷ ps) = (is_number p || is_star p || is_plus p) && goes_on (is_plus p) ps

not_single : (p : List ℕ) (rest : Bool → Bool) → (is_number p || is_star p) ≡ false → rest true ≡ false → ((is_number p || is_star p || is_plus p) && rest (is_plus p)) ≡ false
not_single p rest h none = by_parts (is_number p) (is_star p) (is_plus p) h
  where
    by_parts : (a b c : Bool) → (a || b) ≡ false → ((a || b || c) && rest c) ≡ false
    by_parts true b c h = absurd (cc)
    by_parts false true c h = absurd (cc)
    by_parts false false true h = none
    by_parts false false false h = refl

goes_on_more : (p q : List ℕ) (ps : List (List ℕ)) → goes_on false (q ∷ ps) ≡ is_pattern (q ∷ ps) → goes_on false (p ∷ q ∷ ps) ≡ is_pattern (p ∷ q ∷ ps)
goes_on_more p q ps rest = by_single (is_number p || is_star p) refl
  where
    by_single : (b : Bool) → (is_number p || is_star p) ≡ b → goes_on false (p ∷ q ∷ ps) ≡ is_pattern (p ∷ q ∷ ps)
    by_single true e =
        let whole : (is_number p || is_star p || is_plus p) ≡ true = or_more (is_number p) (is_star p) (is_plus p) e in
        rw (whole, single_no_plus p e, e) rest
    by_single false e = not_single p (λ ended. goes_on ended (q ∷ ps)) e refl ∙ sym (ap (λ b. b && is_pattern (q ∷ ps)) e)

pub goes_on_from_start : (ps : List (List ℕ)) → 0 < length ps → goes_on false ps ≡ is_pattern ps
goes_on_from_start [] h = absurd (omega arith)
goes_on_from_start (p ∷ []) h = by_last (is_number p || is_star p || is_plus p) (is_plus p)
  where
    by_last : (a b : Bool) → (a && goes_on b []) ≡ a
    by_last true true = refl
    by_last true false = refl
    by_last false b = refl
goes_on_from_start (p ∷ q ∷ ps) h = goes_on_more p q ps (goes_on_from_start (q ∷ ps) (omega arith))

-- one turn, where the parts from here on decide the whole
pub goes_on_ended : (ended : Bool) (p : List ℕ) (ps : List (List ℕ)) (whole : Bool) → goes_on ended (p ∷ ps) ≡ whole → ended ≡ true → false ≡ whole
goes_on_ended true p ps whole h e = h
goes_on_ended false p ps whole h e = absurd (cc)

pub goes_on_other : (ended : Bool) (p : List ℕ) (ps : List (List ℕ)) (whole : Bool) → goes_on ended (p ∷ ps) ≡ whole → (is_number p || is_star p || is_plus p) ≡ false → false ≡ whole
goes_on_other true p ps whole h e = h
goes_on_other false p ps whole h e = sym (ap (λ b. b && goes_on (is_plus p) ps) e) ∙ h

pub goes_on_next : (ended : Bool) (p : List ℕ) (ps : List (List ℕ)) (whole : Bool) → goes_on ended (p ∷ ps) ≡ whole → ended ≡ false → (is_number p || is_star p || is_plus p) ≡ true → goes_on (is_plus p) ps ≡ whole
goes_on_next true p ps whole h e f = absurd (cc)
goes_on_next false p ps whole h e f = sym (ap (λ b. b && goes_on (is_plus p) ps) f) ∙ h

pub goes_on_done : (ended : Bool) → goes_on ended [] ≡ true
goes_on_done true = refl
goes_on_done false = refl

-- each part of a pattern is one of the three
pub pattern_parts : (ps : List (List ℕ)) → is_pattern ps ≡ true → list_all (λ p. is_number p || is_star p || is_plus p) ps ≡ true
pattern_parts [] h = refl
pattern_parts (p ∷ []) h = rw h refl
pattern_parts (p ∷ q ∷ ps) h =
    let k = and_parts (is_number p || is_star p) (is_pattern (q ∷ ps)) h in
    rw (or_more (is_number p) (is_star p) (is_plus p) k.0) (pattern_parts (q ∷ ps) k.1)
