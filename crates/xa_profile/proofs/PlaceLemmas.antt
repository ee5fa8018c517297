-- Which places are chosen, and the chosen places in order.
use Rattle.std.proofs.Common.{◌≡◌, ℕ, zero, suc, ◌+◌, ◌<◌, Bool, true, false, cond, eqb, List, [], ◌∷◌, ◌++◌, length, get_or, map, inl, inr, refl, ap, sym, ◌∙◌, arith, add-one, zero-add, append-nil, append_assoc}
use Rattle.std.specs.Prelude.{filter, ◌||◌, ◌⊎◌, if◌then◌else◌}
use Rattle.std.specs.List.{range_with_len, slice_set}
use Rattle.std.proofs.Math.ListN.{replicate}
use Rattle.std.proofs.lemmas.Bool.{cases_eq, eq-eqb, ne_eqb}
use Rattle.std.proofs.lemmas.Grind.{get_or-set_at}
use Rattle.std.proofs.lemmas.List.{length-set, get_or-set_other, get_or-replicate, length-replicate}
use Rattle.std.proofs.lemmas.List.Folds.{list_any-append}
use Rattle.std.proofs.lemmas.List.FromFn.{fill_by_all, length-map-range_with_len, get_or-map-range_with_len}
use Rattle.xa_profile.specs.Individuals.{is_chosen}

-- choices, with the places chosen as well
abbrev pub choices_with : List Bool → List ℕ → List Bool
choices_with choices [] = choices
choices_with choices (place ∷ places) = choices_with (slice_set choices place true) places

-- the choices of that many places
abbrev choices_of : List ℕ → ℕ → List Bool
choices_of chosen n = map (is_chosen chosen) (range_with_len 0 n)

-- one more place is chosen
or_true : (b : Bool) → (b || (true || false)) ≡ true
or_true true = refl
or_true false = refl

or_false : (b : Bool) → (b || (false || false)) ≡ b
or_false true = refl
or_false false = refl

chosen_too : (chosen : List ℕ) (p k : ℕ) → p ≡ k → is_chosen (chosen ++ p ∷ []) k ≡ true
chosen_too chosen p k e =
    list_any-append (λ q. eqb q k) chosen (p ∷ []) ∙ ap (λ b. is_chosen chosen k || (b || false)) (eq-eqb p k e) ∙ or_true (is_chosen chosen k)

chosen_before : (chosen : List ℕ) (p k : ℕ) → (p ≡ k → ⊥) → is_chosen (chosen ++ p ∷ []) k ≡ is_chosen chosen k
chosen_before chosen p k other =
    list_any-append (λ q. eqb q k) chosen (p ∷ []) ∙ ap (λ b. is_chosen chosen k || (b || false)) (ne_eqb p k other) ∙ or_false (is_chosen chosen k)

choose_one : (chosen : List ℕ) (p n : ℕ) → slice_set (choices_of chosen n) p true ≡ choices_of (chosen ++ p ∷ []) n
choose_one chosen p n = fill_by_all (is_chosen (chosen ++ p ∷ [])) (slice_set (choices_of chosen n) p true) n false long (λ k within. by_case k within (cases_eq p k)) where
  before : length (choices_of chosen n) ≡ n
  before = length-map-range_with_len (is_chosen chosen) 0 n

  long : length (slice_set (choices_of chosen n) p true) ≡ n
  long = length-set (choices_of chosen n) p true ∙ before

  by_case : (k : ℕ) → k < n → ((p ≡ k) ⊎ (p ≡ k → ⊥)) → get_or (slice_set (choices_of chosen n) p true) k false ≡ is_chosen (chosen ++ p ∷ []) k
  by_case k within (inl e) =
      get_or-set_at (choices_of chosen n) p k true false (sym e) (omega (arith, before, e, within)) ∙ sym (chosen_too chosen p k e)
  by_case k within (inr other) =
      get_or-set_other (choices_of chosen n) p k true false (λ e. other (sym e))
      ∙ get_or-map-range_with_len (is_chosen chosen) 0 n k k false within (zero-add k) ∙ sym (chosen_before chosen p k other)

-- none is chosen at first
none_chosen : (n : ℕ) → replicate n false ≡ choices_of [] n
none_chosen n = fill_by_all (is_chosen []) (replicate n false) n false (length-replicate n false) (λ k within. get_or-replicate n k false false within)

choose_all : (chosen places : List ℕ) (n : ℕ) → choices_with (choices_of chosen n) places ≡ choices_of (chosen ++ places) n
choose_all chosen [] n = ap (λ ps. choices_of ps n) (sym (append-nil chosen))
choose_all chosen (p ∷ ps) n =
    ap (λ cs. choices_with cs ps) (choose_one chosen p n) ∙ choose_all (chosen ++ p ∷ []) ps n ∙ ap (λ qs. choices_of qs n) (append_assoc chosen (p ∷ []) ps)

pub all_chosen : (n : ℕ) (places : List ℕ) → choices_with (replicate n false) places ≡ map (is_chosen places) (range_with_len 0 n)
all_chosen n places = ap (λ cs. choices_with cs places) (none_chosen n) ∙ choose_all [] places n

-- the places whose choice is true, counted from a place
abbrev pub chosen_from : ℕ → List Bool → List ℕ
chosen_from n [] = []
chosen_from n (b ∷ bs) = if b then n ∷ chosen_from (suc n) bs else chosen_from (suc n) bs

-- where choices are made by a test, the places that pass it
choose_first : (b : Bool) (a : ℕ) (ps qs : List ℕ) → ps ≡ qs → cond b (a ∷ ps) ps ≡ cond b (a ∷ qs) qs
choose_first true a ps qs e = ap (λ rs. a ∷ rs) e
choose_first false a ps qs e = e

pub chosen_by_test : (p : ℕ → Bool) (a n : ℕ) → chosen_from a (map p (range_with_len a n)) ≡ filter p (range_with_len a n)
chosen_by_test p a zero = refl
chosen_by_test p a (suc n) =
    choose_first (p a) a (chosen_from (suc a) (map p (range_with_len (a + 1) n))) (filter p (range_with_len (a + 1) n))
    (ap (λ b. chosen_from (suc a) (map p (range_with_len b n))) (add-one a) ∙ chosen_by_test p (suc a) n ∙ ap (λ b. filter p (range_with_len b n)) (sym (add-one a)))
