-- Where no two objects have the same category, all places in order are the only combination.
use Rattle.std.proofs.Common.{◌≡◌, ℕ, suc, ◌+◌, Bool, true, false, cond, eqb, List, [], ◌∷◌, ◌++◌, length, map, refl, ap, sym, ◌∙◌, arith, add-one, add-zero, zero-add, append-nil, append_assoc}
use Rattle.std.specs.Prelude.{◌||◌, ◌&&◌, not, nat_lt, bytes_eq, filter, Option, Some, None, is_some, Ok}
use Rattle.std.specs.List.{fold, range_with_len}
use Rattle.std.proofs.lemmas.Bool.{eq-eqb}
use Rattle.std.proofs.lemmas.List.Folds.{list_any-append}
use Rattle.xa_profile.specs.declared.category_object.CategoryObject.{CategoryObject}
use Rattle.xa_profile.specs.declared.individuals.Individual.TheVariants.{Places}
use Rattle.xa_profile.specs.Individuals.{is_chosen, in_request_order, category_at, places_of, categories, with_new, with_each, combinations, all_combinations, at_most_64}
use Rattle.xa_profile.specs.Request.{has_twice}
use Rattle.xa_profile.proofs.GroupLemmas.{IsGrouped, grouped_none, grouped_new, places_before}
use Rattle.xa_profile.proofs.RepetitionLemmas.{is_repeated, repeated_first, repeated_later, repeated_now}

-- the categories of objects
abbrev pub categories_of : List CategoryObject → List (List ℕ)
categories_of objects = map (λ (object : CategoryObject). object.category) objects

-- each place in a list of its own
abbrev apart : List ℕ → List (List ℕ)
apart places = map (λ place. place ∷ []) places

-- one combination, and behind it the places that each have no other beside them
combined_apart : (c ps : List ℕ) → fold with_each (c ∷ []) (apart ps) ≡ (c ++ ps) ∷ []
combined_apart c [] = ap (λ d. d ∷ []) (sym (append-nil c))
combined_apart c (p ∷ ps) = combined_apart (c ++ p ∷ []) ps ∙ ap (λ d. d ∷ []) (append_assoc c (p ∷ []) ps)

-- places are chosen by themselves
or_true : (a b : Bool) → (a || (true || b)) ≡ true
or_true true b = refl
or_true false b = refl

is_own : (before : List ℕ) (p : ℕ) (ps : List ℕ) → is_chosen (before ++ p ∷ ps) p ≡ true
is_own before p ps =
    list_any-append (λ q. eqb q p) before (p ∷ ps) ∙ ap (λ b. is_chosen before p || (b || is_chosen ps p)) (eq-eqb p p refl) ∙ or_true (is_chosen before p) (is_chosen ps p)

passes_first : (test : ℕ → Bool) (p : ℕ) (ps : List ℕ) → test p ≡ true → filter test (p ∷ ps) ≡ p ∷ filter test ps
passes_first test p ps e = rw e refl

chosen_all : (before ps : List ℕ) → filter (is_chosen (before ++ ps)) ps ≡ ps
chosen_all before [] = refl
chosen_all before (p ∷ ps) =
    passes_first (is_chosen (before ++ p ∷ ps)) p ps (is_own before p ps)
    ∙ ap (λ qs. p ∷ filter (is_chosen qs) ps) (sym (append_assoc before (p ∷ []) ps)) ∙ ap (λ qs. p ∷ qs) (chosen_all (before ++ p ∷ []) ps)

-- an object whose category is not that of one before it
not_found : (look : List ℕ → Option ℕ) (t : List ℕ) (ts : List (List ℕ)) → is_repeated (λ q. is_some (look q)) (t ∷ ts) ≡ false → look t ≡ None
not_found look t ts single = by_look (look t) refl where
  by_look : (o : Option ℕ) → look t ≡ o → o ≡ None
  by_look None e = refl
  by_look (Some n) e =
      let twice : is_repeated (λ q. is_some (look q)) (t ∷ ts) ≡ true = repeated_now (λ q. is_some (look q)) t ts (ap is_some e) in
      let wrong : true ≡ false = sym twice ∙ single in
      cc

found_next : (b : Bool) (n : ℕ) (old : Option ℕ) → is_some (cond b (Some n) old) ≡ cond b true (is_some old)
found_next true n old = refl
found_next false n old = refl

along : (m n : ℕ) → suc m + n ≡ m + suc n
along m n = omega arith

-- a group with the next place for each object that is left
grouped_apart : (objects left : List CategoryObject) (i : ℕ) (cs groups : List (List ℕ)) (look : List ℕ → Option ℕ)
    → IsGrouped objects i cs groups look → ((k : ℕ) → category_at objects (i + k) ≡ category_at left k)
    → is_repeated (λ q. is_some (look q)) (categories_of left) ≡ false
    → groups ++ apart (range_with_len i (length left)) ≡ map (places_before objects (i + length left)) (fold with_new cs (categories_of left))
grouped_apart objects [] i cs groups look h at single = append-nil groups ∙ h.places ∙ ap (λ n. map (places_before objects n) cs) (sym (add-zero i))
grouped_apart objects (o ∷ os) i cs groups look h at single =
    let t : List ℕ = o.category in
    let ts : List (List ℕ) = categories_of os in
    let new : look t ≡ None = not_found look t ts single in
    let here : category_at objects i ≡ Some t = ap (category_at objects) (sym (add-zero i)) ∙ at 0 in
    let after : List ℕ → Option ℕ = λ q. cond (bytes_eq t q) (Some (length groups)) (look q) in
    let next : IsGrouped objects (suc i) (with_new cs t) (groups ++ (i ∷ []) ∷ []) after = grouped_new objects i cs groups look after t h here new (λ q. refl) in
    let later : (k : ℕ) → category_at objects (suc i + k) ≡ category_at os k = λ k. ap (category_at objects) (along i k) ∙ at (suc k) in
    let rest : is_repeated (λ q. is_some (after q)) ts ≡ false =
    repeated_later (λ q. is_some (look q)) (λ q. is_some (after q)) t ts (λ q. found_next (bytes_eq t q) (length groups) (look q)) (ap is_some new) ∙ single in
    ap (λ m. groups ++ (i ∷ []) ∷ apart (range_with_len m (length os))) (add-one i)
    ∙ sym (append_assoc groups ((i ∷ []) ∷ []) (apart (range_with_len (suc i) (length os))))
    ∙ grouped_apart objects os (suc i) (with_new cs t) (groups ++ (i ∷ []) ∷ []) after next later rest
    ∙ ap (λ n. map (places_before objects n) (fold with_new (with_new cs t) ts)) (along i (length os))

-- the only combination
only_combination : (objects : List CategoryObject) → has_twice (categories_of objects) ≡ false → all_combinations objects ≡ range_with_len 0 (length objects) ∷ []
unfolding all_combinations
only_combination objects single =
    let none : List ℕ → Option ℕ = λ q. None in
    let rest : is_repeated (λ q. is_some (none q)) (categories_of objects) ≡ false = repeated_first (λ q. is_some (none q)) (categories_of objects) (λ q. refl) ∙ single in
    let groups : apart (range_with_len 0 (length objects)) ≡ map (places_before objects (0 + length objects)) (categories objects) =
    grouped_apart objects objects 0 [] [] none (grouped_none objects none (λ q. refl)) (λ k. ap (category_at objects) (zero-add k)) rest in
    let all : map (places_of objects) (categories objects) ≡ apart (range_with_len 0 (length objects)) =
    ap (λ n. map (places_before objects n) (categories objects)) (sym (zero-add (length objects))) ∙ sym groups in
    ap combinations all ∙ combined_apart [] (range_with_len 0 (length objects))

-- the only individual of few objects, no two of which have the same category
neither : (few twice : Bool) → (few && not twice) ≡ true → twice ≡ false
neither few false e = refl
neither true true e = absurd (cc)
neither false true e = absurd (cc)

pub only_individual : (objects : List CategoryObject) → (nat_lt (length objects) 9 && not (has_twice (categories_of objects))) ≡ true
    → at_most_64 (map (λ combination. Places (in_request_order objects combination)) (all_combinations objects)) ≡ Ok (Places (range_with_len 0 (length objects)) ∷ [])
only_individual objects few =
    let single = neither (nat_lt (length objects) 9) (has_twice (categories_of objects)) few in
    ap (λ cs. at_most_64 (map (λ combination. Places (in_request_order objects combination)) cs)) (only_combination objects single)
    ∙ ap (λ ps. Ok (Places ps ∷ [])) (chosen_all [] (range_with_len 0 (length objects)))
