-- What a query of one table answers.
use Rattle.std.proofs.Common.{◌≡◌, ℕ, List, [], ◌∷◌, ◌++◌, map, filter, flat_map, length, Bool, true, false, cond, refl, sym, ap, subst, ◌∙◌, arith}
use Rattle.xa_store.proofs.Common.{list_all, length-map, nil_from_length, length_permutation, Row, overlay, Output, Query, output, output_cmp, Term, holds, eval_all, Trees, Null, one_permutation, IsSureAnswer}
use Rattle.std.specs.List.Sorted.{IsPermutation, IsSorted}
use Rattle.xa_store.proofs.TextLemmas.{of_table}

pub chosen : {A B : Type 0} (p : A → Bool) (f : A → B) (xs : List A) → flat_map (λ x. cond (p x) (f x ∷ []) []) xs ≡ map f (filter p xs)
chosen p f [] = refl
chosen p f (x ∷ xs) = elim (p x) as (λ b. cond b (f x ∷ []) [] ++ flat_map (λ x. cond (p x) (f x ∷ []) []) xs ≡ map f (cond b (x ∷ filter p xs) (filter p xs)))
    [ true ↦ ap (λ l. f x ∷ l) (chosen p f xs) | false ↦ chosen p f xs ]

module _ (t : ℕ) (tests shown : List Term) (order : List ℕ) (db : Trees) (plain : overlay db [] t ≡ db t) (params : Row) where
  abbrev query : Query
  query = of_table t tests shown order

  -- the row passes the tests
  abbrev pub hits : Row → Bool
  hits r = list_all (holds (params ∷ r ∷ [])) tests

  abbrev pub show : Row → Row
  show r = eval_all shown (params ∷ r ∷ [])

  -- what a row is sorted by, and what it shows
  abbrev pub out : Row → Output
  out r = output query (params ∷ r ∷ [])

  -- the rows that pass the tests, in an order that the query allows
  abbrev pub Answered : List Row → Type 0
  Answered rows = (ordered : List Output) × IsPermutation (map out (filter hits (db t))) ordered × IsSorted (output_cmp query) ordered × (rows ≡ map (λ o. o.1) ordered)

  pub answered : (rows : List Row) → IsSureAnswer query (overlay db []) params rows → Answered rows
  answered rows h =
      let a = h Null in
      let staged : a.staged ≡ map (λ r. params ∷ r ∷ []) (filter hits (db t)) =
      a.grouped ∙ ap (flat_map (λ r. cond (hits r) ((params ∷ r ∷ []) ∷ []) [])) plain ∙ chosen hits (λ r. params ∷ r ∷ []) (db t) in
      let kept : a.kept ≡ map out (filter hits (db t)) = a.distinct ∙ ap (map (output query)) staged ∙ again (filter hits (db t)) in
      (a.ordered, subst (λ k. IsPermutation k a.ordered) kept a.same, a.sorted, a.shown)
    where
      again : (rs : List Row) → map (output query) (map (λ r. params ∷ r ∷ []) rs) ≡ map out rs
      again [] = refl
      again (r ∷ rs) = ap (λ l. out r ∷ l) (again rs)

  pub count_is : (rows : List Row) → Answered rows → length rows ≡ length (filter hits (db t))
  count_is rows h = ap length h.3 ∙ length-map h.0 (λ (o : Output). o.1) ∙ length_permutation _ h.0 h.1 ∙ length-map (filter hits (db t)) out

  pub one_hit : (rows : List Row) (r : Row) → filter hits (db t) ≡ r ∷ [] → Answered rows → rows ≡ show r ∷ []
  one_hit rows r e h = h.3 ∙ ap (map (λ (o : Output). o.1)) (one_permutation (out r) h.0 (subst (λ k. IsPermutation (map out k) h.0) e h.1))

  pub no_hit : (rows : List Row) → filter hits (db t) ≡ [] → Answered rows → rows ≡ []
  no_hit rows e h = nil_from_length rows (count_is rows h ∙ ap length e)

  -- back from the rows
  pub hit_by : (rows : List Row) (one : Row) → rows ≡ one ∷ [] → Answered rows → (r : Row) × (filter hits (db t) ≡ r ∷ []) × (one ≡ show r)
  hit_by rows one e h = go (filter hits (db t)) refl
    where
      go : (rs : List Row) → filter hits (db t) ≡ rs → (r : Row) × (filter hits (db t) ≡ r ∷ []) × (one ≡ show r)
      go [] is = absurd (omega (arith, count_is rows h, ap length e, ap length is))
      go (r ∷ []) is = (r, is, let both = sym e ∙ one_hit rows r is h in cc)
      go (r ∷ s ∷ rs) is = absurd (omega (arith, count_is rows h, ap length e, ap length is))

  pub missed_by : (rows : List Row) → rows ≡ [] → Answered rows → filter hits (db t) ≡ []
  missed_by rows e h = nil_from_length _ (sym (count_is rows h) ∙ ap length e)
