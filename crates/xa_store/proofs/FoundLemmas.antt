-- What a query of one table finds, as records of its rows.
use Rattle.std.proofs.Common.{◌≡◌, ℕ, List, [], ◌∷◌, map, filter, Bool, false, Ordering, is_eq, Option, Some, None, option_map, find, slice_get, ◌&&◌, Result, Ok, Err, IfOk, refl, sym, ap, subst, ◌∙◌, IsPermutation}
use Rattle.xa_store.proofs.Common.{AllByRecursion, IsPermutation-map, Row, overlay, Output, output_cmp, Term, Trees, sort_by, slice_get-filter, map-map, filter-map, ascending-map, ascending_weaker, sorted_is-sort_by, sort_by-map, output_cmp_total, IsAscending}
use Rattle.xa_store.specs.keeping.Lookup.{FindsOne}
use Rattle.xa_store.specs.keeping.Columns.{TellsOne}
use Rattle.xa_store.proofs.FilterLemmas.{filter_both, find_one, find_none, filter_alike}
use Rattle.xa_store.proofs.SqlLemmas.{Answered, hits, show, out, hit_by, missed_by}
use Rattle.xa_store.proofs.TextLemmas.{of_table}

-- rows that are images of records: each record is what its row reads as
pub read_back : {X : Type 0} (write : X → Row) (read : Row → X) (rows : List Row) → rows ≡ map write (map read rows) → AllByRecursion (λ x. read (write x) ≡ x) (map read rows)
read_back {X} write read rows written = go (map read rows) (ap (map read) (sym written))
  where
    head_of : (x y : X) (xs ys : List X) → x ∷ xs ≡ y ∷ ys → x ≡ y
    head_of x y xs ys e = cc

    tail_of : (x y : X) (xs ys : List X) → x ∷ xs ≡ y ∷ ys → xs ≡ ys
    tail_of x y xs ys e = cc

    go : (xs : List X) → map read (map write xs) ≡ xs → AllByRecursion (λ x. read (write x) ≡ x) xs
    go [] e = tt
    go (x ∷ xs) e = (head_of _ _ _ _ e, go xs (tail_of _ _ _ _ e))

pub map_alike : {X Y : Type 0} (f g : X → Y) (xs : List X) → AllByRecursion (λ x. f x ≡ g x) xs → map f xs ≡ map g xs
map_alike f g [] all = refl
map_alike f g (x ∷ xs) all = ap (λ y. y ∷ map f xs) all.0 ∙ ap (λ l. g x ∷ l) (map_alike f g xs all.1)

module _ (t : ℕ) (tests shown : List Term) (order : List ℕ) (db : Trees) (plain : overlay db [] t ≡ db t) (params : Row) {X : Type 0} (write : X → Row) (read : Row → X)
    (written : db t ≡ map write (map read (db t))) (p : X → Bool) (hit : AllByRecursion (λ x. hits t tests shown order db plain params (write x) ≡ p x) (map read (db t))) where
  abbrev pub among : List X
  among = filter p (map read (db t))

  -- what a record's row shows
  abbrev pub shows : X → Row
  shows x = show t tests shown order db plain params (write x)

  abbrev outs : X → Output
  outs x = out t tests shown order db plain params (write x)

  pub passing : filter (hits t tests shown order db plain params) (db t) ≡ map write among
  passing =
      ap (filter (hits t tests shown order db plain params)) written ∙ filter-map (hits t tests shown order db plain params) write (map read (db t))
      ∙ ap (map write) (filter_alike (λ x. hits t tests shown order db plain params (write x)) p (map read (db t)) hit)

  pub found_one : (rows : List Row) (row : Row) → rows ≡ row ∷ [] → Answered t tests shown order db plain params rows → (x : X) × (among ≡ x ∷ []) × (row ≡ shows x)
  found_one rows row one answer =
      let hit = hit_by t tests shown order db plain params rows row one answer in
      go among refl hit.0 (sym passing ∙ hit.1) hit.2
    where
      go : (fs : List X) → among ≡ fs → (r : Row) → map write among ≡ r ∷ [] → row ≡ show t tests shown order db plain params r → (x : X) × (among ≡ x ∷ []) × (row ≡ shows x)
      go [] is r e shown_by = absurd (let none = sym (ap (map write) is) ∙ e in cc)
      go (x ∷ []) is r e shown_by =
          let same : write x ≡ r = (let both = sym (ap (map write) is) ∙ e in cc) in
          (x, is, shown_by ∙ ap (show t tests shown order db plain params) (sym same))
      go (x ∷ f ∷ fs) is r e shown_by = absurd (let many = sym (ap (map write) is) ∙ e in cc)

  pub found_none : (rows : List Row) → rows ≡ [] → Answered t tests shown order db plain params rows → among ≡ []
  found_none rows none answer = go among refl
    where
      go : (fs : List X) → among ≡ fs → among ≡ []
      go [] is = is
      go (x ∷ fs) is = absurd (let no = sym (missed_by t tests shown order db plain params rows none answer) ∙ passing ∙ ap (map write) is in cc)

  pub finds_one : {Y : Type 0} (told : Row → Y) (tells : X → Y) → AllByRecursion (λ x. told (shows x) ≡ tells x) among → (rows : List Row) → Answered t tests shown order db plain params rows
      → (o : Option Y) → TellsOne told rows o → FindsOne p tells (map read (db t)) o
  finds_one told tells all [] answer None tell = found_none [] refl answer
  finds_one told tells all [] answer (Some y) tell = absurd tell
  finds_one told tells all (row ∷ []) answer None tell = absurd tell
  finds_one told tells all (row ∷ []) answer (Some y) tell =
      let one = found_one (row ∷ []) row refl answer in
      (one.0, one.1, sym (tell ∙ ap told one.2 ∙ (subst (AllByRecursion (λ x. told (shows x) ≡ tells x)) one.1 all).0))
  finds_one told tells all (row ∷ other ∷ more) answer None tell = absurd tell
  finds_one told tells all (row ∷ other ∷ more) answer (Some y) tell = absurd tell

  -- in any order
  pub found_all : (rows : List Row) → Answered t tests shown order db plain params rows → IsPermutation (map shows among) rows
  found_all rows h =
      let same : IsPermutation (map outs among) h.0 =
      subst (λ l. IsPermutation l h.0) (ap (map (out t tests shown order db plain params)) passing ∙ map-map (out t tests shown order db plain params) write among) h.1 in
      let shown_same = IsPermutation-map (λ (o : Output). o.1) (map outs among) h.0 same in
      subst (IsPermutation (map shows among)) (sym h.3) (subst (λ l. IsPermutation l (map (λ (o : Output). o.1) h.0)) (map-map (λ (o : Output). o.1) outs among) shown_same)

  -- in the one order that ORDER BY leaves, if it leaves no ties
  pub found_sorted : (cmp : X → X → Ordering) → ((a b : X) → output_cmp (of_table t tests shown order) (outs a) (outs b) ≡ cmp a b) → IsAscending (λ a b. is_eq (cmp a b) ≡ false) among
      → (rows : List Row) → Answered t tests shown order db plain params rows → rows ≡ map shows (sort_by cmp among)
  found_sorted cmp is untied rows h =
      let query = of_table t tests shown order in
      let same : IsPermutation (map outs among) h.0 =
      subst (λ l. IsPermutation l h.0) (ap (map (out t tests shown order db plain params)) passing ∙ map-map (out t tests shown order db plain params) write among) h.1 in
      let apart = ascending-map (λ x y. is_eq (output_cmp query x y) ≡ false) outs among
      (ascending_weaker (λ a b. is_eq (cmp a b) ≡ false) (λ a b. is_eq (output_cmp query (outs a) (outs b)) ≡ false) (λ a b e. ap is_eq (is a b) ∙ e) among untied) in
      let sorted = sorted_is-sort_by (output_cmp query) (output_cmp_total query) (map outs among) h.0 apart same h.2 in
      h.3
      ∙ ap (map (λ (o : Output). o.1)) (sorted ∙ sort_by-map (output_cmp query) outs among ∙ (λ i. map outs (sort_by (λ a b. is a b i) among)))
      ∙ map-map (λ (o : Output). o.1) outs (sort_by cmp among)

pub found_is : {X Y : Type 0} (p : X → Bool) (tells : X → Y) (xs : List X) (o : Option Y) → FindsOne p tells xs o → option_map tells (find p xs) ≡ o
found_is p tells xs None none = ap (option_map tells) (find_none p xs none)
found_is p tells xs (Some y) one = ap (option_map tells) (find_one p xs one.0 [] one.1) ∙ ap Some one.2

-- the first that passes the second test among those that pass the first
pub find_both : {X : Type 0} (p q : X → Bool) (xs : List X) → find q (filter p xs) ≡ find (λ x. p x && q x) xs
find_both p q xs = sym (slice_get-filter q (filter p xs)) ∙ ap (λ l. slice_get l 0) (sym (filter_both p q xs)) ∙ slice_get-filter (λ x. p x && q x) xs

pub becomes : {X E : Type 0} (r : Result X E) (a b : X) → a ≡ b → IfOk r (λ x. x ≡ a) → IfOk r (λ x. x ≡ b)
becomes (Ok x) a b same is = is ∙ same
becomes (Err e) a b same is = tt

pub finds_in : {Y E : Type 0} (Tells Finds : Option Y → Type 0) → ((o : Option Y) → Tells o → Finds o) → (r : Result (Option Y) E) → IfOk r Tells → IfOk r Finds
finds_in Tells Finds f (Ok o) tell = f o tell
finds_in Tells Finds f (Err e) tell = tt
