-- What the query for the places of the rows of sources tells, and the query of the first table.
use Rattle.std.proofs.Common.{◌≡◌, ℕ, Bool, true, false, ◌&&◌, List, [], ◌∷◌, map, filter, length, Ordering, is_eq, int_cmp, refl, sym, ap, subst, ◌∙◌, arith, IsPermutation}
use Rattle.xa_store.proofs.Common.{nil_from_length, length_permutation, IsPermutation-map, IsPlain, understood, Row, Output, State, Shown, col, Trees, Int, reads_as, one_permutation, sort_by, all_of, ascending-map, ascending_weaker, filter_all, map-map, sort_by-map, IsAscending, then_key, last_key, value_cmp-Int, SchemaVersion, Schema1, Schema2, SourcePlace, are_counted, is_empty, is_left_empty, known_next, place_in, read_meta, schema_of, sources_in, tree_of, PlacedRow, placed_row_in, placed_row, AreRows, Rests, RestsIn, same_place, schema_2}
use Rattle.xa_store.specs.keeping.Check.{are_consecutive, follows, no_place, places_query}
use Rattle.xa_store.specs.keeping.Texts.{meta_rows}
use Rattle.xa_store.proofs.CountedLemmas.{count_on, place_cmp, walk_counts}
use Rattle.xa_store.proofs.FoundLemmas.{found_sorted}
use Rattle.xa_store.proofs.HitLemmas.{eq_then}
use Rattle.xa_store.proofs.CheckedTexts.{left_is, meta_read_is, places_is}
use Rattle.xa_store.proofs.ReadLemmas.{bare}
use Rattle.xa_store.proofs.SqlLemmas.{Answered, answered, count_is, out}

-- ---- the queries

pub places_plain : (version : SchemaVersion) → IsPlain (understood (schema_of version) (places_query version))
places_plain version = (places_is version).2

pub left_plain : IsPlain (understood schema_2 (places_query Schema1))
left_plain = left_is.2

pub meta_plain : (version : SchemaVersion) → IsPlain (understood (schema_of version) meta_rows)
meta_plain version = (meta_read_is version).2

-- ---- places

abbrev place_of : PlacedRow → SourcePlace
place_of a = record { domain = a.number; index = a.place }

abbrev shown_of : PlacedRow → Row
shown_of a = Int a.number ∷ Int a.place ∷ []

counted : (last : SourcePlace) (xs : List PlacedRow) → are_consecutive last (map shown_of xs) ≡ count_on last (map place_of xs)
counted last [] = refl
counted last (x ∷ xs) = ap (λ b. follows last (place_of x) && b) (counted (place_of x) xs)

abbrev by_place : PlacedRow → PlacedRow → Ordering
by_place a b = place_cmp (place_of a) (place_of b)

module _ (version : SchemaVersion) (old new : State) (rests : RestsIn (schema_of version) old) (are : AreRows placed_row placed_row_in (λ a. a.rowid) same_place (old.now.trees (tree_of (sources_in version))))
    (rows : List Row) (shown : Shown (places_query version) [] old new rows) where
  abbrev db : Trees
  db = old.now.trees

  abbrev t : ℕ
  t = tree_of (sources_in version)

  abbrev all : List PlacedRow
  all = map placed_row_in (db t)

  abbrev always : PlacedRow → Bool
  always a = true

  every : filter always all ≡ all
  every = filter_all always all (all_of _ (λ a. refl) all)

  answer : Answered t [] (col 1 1 ∷ col 1 2 ∷ []) (1 ∷ 2 ∷ []) db (bare (sources_in version) db) [] rows
  answer =
      let it = places_is version in
      answered t [] (col 1 1 ∷ col 1 2 ∷ []) (1 ∷ 2 ∷ []) db (bare (sources_in version) db) [] rows
      (reads_as (places_query version) [] old new (schema_of version) rests.schema _ it.0 it.2 it.1 rows shown).answer

  untied : IsAscending (λ a b. is_eq (by_place a b) ≡ false) all
  untied = ascending_weaker (λ a b. same_place a b ≡ false) _ (λ a b h. eq_then (int_cmp a.number b.number) (int_cmp a.place b.place) ∙ h) all are.apart

  sorted : rows ≡ map shown_of (sort_by by_place all)
  sorted =
      found_sorted t [] (col 1 1 ∷ col 1 2 ∷ []) (1 ∷ 2 ∷ []) db (bare (sources_in version) db) [] placed_row placed_row_in are.written always (all_of _ (λ a. refl) all) by_place
      (λ a b. then_key (value_cmp-Int a.number b.number) (last_key (value_cmp-Int a.place b.place))) (subst (IsAscending (λ a b. is_eq (by_place a b) ≡ false)) (sym every) untied) rows answer
      ∙ ap (λ l. map shown_of (sort_by by_place l)) every

  pub places_count : are_consecutive no_place rows ≡ are_counted (map place_in (db t))
  places_count =
      ap (are_consecutive no_place) sorted ∙ counted no_place (sort_by by_place all) ∙ ap (count_on no_place) (sym (sort_by-map place_cmp place_of all))
      ∙ walk_counts (map place_of all) (ascending-map (λ a b. is_eq (place_cmp a b) ≡ false) place_of all untied) ∙ ap are_counted (map-map place_of placed_row_in (db t))

-- ---- the table that schema 2 leaves empty

module _ (old new : State) (rests : Rests old) (rows : List Row) (shown : Shown (places_query Schema1) [] old new rows) where
  abbrev left : List Row
  left = old.now.trees 8

  as_many : length rows ≡ length left
  as_many =
      count_is 8 [] (col 1 1 ∷ col 1 2 ∷ []) (1 ∷ 2 ∷ []) old.now.trees refl [] rows
      (answered 8 [] (col 1 1 ∷ col 1 2 ∷ []) (1 ∷ 2 ∷ []) old.now.trees refl [] rows
      (reads_as (places_query Schema1) [] old new schema_2 rests.schema _ left_is.0 left_is.2 left_is.1 rows shown).answer)
      ∙ ap length (filter_all (λ r. true) left (all_of _ (λ r. refl) left))

  pub none_left : rows ≡ [] → is_left_empty Schema2 old.now.trees ≡ true
  none_left none = ap is_empty (nil_from_length left (sym as_many ∙ ap length none))

  pub some_left : (rows ≡ [] → ⊥) → is_left_empty Schema2 old.now.trees ≡ false
  some_left some = go left refl
    where
      go : (rs : List Row) → left ≡ rs → is_empty rs ≡ false
      go [] is = absurd (some (nil_from_length rows (as_many ∙ ap length is)))
      go (r ∷ rs) is = refl

-- ---- the first table

module _ (version : SchemaVersion) where
  next_along : (xs ys : List Row) → IsPermutation xs ys → known_next version ys ≡ known_next version xs
  next_along [] [] same = refl
  next_along [] (y ∷ ys) same = absurd (omega (arith, length_permutation [] (y ∷ ys) same))
  next_along (x ∷ []) ys same = ap (known_next version) (one_permutation x ys same)
  next_along (x ∷ x2 ∷ xs) [] same = absurd (omega (arith, length_permutation (x ∷ x2 ∷ xs) [] same))
  next_along (x ∷ x2 ∷ xs) (y ∷ []) same = absurd (omega (arith, length_permutation (x ∷ x2 ∷ xs) (y ∷ []) same))
  next_along (x ∷ x2 ∷ xs) (y ∷ y2 ∷ ys) same = refl

  module _ (old new : State) (rests : RestsIn (schema_of version) old) (rows : List Row) (shown : Shown meta_rows [] old new rows) where
    abbrev first_rows : List Row
    first_rows = old.now.trees 0

    abbrev meta_outs : Row → Output
    meta_outs = out 0 [] (col 1 0 ∷ col 1 2 ∷ col 1 3 ∷ []) (0 ∷ []) old.now.trees refl []

    all_meta : filter (λ r. true) first_rows ≡ first_rows
    all_meta = filter_all (λ r. true) first_rows (all_of _ (λ r. refl) first_rows)

    pub next_is : known_next version rows ≡ known_next version (map read_meta first_rows)
    next_is =
        let it = meta_read_is version in
        let h = answered 0 [] (col 1 0 ∷ col 1 2 ∷ col 1 3 ∷ []) (0 ∷ []) old.now.trees refl [] rows
        (reads_as meta_rows [] old new (schema_of version) rests.schema _ it.0 it.2 it.1 rows shown).answer in
        let same : IsPermutation (map meta_outs first_rows) h.0 = subst (λ l. IsPermutation (map meta_outs l) h.0) all_meta h.1 in
        let perm = IsPermutation-map (λ (o : Output). o.1) (map meta_outs first_rows) h.0 same in
        ap (known_next version) h.3 ∙ next_along _ _ perm ∙ ap (known_next version) (map-map (λ (o : Output). o.1) meta_outs first_rows)
