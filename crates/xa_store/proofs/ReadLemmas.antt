-- The rows of a table in the order of their rowids.
use Rattle.std.proofs.Common.{◌≡◌, ℤ, Bool, true, false, List, [], ◌∷◌, map, filter, int_lt, Less, Option, Some, None, Result, Ok, Err, refl, sym, ap, ap₂, subst, subst₂, ◌∙◌, true≢false, IsPermutation}
use Rattle.xa_store.proofs.Common.{AllByRecursion, list_all, All-permutation, IsPermutation-map, IsPermutation-sym, Row, column, overlay, Output, Query, output_cmp, State, Shown, Term, col, eval, Trees, Value, Null, Int, Real, Text, Blob, reads_as, Less-from_lt, all_of, all_weaker, all_both, all_from_test, all_unmap, all_map, test_from_all, filter_all, map-map, map_same, ascending-map, first_of_both, second_of_both, sorted_unique, output_cmp_total, IsAscending, int_of, last_key, value_cmp-Int, CheckedTable, Domains, Tokens, Documents, Roots, Attributes, Sources, SchemaVersion, OpenError, NotThisSchema, Damaged, Store, Memory, are_rising, as_read, is_number, is_sound_table, is_whole_row, read_columns, rowid_in, schema_of, tree_of, RestsIn}
use Rattle.std.proofs.lemmas.List.Elements.{recursion_from_All, All-from_recursion}
use Rattle.xa_store.specs.keeping.Check.{has_table, rows_query, HasRowids, IsRead, TellsSound, Walks, checks, comes_after, is_next_sound_row}
use Rattle.xa_store.proofs.CheckedTexts.{checked_is}
use Rattle.xa_store.proofs.RiseLemmas.{lt_trans, lt_from, both_true, second_false}
use Rattle.xa_store.proofs.SqlLemmas.{Answered, answered, show, out, hits}
use Rattle.xa_store.proofs.TextLemmas.{of_table}

pub int_back : (v : Value) → is_number v ≡ true → v ≡ Int (int_of v)
int_back Null h = absurd (true≢false (sym h))
int_back (Int n) h = refl
int_back (Real x) h = absurd (true≢false (sym h))
int_back (Text t) h = absurd (true≢false (sym h))
int_back (Blob b) h = absurd (true≢false (sym h))

pub bare : (kind : CheckedTable) (db : Trees) → overlay db [] (tree_of kind) ≡ db (tree_of kind)
bare Domains db = refl
bare Tokens db = refl
bare Documents db = refl
bare Roots db = refl
bare Attributes db = refl
bare Sources db = refl

pub head_read : (kind : CheckedTable) (r : Row) → column (as_read kind r) 0 ≡ column r 0
head_read Domains r = refl
head_read Tokens r = refl
head_read Documents r = refl
head_read Roots r = refl
head_read Attributes r = refl
head_read Sources r = refl

pub numbers_read : (kind : CheckedTable) (rows : List Row) → map rowid_in (map (as_read kind) rows) ≡ map rowid_in rows
numbers_read kind rows = map-map rowid_in (as_read kind) rows ∙ map_same (λ r. rowid_in (as_read kind r)) rowid_in (λ r. ap int_of (head_read kind r)) rows

module _ (kind : CheckedTable) (db : Trees) where
  abbrev shown_columns : List Term
  shown_columns = map (λ at. col 1 at) (read_columns kind)

  abbrev query : Query
  query = of_table (tree_of kind) [] shown_columns (0 ∷ [])

  abbrev pub AnsweredBy : List Row → Type 0
  AnsweredBy = Answered (tree_of kind) [] shown_columns (0 ∷ []) db (bare kind db) []

  abbrev outs : Row → Output
  outs = out (tree_of kind) [] shown_columns (0 ∷ []) db (bare kind db) []

  shows : (r : Row) → show (tree_of kind) [] shown_columns (0 ∷ []) db (bare kind db) [] r ≡ as_read kind r
  shows r = map-map (λ t. eval t ([] ∷ r ∷ [])) (λ at. col 1 at) (read_columns kind)

  every : filter (hits (tree_of kind) [] shown_columns (0 ∷ []) db (bare kind db) []) (db (tree_of kind)) ≡ db (tree_of kind)
  every = filter_all _ (db (tree_of kind)) (all_of _ (λ r. refl) (db (tree_of kind)))

  less : (a b : Row) → is_number (column a 0) ≡ true → is_number (column b 0) ≡ true → int_lt (rowid_in a) (rowid_in b) ≡ true → output_cmp query (outs a) (outs b) ≡ Less
  less a b p q up =
      last_key (ap₂ Rattle.sqlite_value.specs.Order.value_cmp (int_back (column a 0) p) (int_back (column b 0) q) ∙ value_cmp-Int (rowid_in a) (rowid_in b))
      ∙ Less-from_lt (rowid_in a) (rowid_in b) (lt_from (rowid_in a) (rowid_in b) up)

  pub rising : (rows : List Row) → AllByRecursion (λ r. is_number (column r 0) ≡ true) rows → are_rising (map rowid_in rows) ≡ true → IsAscending (λ a b. output_cmp query (outs a) (outs b) ≡ Less) rows
  rising [] all up = tt
  rising (r ∷ rows) all up =
      let above = all_unmap (λ n. int_lt (rowid_in r) n ≡ true) rowid_in rows (all_from_test (int_lt (rowid_in r)) (map rowid_in rows) (first_of_both _ _ up)) in
      (all_both _ _ (λ s. output_cmp query (outs r) (outs s) ≡ Less) (λ s is h. less r s all.0 is h) rows all.1 above, rising rows all.1 (second_of_both _ _ up))

  shown_map : (rows : List Row) → map (λ (o : Output). o.1) (map outs rows) ≡ map (as_read kind) rows
  shown_map rows = map-map (λ (o : Output). o.1) outs rows ∙ map_same _ (as_read kind) shows rows

  pub is_read : (rows : List Row) → AnsweredBy rows → IsRead kind db rows
  is_read rows h =
      let same : IsPermutation (map outs (db (tree_of kind))) h.0 = subst (λ l. IsPermutation (map outs l) h.0) every h.1 in
      record {
        all = subst₂ IsPermutation (shown_map (db (tree_of kind))) (sym h.3) (IsPermutation-map (λ (o : Output). o.1) _ h.0 same);
        ordered = λ numbers up.
            let strict = ascending-map (λ x y. output_cmp query x y ≡ Less) outs (db (tree_of kind)) (rising (db (tree_of kind)) numbers (ap are_rising (sym (numbers_read kind (db (tree_of kind)))) ∙ up)) in
            h.3 ∙ ap (map (λ (o : Output). o.1)) (sorted_unique (output_cmp query) (output_cmp_total query) (map outs (db (tree_of kind))) h.0 strict same h.2) ∙ shown_map (db (tree_of kind));
      }

pub shown_read : (kind : CheckedTable) (version : SchemaVersion) → has_table kind version ≡ true → (old new : State) → RestsIn (schema_of version) old → (rows : List Row) → Shown (rows_query kind) [] old new rows
    → IsRead kind old.now.trees rows
shown_read kind version has old new rests rows shown =
    let it = checked_is kind version has in
    is_read kind old.now.trees rows
    (answered (tree_of kind) [] _ (0 ∷ []) old.now.trees (bare kind old.now.trees) [] rows
    (reads_as (rows_query kind) [] old new (schema_of version) rests.schema _ it.0 it.2 it.1 rows shown).answer)

-- ---- what the checks say

module _ (kind : CheckedTable) (next : ℤ) where
  pub checks_true : (last : Option ℤ) (rows : List Row) → AllByRecursion (λ r. is_whole_row kind next r ≡ true) rows → are_rising (map rowid_in rows) ≡ true
      → AllByRecursion (λ r. comes_after last (rowid_in r) ≡ true) rows → checks kind next last rows ≡ true
  checks_true last [] sound up after = refl
  checks_true last (r ∷ rows) sound up after =
      let above = all_unmap (λ n. int_lt (rowid_in r) n ≡ true) rowid_in rows (all_from_test (int_lt (rowid_in r)) (map rowid_in rows) (first_of_both _ _ up)) in
      both_true _ _ (both_true _ _ sound.0 after.0) (checks_true (Some (rowid_in r)) rows sound.1 (second_of_both _ _ up) above)

  pub checked_sound : (last : Option ℤ) (rows : List Row) → checks kind next last rows ≡ true → AllByRecursion (λ r. is_whole_row kind next r ≡ true) rows
  checked_sound last [] h = tt
  checked_sound last (r ∷ rows) h = (first_of_both _ _ (first_of_both _ _ h), checked_sound (Some (rowid_in r)) rows (second_of_both _ _ h))

  after_trans : (last : Option ℤ) (a b : ℤ) → comes_after last a ≡ true → int_lt a b ≡ true → comes_after last b ≡ true
  after_trans None a b p q = refl
  after_trans (Some last) a b p q = lt_trans last a b p q

  pub checked_after : (last : Option ℤ) (rows : List Row) → checks kind next last rows ≡ true → AllByRecursion (λ r. comes_after last (rowid_in r) ≡ true) rows
  checked_after last [] h = tt
  checked_after last (r ∷ rows) h =
      let here = second_of_both _ _ (first_of_both (is_next_sound_row kind next last r) _ h) in
      (here, all_weaker _ (λ s. comes_after last (rowid_in s) ≡ true) (λ s up. after_trans last (rowid_in r) (rowid_in s) here up) rows (checked_after (Some (rowid_in r)) rows (second_of_both (is_next_sound_row kind next last r) _ h)))

  pub checked_up : (last : Option ℤ) (rows : List Row) → checks kind next last rows ≡ true → are_rising (map rowid_in rows) ≡ true
  checked_up last [] h = refl
  checked_up last (r ∷ rows) h =
      let rest = second_of_both (is_next_sound_row kind next last r) _ h in
      both_true _ _ (test_from_all (int_lt (rowid_in r)) (map rowid_in rows) (all_map (λ n. int_lt (rowid_in r) n ≡ true) rowid_in rows (checked_after (Some (rowid_in r)) rows rest))) (checked_up (Some (rowid_in r)) rows rest)

  module _ (db : Trees) where
    abbrev read : List Row
    read = map (as_read kind) (db (tree_of kind))

    numbered_rows : AllByRecursion (λ r. is_whole_row kind next r ≡ true) read → HasRowids kind db
    numbered_rows all =
        all_weaker _ (λ r. is_number (column r 0) ≡ true) (λ r h. ap is_number (sym (head_read kind r)) ∙ first_of_both _ _ h) (db (tree_of kind))
        (all_unmap (λ r. is_whole_row kind next r ≡ true) (as_read kind) (db (tree_of kind)) all)

    -- rows that aren't in order tell a table that isn't sound
    unsound : (rows : List Row) → IsRead kind db rows → checks kind next None rows ≡ false → is_sound_table db next kind ≡ false
    unsound rows is fails = go (is_sound_table db next kind) refl
      where
        go : (b : Bool) → is_sound_table db next kind ≡ b → is_sound_table db next kind ≡ false
        go false h = h
        go true h =
            let all = all_from_test (is_whole_row kind next) read (first_of_both _ _ h) in
            let up = second_of_both (list_all (is_whole_row kind next) read) _ h in
            let same = is.ordered (numbered_rows all) up in
            absurd (true≢false (sym (checks_true None read all up (all_of _ (λ r. refl) read)) ∙ ap (checks kind next None) (sym same) ∙ fails))

    sound_rows : (rows : List Row) → IsRead kind db rows → checks kind next None rows ≡ true → AllByRecursion (λ r. is_whole_row kind next r ≡ true) read
    sound_rows rows is passes =
        recursion_from_All (λ r. is_whole_row kind next r ≡ true) read
        (All-permutation (λ r. is_whole_row kind next r ≡ true) rows read (IsPermutation-sym _ _ is.all) (All-from_recursion (λ r. is_whole_row kind next r ≡ true) rows (checked_sound None rows passes)))

    -- the walk is at its end
    pub walked_numbers : Walks kind next db (Ok tt) → HasRowids kind db
    walked_numbers (rows, is, passes, held) = numbered_rows (sound_rows rows is passes)

    pub walked_checks : (r : Result (Unit {0}) OpenError) → Walks kind next db (Ok tt) → TellsSound (are_rising (map rowid_in read)) r → TellsSound (is_sound_table db next kind) r
    walked_checks (Ok x) (rows, is, passes, held) up = both_true _ _ (test_from_all (is_whole_row kind next) read (sound_rows rows is passes)) up
    walked_checks (Err Damaged) walked down = second_false _ _ down
    walked_checks (Err NotThisSchema) walked up = absurd up
    walked_checks (Err Store) walked up = tt
    walked_checks (Err Memory) walked up = tt

    -- or has stopped before
    pub stopped_checks : (e : OpenError) → Walks kind next db (Err e) → TellsSound (is_sound_table db next kind) (Err e)
    stopped_checks Damaged (rows, is, fails) = unsound rows is fails
    stopped_checks NotThisSchema walked = absurd walked
    stopped_checks Store walked = tt
    stopped_checks Memory walked = tt
