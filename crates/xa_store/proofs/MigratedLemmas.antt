-- Tables that were brought into schema 2 are sound, and mean what those of schema 1 meant.
use Rattle.std.proofs.Common.{◌≡◌, ℕ, ◌+◌, ◌<◌, ℤ, pos, true, ◌&&◌, cond, List, [], ◌∷◌, map, filter, int_cmp, int_eq, int_lt, Ok, Err, refl, sym, ap, subst, ◌∙◌, arith}
use Rattle.xa_store.proofs.Common.{from_entries, list_all, on, ints, Database, Row, Trees, IsSound, sort_by, filter-map, map-map, map_same, first_of_both, second_of_both, sort_by-map, SourceRow, Damaged, CheckedTable, Domains, Tokens, Documents, Roots, Attributes, Sources, Schema1, Schema2, are_counted, are_rising, are_sound_rows, as_read, is_count, is_empty, is_left_empty, is_sound, is_sound_row, is_sound_table, is_whole_row, checked, tables_in, known_next, opened, place_in, read_meta, rowid_in, PlacedRow, DomainRow, placed_row_in, document_in, domain_in, meta_row, nat_of, next_in, root_in, token_in, unissued_in, sources_at, documents_at, domain_entry, rows_of_schema_1, kept_in_schema_1, documents_by_key, roles_of, root_at, rows_of, source_of, state_at, tokens_at, kept_in}
use Rattle.xa_store.specs.keeping.Migration.{IsDone, IsSoundSchema1, moved_row, moved_rows}
use Rattle.xa_store.specs.Opening.{IsMigrated}
use Rattle.xa_store.proofs.MigratingLemmas.{its_meta}
use Rattle.xa_store.proofs.OursLemmas.{found, in_kind, next_counts, places_counted}
use Rattle.xa_store.proofs.ReadLemmas.{numbers_read}
use Rattle.xa_store.proofs.RiseLemmas.{both_true}

-- ---- rows that were moved are sound if they were

module _ (next : ℤ) where
  row_whole : (k : ℕ) (row : Row) → is_whole_row Attributes next (as_read Attributes row) ≡ true → is_whole_row Sources next (as_read Sources (moved_row (pos k) row)) ≡ true
  row_whole k row h = both_true (is_sound_row Attributes next (as_read Attributes row)) true (second_of_both _ _ h) refl

  rows_whole : (k : ℕ) (rows : List Row) → list_all (is_whole_row Attributes next) (map (as_read Attributes) rows) ≡ true → list_all (is_whole_row Sources next) (map (as_read Sources) (moved_rows k rows)) ≡ true
  rows_whole k [] h = refl
  rows_whole k (row ∷ rows) h = both_true _ _ (row_whole k row (first_of_both _ _ h)) (rows_whole (k + 1) rows (second_of_both _ _ h))

below : (j k : ℕ) → j < k → int_lt (pos j) (pos k) ≡ true
below j k less = grind (arith, ints)

all_above : (j k : ℕ) (rows : List Row) → j < k → list_all (int_lt (pos j)) (map rowid_in (moved_rows k rows)) ≡ true
all_above j k [] less = refl
all_above j k (row ∷ rows) less = both_true _ _ (below j k less) (all_above j (k + 1) rows (omega (arith, less)))

rows_rise : (k : ℕ) (rows : List Row) → are_rising (map rowid_in (moved_rows k rows)) ≡ true
rows_rise k [] = refl
rows_rise k (row ∷ rows) = both_true _ _ (all_above k (k + 1) rows (omega arith)) (rows_rise (k + 1) rows)

places_same : (k : ℕ) (rows : List Row) → map place_in (moved_rows k rows) ≡ map place_in rows
places_same k [] = refl
places_same k (row ∷ rows) = ap (λ l. place_in row ∷ l) (places_same (k + 1) rows)

-- ---- and each domain has the source that it had

-- what of a row decides that
abbrev Core : Type 0
Core = ℤ × ℤ × SourceRow

abbrev core : PlacedRow → Core
core a = (a.number, a.place, a.row)

abbrev source_by_core : List Core → ℤ → List SourceRow
source_by_core cores n = map (λ (c : Core). c.2) (sort_by (on (λ (c : Core). c.1) int_cmp) (filter (λ (c : Core). int_eq c.0 n) cores))

by_core : (all : List PlacedRow) (n : ℤ) → source_by_core (map core all) n ≡ source_of (sources_at all n)
by_core all n =
    ap (λ l. map (λ (c : Core). c.2) (sort_by (on (λ (c : Core). c.1) int_cmp) l)) (filter-map (λ (c : Core). int_eq c.0 n) core all)
    ∙ ap (map (λ (c : Core). c.2)) (sort_by-map (on (λ (c : Core). c.1) int_cmp) core (sources_at all n))
    ∙ map-map (λ (c : Core). c.2) core (sort_by (on (λ (a : PlacedRow). a.place) int_cmp) (sources_at all n))

cores_same : (k : ℕ) (rows : List Row) → map core (map placed_row_in (moved_rows k rows)) ≡ map core (map unissued_in rows)
cores_same k [] = refl
cores_same k (row ∷ rows) = ap (λ l. core (unissued_in row) ∷ l) (cores_same (k + 1) rows)

source_same : (rows : List Row) (n : ℤ) → source_of (sources_at (map placed_row_in (moved_rows 1 rows)) n) ≡ source_of (sources_at (map unissued_in rows) n)
source_same rows n = sym (by_core (map placed_row_in (moved_rows 1 rows)) n) ∙ ap (λ l. source_by_core l n) (cores_same 1 rows) ∙ by_core (map unissued_in rows) n

-- ---- all tables

module _ (first : Trees) (sound : IsSoundSchema1 first) (d : Database) (done : IsDone first d) where
  abbrev db : Trees
  db = d.trees

  abbrev next : ℤ
  next = (found Schema1 first sound.opens).0

  was_sound : is_sound Schema1 first next ≡ true
  was_sound = (found Schema1 first sound.opens).2

  meta : db 0 ≡ meta_row next ∷ []
  meta = done.meta ∙ ap (λ n. meta_row n ∷ []) (ap next_in (its_meta first sound))

  -- tables that no step touches
  as_before : (rows was : List Row) (kind : CheckedTable) → rows ≡ was → are_sound_rows kind next (map (as_read kind) was) ≡ true → are_sound_rows kind next (map (as_read kind) rows) ≡ true
  as_before rows was kind at h = ap (λ rows. are_sound_rows kind next (map (as_read kind) rows)) at ∙ h

  sources_sound : is_sound_table db next Sources ≡ true
  sources_sound =
      let were = (in_kind Schema1 first next was_sound).1.1.1.1.0 in
      as_before (db 10) (moved_rows 1 (first 8)) Sources done.sources
      (both_true _ _ (rows_whole next 1 (first 8) (first_of_both _ _ were)) (ap are_rising (numbers_read Sources (moved_rows 1 (first 8))) ∙ rows_rise 1 (first 8)))

  all_sound : list_all (is_sound_table db next) (tables_in Schema2) ≡ true
  all_sound =
      let all = in_kind Schema1 first next was_sound in
      both_true _ _ (as_before (db 1) (first 1) Domains done.others.0 all.0)
      (both_true _ _ (as_before (db 3) (first 3) Tokens done.others.1.0 all.1.0)
      (both_true _ _ (as_before (db 5) (first 5) Documents done.others.1.1.0 all.1.1.0)
      (both_true _ _ (as_before (db 7) (first 7) Roots done.others.1.1.1.0 all.1.1.1.0) (both_true (is_sound_table db next Sources) true sources_sound refl))))

  counted : are_counted (map place_in (db 10)) ≡ true
  counted = ap (λ rows. are_counted (map place_in rows)) done.sources ∙ ap are_counted (places_same 1 (first 8)) ∙ places_counted Schema1 first next was_sound

  is_sound_now : is_sound Schema2 db next ≡ true
  is_sound_now =
      both_true (is_count next && list_all (is_sound_table db next) (tables_in Schema2)) (are_counted (map place_in (db 10)) && is_left_empty Schema2 db)
      (both_true (is_count next) (list_all (is_sound_table db next) (tables_in Schema2)) (next_counts Schema1 first next was_sound) all_sound)
      (both_true (are_counted (map place_in (db 10))) (is_left_empty Schema2 db) counted (ap is_empty done.attributes))

  opens : opened Schema2 db ≡ Ok tt
  opens = ap (λ rows. checked Schema2 db (known_next Schema2 (map read_meta rows))) meta ∙ ap (λ b. cond b (Ok tt) (Err Damaged)) is_sound_now

  states : (n : ℤ) → state_at (rows_of db) n ≡ state_at (rows_of_schema_1 first) n
  states n = λ i. record {
    tokens = roles_of (tokens_at (map token_in (done.others.1.0 i)) n);
    documents = documents_by_key (documents_at (map document_in (done.others.1.1.0 i)) n);
    root = root_at (map root_in (done.others.1.1.1.0 i)) n;
    source = (ap (λ rows. source_of (sources_at (map placed_row_in rows) n)) done.sources ∙ source_same (first 8) n) i;
  }

  entries : map (domain_entry (rows_of db)) (map domain_in (db 1)) ≡ map (domain_entry (rows_of_schema_1 first)) (map domain_in (first 1))
  entries =
      map_same (domain_entry (rows_of db)) (domain_entry (rows_of_schema_1 first)) (λ (it : DomainRow). λ i. (it.name, record { number = nat_of it.number; epoch = nat_of it.epoch; state = states it.number i })) (map domain_in (db 1))
      ∙ ap (λ rows. map (domain_entry (rows_of_schema_1 first)) (map domain_in rows)) done.others.0

  kept_same : kept_in db ≡ kept_in_schema_1 first
  kept_same = λ i. record { domains = from_entries (entries i); next = nat_of (ap next_in done.meta i) }

  pub is_migrated : IsMigrated first db
  is_migrated = record { sound = record { database = subst (λ schema. IsSound schema db) done.schema done.database; opens = opens }; kept = kept_same }
