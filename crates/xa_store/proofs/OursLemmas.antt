-- Tables that opening finds sound are those of a keeper, and tables as they are made are sound.
use Rattle.std.proofs.Common.{◌≡◌, ℕ, ℤ, pos, Bool, true, false, ◌&&◌, cond, List, [], ◌∷◌, map, Option, Some, None, Result, Ok, Err, refl, sym, ap, subst, ◌∙◌, true≢false}
use Rattle.xa_store.proofs.Common.{from_entries, AllByRecursion, list_all, IsDatabase, Row, column, State, Trees, IsSound, all_from_test, all_map, all_weaker, map-map, first_of_both, second_of_both, Datatype, int_of, is_domain_name, IsDocumentOf, nothing_kept, OpenError, Damaged, CheckedTable, Domains, Tokens, Documents, Roots, Sources, SchemaVersion, Schema2, are_counted, as_read, count_from, holds_int, is_assigned, is_count, is_digest, is_empty, is_left_empty, is_sound, is_sound_table, is_whole_row, checked, tables_in, known_next, opened, place_in, places_of, read_meta, sources_in, tree_of, placed_row_in, document_in, domain_in, meta_row, nat_of, next_in, root_in, token_in, AreDocuments, AreNumbered, HaveWrittenRows, HaveSoundColumns, IsKeepersStore, Rests, place_of, schema_2, domain_entry, rows_of, kept_in}
use Rattle.xa_store.specs.Opening.{AreNewTables}
use Rattle.xa_store.proofs.AreRowsLemmas.{domains_are, sources_are, tokens_are, whole}
use Rattle.xa_store.proofs.ColumnLemmas.{root_texts, source_texts}
use Rattle.xa_store.proofs.CountedLemmas.{counted_each}
use Rattle.xa_store.proofs.DocumentRowLemmas.{document_held, documents_are}
use Rattle.xa_store.proofs.NumberedLemmas.{numbers_are}
use Rattle.xa_store.proofs.RootRowLemmas.{meta_is, roots_are}
use Rattle.xa_store.proofs.ShapeLemmas.{blob_held, int_held, text_held}
use Rattle.xa_store.proofs.ShapedLemmas.{whole_source}
use Rattle.xa_store.proofs.WholeLemmas.{IsWholeDocument, IsWholeDomain, IsWholePlacedRow, IsWholeRoot, IsWholeToken}

-- ---- what opening has found

module _ (version : SchemaVersion) where
  abbrev pub Finds : Trees → Type 0
  Finds db = (next : ℤ) × (known_next version (map read_meta (db 0)) ≡ Some next) × (is_sound version db next ≡ true)

  pub found : (db : Trees) → opened version db ≡ Ok tt → Finds db
  found db h = go (known_next version (map read_meta (db 0))) refl h
    where
      sound : (next : ℤ) → known_next version (map read_meta (db 0)) ≡ Some next → (b : Bool) → is_sound version db next ≡ b → ◌≡◌ {A = Result (Unit {0}) OpenError} (cond b (Ok tt) (Err Damaged)) (Ok tt) → Finds db
      sound next known true is h = (next, known, is)
      sound next known false is h = absurd cc

      go : (o : Option ℤ) → known_next version (map read_meta (db 0)) ≡ o → checked version db o ≡ Ok tt → Finds db
      go None known h = absurd cc
      go (Some next) known h = sound next known (is_sound version db next) refl h

  -- each of its tests
  module _ (db : Trees) (next : ℤ) (sound : is_sound version db next ≡ true) where
    its_two : (is_count next && list_all (is_sound_table db next) (tables_in version)) ≡ true
    its_two = first_of_both _ _ sound

    other_two : (are_counted (map place_in (db (tree_of (sources_in version)))) && is_left_empty version db) ≡ true
    other_two = second_of_both _ _ sound

    pub next_counts : is_count next ≡ true
    next_counts = first_of_both (is_count next) _ its_two

    pub in_kind : AllByRecursion (λ kind. is_sound_table db next kind ≡ true) (tables_in version)
    in_kind = all_from_test (is_sound_table db next) (tables_in version) (second_of_both (is_count next) _ its_two)

    pub places_counted : are_counted (map place_in (db (tree_of (sources_in version)))) ≡ true
    places_counted = first_of_both _ _ other_two

    pub left_empty : is_left_empty version db ≡ true
    left_empty = second_of_both _ _ other_two

empty_from : (rows : List Row) → is_empty rows ≡ true → rows ≡ []
empty_from [] h = refl
empty_from (row ∷ rows) h = absurd (true≢false (sym h))

-- ---- of each table

module _ (db : Trees) (next : ℤ) (live : IsSound schema_2 db) (known : known_next Schema2 (map read_meta (db 0)) ≡ Some next) (sound : is_sound Schema2 db next ≡ true) where
  abbrev test : CheckedTable → Bool
  test = is_sound_table db next

  all : AllByRecursion (λ kind. test kind ≡ true) (tables_in Schema2)
  all = in_kind Schema2 db next sound

  meta : db 0 ≡ meta_row next ∷ []
  meta = meta_is Schema2 next schema_2 db (live.obeys.rules Datatype).0 known

  next_is : next ≡ next_in (db 0)
  next_is = sym (ap next_in meta)

  tables : HaveWrittenRows db
  tables = record {
    meta = subst (λ n. db 0 ≡ meta_row n ∷ []) next_is meta;
    domains = domains_are db next live all.0;
    tokens = tokens_are db next live all.1.0;
    documents = documents_are db next live all.1.1.0;
    roots = roots_are db next live all.1.1.1.0;
    left_empty = empty_from (db 8) (left_empty Schema2 db next sound);
    sources = sources_are db next live all.1.1.1.1.0;
  }

  -- ---- columns

  -- the number in a column was given
  number_assigned : (row : Row) (at : ℕ) → holds_int (is_assigned next) (column row at) ≡ true → is_assigned next (int_of (column row at)) ≡ true
  number_assigned row at h = (int_held (is_assigned next) (column row at) h).1

  abbrev IsWhole : CheckedTable → Row → Type 0
  IsWhole kind row = is_whole_row kind next (as_read kind row) ≡ true

  document_assigned : (row : Row) → IsWhole Documents row → is_assigned next (document_in row).number ≡ true
  document_assigned row h = number_assigned row 1 (first_of_both _ _ (first_of_both _ _ (second_of_both _ _ h)))

  module _ {X : Type 0} (kind : CheckedTable) (here : test kind ≡ true) (reads : Row → X) (Is : X → Type 0) (of : (row : Row) → IsWhole kind row → Is (reads row)) where
    each : AllByRecursion Is (map reads (db (tree_of kind)))
    each = all_map Is reads (db (tree_of kind)) (all_weaker (IsWhole kind) (λ row. Is (reads row)) of (db (tree_of kind)) (whole kind next db here))

  domain_whole : (row : Row) → IsWhole Domains row → IsWholeDomain next (domain_in row)
  domain_whole row h =
      let rest = second_of_both _ _ h in
      let first = first_of_both _ _ rest in
      (number_assigned row 0 (first_of_both _ _ first), (text_held is_domain_name (column row 2) (second_of_both _ _ first)).1, (int_held is_count (column row 3) (second_of_both _ _ rest)).1)

  token_whole : (row : Row) → IsWhole Tokens row → IsWholeToken next (token_in row)
  token_whole row h =
      let first = first_of_both _ _ (second_of_both _ _ h) in
      (number_assigned row 1 (first_of_both _ _ first), (blob_held is_digest (column row 2) (second_of_both _ _ first)).1)

  root_whole : (row : Row) → IsWhole Roots row → IsWholeRoot next (root_in row)
  root_whole row h = (number_assigned row 0 (first_of_both _ _ (first_of_both _ _ (first_of_both _ _ (first_of_both _ _ (first_of_both _ _ (second_of_both _ _ h)))))), root_texts next row h)

  placed_row_whole : (row : Row) → IsWhole Sources row → IsWholePlacedRow next (placed_row_in row)
  placed_row_whole row h = (number_assigned row 1 (first_of_both _ _ (first_of_both _ _ (first_of_both _ _ (first_of_both _ _ (second_of_both _ _ (whole_source next row h).0))))), source_texts next row h)

  places : (n : ℤ) → count_from (pos 0) (places_of (map place_of (map placed_row_in (db 10))) n) ≡ true
  places n = ap (λ l. count_from (pos 0) (places_of l n)) (map-map place_of placed_row_in (db 10)) ∙ counted_each (map place_in (db 10)) (places_counted Schema2 db next sound) n

  columns : HaveSoundColumns (rows_of db)
  columns = subst (λ n. HaveSoundColumns (record (rows_of db) { next = n })) next_is (record {
    next = next_counts Schema2 db next sound;
    domains = each Domains all.0 domain_in (IsWholeDomain next) domain_whole;
    tokens = each Tokens all.1.0 token_in (IsWholeToken next) token_whole;
    documents = each Documents all.1.1.0 document_in (IsWholeDocument next) document_assigned;
    roots = each Roots all.1.1.1.0 root_in (IsWholeRoot next) root_whole;
    sources = each Sources all.1.1.1.1.0 placed_row_in (IsWholePlacedRow next) placed_row_whole;
    places = places;
  })

  numbers : AreNumbered (rows_of db)
  numbers = numbers_are (rows_of db) columns tables.domains.rise

  -- ---- documents

  documents : AreDocuments (rows_of db).documents
  documents = each Documents all.1.1.0 document_in (λ d. IsDocumentOf d.key d.text) (λ row whole. document_held next row whole)

pub opened_ours : (s : State) → Rests s → IsDatabase s.now → opened Schema2 s.now.trees ≡ Ok tt → IsKeepersStore s
opened_ours s rests live h =
    let is = found Schema2 s.now.trees h in
    let sound : IsSound schema_2 s.now.trees = subst (λ schema. IsSound schema s.now.trees) rests.schema live in
    record { rests = rests; database = sound; tables = tables s.now.trees is.0 sound is.1 is.2; domains = numbers s.now.trees is.0 sound is.1 is.2; documents = documents s.now.trees is.0 sound is.1 is.2; whole = columns s.now.trees is.0 sound is.1 is.2 }

-- ---- tables as they are made

module _ (db : Trees) (made : AreNewTables db) where
  pub made_nothing : kept_in db ≡ nothing_kept
  made_nothing = λ i. record {
    domains = from_entries (map (domain_entry (rows_of db)) (map domain_in (made.empty Domains i)));
    next = nat_of (next_in (made.meta i));
  }
