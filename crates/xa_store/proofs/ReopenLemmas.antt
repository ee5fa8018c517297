-- A keeper's own tables are such as opening finds sound.
use Rattle.std.proofs.Common.{◌≡◌, ℕ, ℤ, ◌<ℤ◌, Bool, true, false, ◌&&◌, cond, bytes_eq, List, [], ◌∷◌, map, int_eq, int_lt, Option, Ok, Err, refl, sym, ap, subst, ◌∙◌, arith}
use Rattle.xa_store.proofs.Common.{AllByRecursion, list_all, ints, is_eq-slice_cmp, Row, column, State, Trees, Int, Text, all_both, all_map, all_weaker, ascending-map, map-map, map_same, test_from_all, IsAscending, bytes_eq_refl, DocumentKey, version_text, Parsed, document_of, is_domain_name, IsDocumentOf, Damaged, CheckedTable, Domains, Tokens, Documents, Roots, Sources, Schema2, are_counted, are_rising, as_read, holds_key, holds_text_if_any, holds_value, is_assigned, is_bit, is_count, is_digest, is_empty, is_left_empty, is_pattern, is_sound, is_sound_table, is_version, is_whole_row, checked, tables_in, known_next, opened, place_in, read_meta, rowid_in, tree_of, is_utf8, PlacedRow, DocumentRow, DomainRow, RootRow, TokenRow, placed_row_in, placed_row, activity_number, document_in, document_row, domain_in, domain_row, issuer_columns, kind_number, next_in, role_number, root_in, root_row, token_in, token_row, type_number, value_text, AreDocuments, OpensSoundly, AreRows, HaveWrittenRows, HaveSoundColumns, IsKeepersStore, is_if_any, place_of, rows_of}
use Rattle.xa_store.proofs.ColumnLemmas.{held_if_any, text_written}
use Rattle.xa_store.proofs.ColumnNumbers.{of_activity, of_kind, of_role}
use Rattle.xa_store.proofs.CountedLemmas.{each_counted}
use Rattle.xa_store.proofs.KeyLemmas.{own_number}
use Rattle.xa_store.proofs.ReadLemmas.{numbers_read}
use Rattle.xa_store.proofs.RiseLemmas.{both_true}
use Rattle.xa_store.proofs.WholeLemmas.{IsWholeDocument, IsWholeDomain, IsWholePlacedRow, IsWholeRoot, IsWholeToken}

-- ---- one row as it is written

abbrev Whole : {X : Type 0} → CheckedTable → ℤ → (X → Row) → X → Type 0
Whole kind next write x = is_whole_row kind next (as_read kind (write x)) ≡ true

domain_opens : (next : ℤ) (d : DomainRow) → IsWholeDomain next d → Whole Domains next domain_row d
domain_opens next d h = both_true _ (is_count d.epoch) (both_true (is_assigned next d.number) (is_domain_name d.name) h.0 h.1) h.2

token_opens : (next : ℤ) (t : TokenRow) → IsWholeToken next t → Whole Tokens next token_row t
token_opens next t h = both_true _ (is_bit (role_number t.role)) (both_true (is_assigned next t.number) (is_digest t.digest) h.0 h.1) (of_role t.role).low

same_bytes : (a : List ℕ) → bytes_eq a a ≡ true
same_bytes a = sym (is_eq-slice_cmp a a) ∙ bytes_eq_refl a

own_key : (parsed : Parsed) → holds_key (Int (kind_number parsed.kind)) (Text parsed.id) (Text (version_text parsed.version)) (Ok parsed) ≡ true
own_key parsed =
    both_true _ (bytes_eq (version_text parsed.version) (version_text parsed.version))
    (both_true (int_eq (kind_number parsed.kind) (kind_number parsed.kind)) (bytes_eq parsed.id parsed.id) (own_number (kind_number parsed.kind)) (same_bytes parsed.id)) (same_bytes (version_text parsed.version))

key_opens : (key : DocumentKey) (text : List ℕ) → IsDocumentOf key text → holds_key (Int (kind_number key.kind)) (Text key.id) (Text (version_text key.version)) (document_of text) ≡ true
key_opens key text (parsed, reads, is) =
    ap (holds_key (Int (kind_number key.kind)) (Text key.id) (Text (version_text key.version))) reads
    ∙ subst (λ (k : DocumentKey). holds_key (Int (kind_number k.kind)) (Text k.id) (Text (version_text k.version)) (Ok parsed) ≡ true) is (own_key parsed)

document_opens : (next : ℤ) (d : DocumentRow) → IsWholeDocument next d → IsDocumentOf d.key d.text → Whole Documents next document_row d
document_opens next d h is = both_true _ _ (both_true (is_assigned next d.number) (is_bit (activity_number d.active)) h (of_activity d.active).low) (key_opens d.key d.text is)

root_opens : (next : ℤ) (r : RootRow) → IsWholeRoot next r → Whole Roots next root_row r
root_opens next r h =
    both_true _ _
    (both_true _ _ (both_true _ _ (both_true _ (is_utf8 r.id) (both_true (is_assigned next r.number) (is_bit (kind_number r.kind)) h.0 (of_kind r.kind).low) h.1.0) (text_written is_pattern r.texts 0 h.1.1))
    (text_written is_version r.texts 1 h.1.2)) (text_written is_version r.texts 2 h.1.3)

issuer_opens : (full : Bool) (issuer : Option (List ℕ)) → is_if_any is_utf8 issuer ≡ true → holds_text_if_any is_utf8 (column (issuer_columns full issuer) 0) ≡ true
issuer_opens true issuer h = held_if_any is_utf8 issuer h
issuer_opens false issuer h = refl

placed_row_opens : (next : ℤ) (a : PlacedRow) → IsWholePlacedRow next a → Whole Sources next placed_row a
placed_row_opens next a h =
    both_true _ (holds_text_if_any is_utf8 (column (issuer_columns a.is_full a.row.issuer) 0))
    (both_true _ (holds_value (type_number a.row.value) (value_text a.row.value))
    (both_true _ (is_utf8 a.row.attribute_id) (both_true _ (is_utf8 a.row.entity) (both_true (is_assigned next a.number) (is_utf8 a.row.category) h.0 h.1.0) h.1.1) h.1.2) h.1.3)
    (issuer_opens a.is_full a.row.issuer h.1.4)

-- ---- a table

lt_test : (a b : ℤ) → a <ℤ b → int_lt a b ≡ true
lt_test a b h = grind (arith, ints)

rising_from : (ns : List ℤ) → IsAscending (λ a b. a <ℤ b) ns → are_rising ns ≡ true
rising_from [] up = refl
rising_from (n ∷ ns) up =
    both_true (list_all (int_lt n) ns) (are_rising ns) (test_from_all (int_lt n) ns (all_weaker (λ m. n <ℤ m) (λ m. int_lt n m ≡ true) (λ m h. lt_test n m h) ns up.0)) (rising_from ns up.1)

module _ (db : Trees) (next : ℤ) (kind : CheckedTable) {X : Type 0} (write : X → Row) (reads : Row → X) (rowid_of : X → ℤ) (same : X → X → Bool) (numbered : (r : Row) → rowid_of (reads r) ≡ rowid_in r)
    (are : AreRows write reads rowid_of same (db (tree_of kind))) (whole : AllByRecursion (Whole kind next write) (map reads (db (tree_of kind)))) where
  abbrev rows : List Row
  rows = db (tree_of kind)

  rise : are_rising (map rowid_in (map (as_read kind) rows)) ≡ true
  rise =
      ap are_rising (numbers_read kind rows ∙ sym (map-map rowid_of reads rows ∙ map_same (λ r. rowid_of (reads r)) rowid_in numbered rows))
      ∙ rising_from (map rowid_of (map reads rows)) (ascending-map (λ a b. a <ℤ b) rowid_of (map reads rows) are.rise)

  each : AllByRecursion (λ r. is_whole_row kind next (as_read kind r) ≡ true) rows
  each = subst (AllByRecursion (λ r. is_whole_row kind next (as_read kind r) ≡ true)) (sym are.written) (all_map (λ r. is_whole_row kind next (as_read kind r) ≡ true) write (map reads rows) whole)

  table_opens : is_sound_table db next kind ≡ true
  table_opens =
      both_true (list_all (is_whole_row kind next) (map (as_read kind) rows)) (are_rising (map rowid_in (map (as_read kind) rows)))
      (test_from_all (is_whole_row kind next) (map (as_read kind) rows) (all_map (λ r. is_whole_row kind next r ≡ true) (as_read kind) rows each)) rise

-- ---- all tables

module _ (db : Trees) (tables : HaveWrittenRows db) (documents : AreDocuments (rows_of db).documents) (whole : HaveSoundColumns (rows_of db)) where
  abbrev next : ℤ
  next = next_in (db 0)

  in_domains : is_sound_table db next Domains ≡ true
  in_domains =
      table_opens db next Domains domain_row domain_in (λ (d : DomainRow). d.number) _ (λ r. refl) tables.domains
      (all_weaker (IsWholeDomain next) (Whole Domains next domain_row) (λ d h. domain_opens next d h) (map domain_in (db 1)) whole.domains)

  in_tokens : is_sound_table db next Tokens ≡ true
  in_tokens =
      table_opens db next Tokens token_row token_in (λ (t : TokenRow). t.rowid) _ (λ r. refl) tables.tokens
      (all_weaker (IsWholeToken next) (Whole Tokens next token_row) (λ t h. token_opens next t h) (map token_in (db 3)) whole.tokens)

  in_documents : is_sound_table db next Documents ≡ true
  in_documents =
      table_opens db next Documents document_row document_in (λ (d : DocumentRow). d.rowid) _ (λ r. refl) tables.documents
      (all_both (IsWholeDocument next) (λ d. IsDocumentOf d.key d.text) (Whole Documents next document_row) (λ d h is. document_opens next d h is) (map document_in (db 5)) whole.documents documents)

  in_roots : is_sound_table db next Roots ≡ true
  in_roots =
      table_opens db next Roots root_row root_in (λ (r : RootRow). r.number) _ (λ r. refl) tables.roots
      (all_weaker (IsWholeRoot next) (Whole Roots next root_row) (λ r h. root_opens next r h) (map root_in (db 7)) whole.roots)

  in_sources : is_sound_table db next Sources ≡ true
  in_sources =
      table_opens db next Sources placed_row placed_row_in (λ (a : PlacedRow). a.rowid) _ (λ r. refl) tables.sources
      (all_weaker (IsWholePlacedRow next) (Whole Sources next placed_row) (λ a h. placed_row_opens next a h) (map placed_row_in (db 10)) whole.sources)

  all_tables : list_all (is_sound_table db next) (tables_in Schema2) ≡ true
  all_tables = test_from_all (is_sound_table db next) (tables_in Schema2) (in_domains, (in_tokens, (in_documents, (in_roots, (in_sources, tt)))))

  counted : are_counted (map place_in (db 10)) ≡ true
  counted = ap are_counted (sym (map-map place_of placed_row_in (db 10))) ∙ each_counted (map place_of (map placed_row_in (db 10))) whole.places

  sound : is_sound Schema2 db next ≡ true
  sound =
      both_true (is_count next && list_all (is_sound_table db next) (tables_in Schema2)) (are_counted (map place_in (db 10)) && is_left_empty Schema2 db)
      (both_true (is_count next) (list_all (is_sound_table db next) (tables_in Schema2)) whole.next all_tables)
      (both_true (are_counted (map place_in (db 10))) (is_left_empty Schema2 db) counted (ap is_empty tables.left_empty))

  pub tables_open : opened Schema2 db ≡ Ok tt
  tables_open = ap (λ rows. checked Schema2 db (known_next Schema2 (map read_meta rows))) tables.meta ∙ ap (λ b. cond b (Ok tt) (Err Damaged)) sound

pub ours_open : (s : State) → IsKeepersStore s → opened Schema2 s.now.trees ≡ Ok tt
ours_open s ours = tables_open s.now.trees ours.tables ours.documents ours.whole

pub are_ours : (s : State) → IsKeepersStore s → OpensSoundly s.now.trees
are_ours s ours = record { database = ours.database; opens = ours_open s ours }
