-- What the queries on documents find.
use Rattle.std.proofs.Common.{◌≡◌, ℕ, ℤ, pos, List, [], ◌∷◌, map, filter, length, Bool, true, false, ◌&&◌, Ordering, Less, is_eq, int_eq, Option, Some, None, option_map, unwrap_or, find, Ok, refl, sym, ap, subst, ◌∙◌, IsPermutation, IsSorted}
use Rattle.std.specs.Result.{result_ok}
use Rattle.xa_store.proofs.Common.{IsTotalOrder, get, entries, len, len-entries, length-map, AllByRecursion, on, on_total, IsPermutation-map, IsPermutation-trans, length_permutation, Row, State, Shown, Trees, Int, Text, Blob, IsPlain, understood, Term, col, reads_as, sort_by, all_of, all_weaker, map-map, filter-map, IsPermutation-filter, ascending-map, ascending-filter, sorted_unique, IsPermutation-sort_by, Eq, IsAscending, at_ints, then_term, last_term, DocumentKey, compare_keys, read_version, version_text, StoredDocument, active_text, active_texts, listed_of, listing_of_state, text_in, keys_total, keys_exact, DocumentRow, document_row, document_in, activity_number, kind_number, HaveWrittenRows, IsKeepersStore, same_document, schema_2, Rows, rows_of, state_at, documents_at, document_entry}
use Rattle.xa_records.specs.declared.listed.Listed.{Listed}
use Rattle.xa_records.specs.declared.active_text.ActiveText.{ActiveText}
use Rattle.xa_store.specs.declared.query.document_row.FoundDocument.{FoundDocument}
use Rattle.xa_store.specs.keeping.Lookup.{FindsDocument, found_of}
use Rattle.xa_store.specs.Rows.{version_in}
use Rattle.xa_store.specs.keeping.Columns.{TellsOne, document_told, listed_told, text_told}
use Rattle.xa_store.specs.keeping.Steps.{is_document}
use Rattle.xa_store.specs.keeping.Texts.{show_document, show_document_kinds, show_documents, show_active_documents}
use Rattle.xa_store.proofs.EntryLemmas.{got, has}
use Rattle.xa_store.proofs.FilterLemmas.{filter_both}
use Rattle.xa_store.proofs.FoundLemmas.{finds_one, found_is, found_all, find_both, map_alike, read_back}
use Rattle.xa_store.proofs.HitLemmas.{document_hit, kinds_hit, documents_hit}
use Rattle.xa_store.proofs.OrderedLemmas.{all_among, apart_among, apart_then, entries_sorted, rises_sorted}
use Rattle.xa_store.proofs.SqlLemmas.{Answered, answered, hits}
use Rattle.xa_store.proofs.TextLemmas.{is, is_one, show_document_is, show_document_kinds_is, show_documents_is, show_active_documents_is}

pub document_plain : IsPlain (understood schema_2 show_document)
document_plain = show_document_is.2

pub kinds_plain : IsPlain (understood schema_2 show_document_kinds)
kinds_plain = show_document_kinds_is.2

pub documents_plain : IsPlain (understood schema_2 show_documents)
documents_plain = show_documents_is.2

pub active_plain : IsPlain (understood schema_2 show_active_documents)
active_plain = show_active_documents_is.2

pub reads_as_version : (version : List ℕ) → read_version (version_text version) ≡ Ok version → version_in (version_text version) ≡ version
unfolding version_in
reads_as_version version reads = ap (λ r. unwrap_or (result_ok r) []) reads

-- each record is what its row reads as
abbrev IsBack : DocumentRow → Type 0
IsBack d = document_in (document_row d) ≡ d

backs : (db : Trees) (p : DocumentRow → Bool) → db 5 ≡ map document_row (map document_in (db 5)) → AllByRecursion IsBack (filter p (map document_in (db 5)))
backs db p written = all_among p IsBack IsBack (λ d passes back. back) (map document_in (db 5)) (read_back document_row document_in (db 5) written)

-- ---- one by its key

module _ (old new : State) (number : ℤ) (key : DocumentKey) (reads : version_in (version_text key.version) ≡ key.version) (ours : IsKeepersStore old) (rows : List Row)
    (shown : Shown show_document (Int number ∷ Int (kind_number key.kind) ∷ Text key.id ∷ Text (version_text key.version) ∷ []) old new rows) where
  abbrev db : Trees
  db = old.now.trees

  abbrev given : Row
  given = Int number ∷ Int (kind_number key.kind) ∷ Text key.id ∷ Text (version_text key.version) ∷ []

  abbrev tests : List Term
  tests = is 1 0 ∷ is 2 1 ∷ is 3 2 ∷ is 4 3 ∷ []

  answer : Answered 5 tests (col 1 5 ∷ col 1 6 ∷ []) [] db refl given rows
  answer =
      answered 5 tests (col 1 5 ∷ col 1 6 ∷ []) [] db refl given rows
      (reads_as show_document given old new schema_2 ours.rests.schema _ show_document_is.0 show_document_is.2 show_document_is.1 rows shown).answer

  all_hit : AllByRecursion (λ d. hits 5 tests (col 1 5 ∷ col 1 6 ∷ []) [] db refl given (document_row d) ≡ is_document number key d) (map document_in (db 5))
  all_hit =
      all_weaker IsBack _ (λ d back. document_hit number key db d reads (ap (λ (x : DocumentRow). x.key.version) back)) (map document_in (db 5))
      (read_back document_row document_in (db 5) ours.tables.documents.written)

  pub document_found : (o : Option FoundDocument) → TellsOne document_told rows o → FindsDocument number key (rows_of db) o
  document_found =
      finds_one 5 tests (col 1 5 ∷ col 1 6 ∷ []) [] db refl given document_row document_in ours.tables.documents.written (is_document number key) all_hit document_told found_of
      (all_weaker IsBack _ (λ d back. ap found_of back) _ (backs db (is_document number key) ours.tables.documents.written)) rows answer

abbrev stored_of : DocumentRow → StoredDocument
stored_of d = record { text = d.text; active = d.active }

abbrev stored : FoundDocument → StoredDocument
stored found = record { text = found.text; active = found.active }

-- the document that was found is that of the domain's state
pub document_is : (rows : Rows) (number : ℤ) (key : DocumentKey) (o : Option FoundDocument) → FindsDocument number key rows o → get (state_at rows number).documents key ≡ option_map stored o
document_is rows number key o finds =
    got keys_total keys_exact (λ (d : DocumentRow). d.key) stored_of key (documents_at rows.documents number)
    ∙ ap (option_map stored_of) (find_both (λ (d : DocumentRow). int_eq d.number number) (has keys_total keys_exact (λ (d : DocumentRow). d.key) stored_of key) rows.documents)
    ∙ again (find (is_document number key) rows.documents)
    ∙ ap (option_map stored) (found_is (is_document number key) found_of rows.documents o finds)
  where
    again : (f : Option DocumentRow) → option_map stored_of f ≡ option_map stored (option_map found_of f)
    again None = refl
    again (Some d) = refl

pub text_is : (rows : Rows) (number : ℤ) (key : DocumentKey) (o : Option FoundDocument) → FindsDocument number key rows o → text_in key (state_at rows number) ≡ option_map (λ found. found.text) o
text_is rows number key o finds = ap (option_map (λ (d : StoredDocument). d.text)) (document_is rows number key o finds) ∙ again o
  where
    again : (f : Option FoundDocument) → option_map (λ (d : StoredDocument). d.text) (option_map stored f) ≡ option_map (λ found. found.text) f
    again None = refl
    again (Some d) = refl

-- ---- in the order of their keys

-- what is told of records that stand in the order of their keys, sorted by those keys, is told in their order
in_order_is : {Y : Type 0} (key_of : Y → DocumentKey) → IsTotalOrder (on key_of compare_keys) → (tell : DocumentRow → Y) (target : List DocumentRow)
    → IsAscending (λ a b. compare_keys (key_of (tell a)) (key_of (tell b)) ≡ Less) target
    → (items out : List Y) → IsPermutation (map tell target) items → IsPermutation items out → IsSorted (on key_of compare_keys) out → out ≡ map tell target
in_order_is key_of total tell target up items out told same sorted =
    sorted_unique (on key_of compare_keys) total (map tell target) out (ascending-map (λ x y. on key_of compare_keys x y ≡ Less) tell target up) (IsPermutation-trans (map tell target) items out told same) sorted

abbrev by_document_key : DocumentRow → DocumentRow → Ordering
by_document_key a b = compare_keys a.key b.key

module _ (db : Trees) (number : ℤ) (ours : HaveWrittenRows db) where
  abbrev mine : List DocumentRow
  mine = documents_at (rows_of db).documents number

  untied : IsAscending (λ a b. is_eq (by_document_key a b) ≡ false) mine
  untied =
      apart_among (λ (d : DocumentRow). int_eq d.number number) (λ a b. same_document a b ≡ false) (λ a b. is_eq (by_document_key a b) ≡ false)
      (λ a b p q h. apart_then a.number b.number number (is_eq (by_document_key a b)) p q h) (map document_in (db 5)) ours.documents.apart

  document_order : IsTotalOrder by_document_key
  document_order = on_total (λ (d : DocumentRow). d.key) keys_total

  abbrev ordered : List DocumentRow
  ordered = sort_by by_document_key mine

  rising : IsAscending (λ a b. by_document_key a b ≡ Less) ordered
  rising = rises_sorted by_document_key document_order mine untied

  entries_are : entries (state_at (rows_of db) number).documents ≡ map document_entry ordered
  entries_are = entries_sorted keys_total (λ (d : DocumentRow). d.key) stored_of mine untied

  abbrev list_row : DocumentRow → Listed
  list_row d = record { key = d.key; active = d.active }

  pub listing_is : (items out : List Listed) → IsPermutation (map list_row mine) items → IsPermutation items out → IsSorted (on (λ (l : Listed). l.key) compare_keys) out
      → out ≡ listing_of_state (state_at (rows_of db) number)
  listing_is items out told same sorted =
      in_order_is (λ l. l.key) (on_total (λ (l : Listed). l.key) keys_total) list_row ordered rising items out
      (IsPermutation-trans (map list_row ordered) (map list_row mine) items (IsPermutation-map list_row ordered mine (IsPermutation-sort_by by_document_key document_order mine)) told) same sorted
      ∙ sym (ap (map listed_of) entries_are ∙ map-map listed_of document_entry ordered)

  abbrev text_row : DocumentRow → ActiveText
  text_row d = record { key = d.key; text = d.text }

  abbrev is_active : DocumentRow → Bool
  is_active d = d.active

  pub texts_are : (items out : List ActiveText) → IsPermutation (map text_row (filter is_active mine)) items → IsPermutation items out → IsSorted (on (λ (a : ActiveText). a.key) compare_keys) out
      → out ≡ active_texts (state_at (rows_of db) number)
  texts_are items out told same sorted =
      let kept = filter is_active ordered in
      let is = in_order_is (λ a. a.key) (on_total (λ (a : ActiveText). a.key) keys_total) text_row kept (ascending-filter _ is_active ordered rising) items out
      (IsPermutation-trans (map text_row kept) (map text_row (filter is_active mine)) items
      (IsPermutation-map text_row kept (filter is_active mine) (IsPermutation-filter is_active ordered mine (IsPermutation-sort_by by_document_key document_order mine))) told) same sorted in
      is
      ∙ sym (ap (λ es. map active_text (filter (λ (e : DocumentKey × StoredDocument). e.1.active) es)) entries_are
      ∙ ap (map active_text) (filter-map (λ (e : DocumentKey × StoredDocument). e.1.active) document_entry ordered) ∙ map-map active_text document_entry kept)

-- ---- what the queries tell

module _ (old new : State) (number : ℤ) (ours : IsKeepersStore old) where
  abbrev trees : Trees
  trees = old.now.trees

  abbrev of_number : DocumentRow → Bool
  of_number d = int_eq d.number number

  abbrev list_shown : DocumentRow → Row
  list_shown d = Int (kind_number d.key.kind) ∷ Text d.key.id ∷ Text (version_text d.key.version) ∷ Int (activity_number d.active) ∷ []

  pub listing_told : (rows : List Row) → Shown show_documents (Int number ∷ []) old new rows → (items : List Listed) → items ≡ map listed_told rows
      → IsPermutation (map (list_row trees number ours.tables) (mine trees number ours.tables)) items
  listing_told rows shown items told =
      let answer = answered 5 (is 1 0 ∷ []) (col 1 2 ∷ col 1 3 ∷ col 1 4 ∷ col 1 6 ∷ []) (2 ∷ 3 ∷ 4 ∷ []) trees refl (Int number ∷ []) rows
      (reads_as show_documents (Int number ∷ []) old new schema_2 ours.rests.schema _ show_documents_is.0 show_documents_is.2 show_documents_is.1 rows shown).answer in
      let all = found_all 5 (is 1 0 ∷ []) (col 1 2 ∷ col 1 3 ∷ col 1 4 ∷ col 1 6 ∷ []) (2 ∷ 3 ∷ 4 ∷ []) trees refl (Int number ∷ []) document_row document_in ours.tables.documents.written of_number
      (all_of _ (documents_hit number trees) (map document_in (trees 5))) rows answer in
      let each = map-map listed_told list_shown (filter of_number (map document_in (trees 5)))
      ∙ map_alike (λ d. listed_told (list_shown d)) (list_row trees number ours.tables) (filter of_number (map document_in (trees 5)))
      (all_weaker IsBack _ (λ d back. ap (list_row trees number ours.tables) back) _ (backs trees of_number ours.tables.documents.written)) in
      subst (λ l. IsPermutation l items) each (subst (IsPermutation (map listed_told (map list_shown (filter of_number (map document_in (trees 5)))))) (sym told) (IsPermutation-map listed_told _ rows all))

  abbrev only_kind : DocumentRow → Row
  only_kind d = Int (kind_number d.key.kind) ∷ []

  pub documents_counted : (rows : List Row) → Shown show_document_kinds (Int number ∷ []) old new rows → length rows ≡ len (state_at (rows_of trees) number).documents
  documents_counted rows shown =
      let answer = answered 5 (is 1 0 ∷ []) (col 1 2 ∷ []) (2 ∷ 3 ∷ 4 ∷ []) trees refl (Int number ∷ []) rows
      (reads_as show_document_kinds (Int number ∷ []) old new schema_2 ours.rests.schema _ show_document_kinds_is.0 show_document_kinds_is.2 show_document_kinds_is.1 rows shown).answer in
      let all = found_all 5 (is 1 0 ∷ []) (col 1 2 ∷ []) (2 ∷ 3 ∷ 4 ∷ []) trees refl (Int number ∷ []) document_row document_in ours.tables.documents.written of_number
      (all_of _ (kinds_hit number trees) (map document_in (trees 5))) rows answer in
      length_permutation _ rows all ∙ length-map (filter of_number (map document_in (trees 5))) only_kind
      ∙ sym (len-entries (state_at (rows_of trees) number).documents ∙ ap length (entries_are trees number ours.tables) ∙ length-map (ordered trees number ours.tables) document_entry
      ∙ sym (length_permutation (ordered trees number ours.tables) (mine trees number ours.tables)
      (IsPermutation-sort_by by_document_key (document_order trees number ours.tables) (mine trees number ours.tables))))

  bit_is_one : (b : Bool) → int_eq (activity_number b) (pos 1) ≡ b
  bit_is_one true = refl
  bit_is_one false = refl

  abbrev of_number_active : DocumentRow → Bool
  of_number_active d = of_number d && d.active

  active_hit : (d : DocumentRow)
      → hits 5 (is 1 0 ∷ is_one 6 ∷ []) (col 1 2 ∷ col 1 3 ∷ col 1 4 ∷ col 1 5 ∷ []) (2 ∷ 3 ∷ 4 ∷ []) trees refl (Int number ∷ []) (document_row d) ≡ of_number_active d
  active_hit d = then_term (at_ints false Eq d.number number) (last_term (at_ints false Eq (activity_number d.active) (pos 1)) ∙ bit_is_one d.active)

  abbrev text_shown : DocumentRow → Row
  text_shown d = Int (kind_number d.key.kind) ∷ Text d.key.id ∷ Text (version_text d.key.version) ∷ Blob d.text ∷ []

  pub texts_told : (rows : List Row) → Shown show_active_documents (Int number ∷ []) old new rows → (items : List ActiveText) → items ≡ map text_told rows
      → IsPermutation (map (text_row trees number ours.tables) (filter (is_active trees number ours.tables) (mine trees number ours.tables))) items
  texts_told rows shown items told =
      let answer = answered 5 (is 1 0 ∷ is_one 6 ∷ []) (col 1 2 ∷ col 1 3 ∷ col 1 4 ∷ col 1 5 ∷ []) (2 ∷ 3 ∷ 4 ∷ []) trees refl (Int number ∷ []) rows
      (reads_as show_active_documents (Int number ∷ []) old new schema_2 ours.rests.schema _ show_active_documents_is.0 show_active_documents_is.2 show_active_documents_is.1 rows shown).answer in
      let all = found_all 5 (is 1 0 ∷ is_one 6 ∷ []) (col 1 2 ∷ col 1 3 ∷ col 1 4 ∷ col 1 5 ∷ []) (2 ∷ 3 ∷ 4 ∷ []) trees refl (Int number ∷ []) document_row document_in
      ours.tables.documents.written of_number_active (all_of _ active_hit (map document_in (trees 5))) rows answer in
      let each = map-map text_told text_shown (filter of_number_active (map document_in (trees 5)))
      ∙ map_alike (λ d. text_told (text_shown d)) (text_row trees number ours.tables) (filter of_number_active (map document_in (trees 5)))
      (all_weaker IsBack _ (λ d back. ap (text_row trees number ours.tables) back) _ (backs trees of_number_active ours.tables.documents.written))
      ∙ ap (map (text_row trees number ours.tables)) (filter_both of_number (is_active trees number ours.tables) (map document_in (trees 5))) in
      subst (λ l. IsPermutation l items) each (subst (IsPermutation (map text_told (map text_shown (filter of_number_active (map document_in (trees 5)))))) (sym told) (IsPermutation-map text_told _ rows all))
