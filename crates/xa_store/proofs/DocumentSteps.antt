-- What the statements on documents make of the rows.
use Rattle.std.proofs.Common.{◌≡◌, ℕ, ℤ, pos, List, [], ◌∷◌, ◌++◌, map, filter, Bool, true, false, ◌&&◌, refl, sym, ap, ◌∙◌, int_eq, Ok}
use Rattle.xa_store.proofs.Common.{AllByRecursion, eq_by_cmp, eq_by_cmp_equiv, and_parts, and_from, Row, Chosen, State, Executes, col, Trees, Null, Int, Text, Blob, cast_row, with_rowid, next_rowid, next_key, update_where, delete_where, all_weaker, all_map, same_int, DocumentKey, compare_keys, version_text, keys_total, DocumentRow, kind_number, activity_number, document_row, document_in, HaveWrittenRows, same_document, schema_2, policies}
use Rattle.xa_store.specs.declared.step.Step.TheVariants.{AddDocument, SetActive, DropDocument}
use Rattle.xa_store.specs.keeping.Steps.{KeyReads, is_document}
use Rattle.xa_store.specs.keeping.Texts as text
use Rattle.xa_store.proofs.ChangeLemmas.{none_pass}
use Rattle.xa_store.proofs.HitLemmas.{document_hit, same_key}
use Rattle.xa_store.proofs.HoldLemmas.{Back, came_last, changed, documents_now, went_out, written_back}
use Rattle.xa_store.proofs.KeyLemmas.{own_number}
use Rattle.xa_store.proofs.LastLemmas.{apart_few}
use Rattle.xa_store.proofs.SqlLemmas.{answered, hits}
use Rattle.xa_store.proofs.ColumnNumbers.{of_activity, of_kind}
use Rattle.xa_store.proofs.StepLemmas.{Stepped, cast_int, cast_null}
use Rattle.xa_store.proofs.TableLemmas.{updates, deletes, inserts}
use Rattle.xa_store.proofs.TextLemmas.{is, set_active_is, add_document_is, drop_document_is}
use Rattle.xa_store.proofs.WriteLemmas.{next_rowid_is, row_added, row_updated, rows_removed}

document_back : (d : DocumentRow) → KeyReads d.key → document_in (document_row d) ≡ d
document_back d reads = λ i. record { rowid = d.rowid; number = d.number; key = record { kind = (of_kind d.key.kind).back i; id = d.key.id; version = reads i }; text = d.text; active = (of_activity d.active).back i }

key_of_back : (d : DocumentRow) → document_in (document_row d) ≡ d → KeyReads d.key
key_of_back d back = ap (λ (x : DocumentRow). x.key.version) back

document_cast : (d : DocumentRow) → cast_row policies (document_row d) ≡ document_row d
document_cast d = λ i. cast_int d.rowid i ∷ cast_int d.number i ∷ cast_int (kind_number d.key.kind) i ∷ Text d.key.id ∷ Text (version_text d.key.version) ∷ Blob d.text ∷ cast_int (activity_number d.active) i ∷ []

documents_alike : (n : ℤ) (key : DocumentKey) (a b : DocumentRow) → is_document n key a ≡ true → is_document n key b ≡ true → same_document a b ≡ true
documents_alike n key a b here there =
    let p = and_parts _ _ here in
    let q = and_parts _ _ there in
    let number : a.number ≡ b.number = same_int a.number n p.0 ∙ sym (same_int b.number n q.0) in
    let keys : a.key ≡ b.key = sym (same_key key a.key p.1) ∙ same_key key b.key q.1 in
    and_from _ _ (ap (λ k. int_eq k b.number) number ∙ own_number b.number) (ap (λ k. eq_by_cmp compare_keys k b.key) keys ∙ (eq_by_cmp_equiv keys_total).refl b.key)

module _ (old new : State) (has : old.now.schema ≡ schema_2) (count : ℕ) (was : HaveWrittenRows old.now.trees) (n : ℤ) (key : DocumentKey) (reads : KeyReads key) where
  abbrev db : Trees
  db = old.now.trees

  abbrev next : Trees
  next = new.now.trees

  abbrev ds : List DocumentRow
  ds = map document_in (db 5)

  abbrev rowid_of : DocumentRow → ℤ
  rowid_of d = d.rowid

  backs : AllByRecursion (Back document_row document_in) ds
  backs = written_back document_row document_in (db 5) was.documents.written

  abbrev params : Row
  params = Int n ∷ Int (kind_number key.kind) ∷ Text key.id ∷ Text (version_text key.version) ∷ []

  all_hit : AllByRecursion (λ d. hits 5 (is 1 0 ∷ is 2 1 ∷ is 3 2 ∷ is 4 3 ∷ []) (col 1 5 ∷ col 1 6 ∷ []) [] db refl params (document_row d) ≡ is_document n key d) ds
  all_hit = all_weaker (Back document_row document_in) (λ d. hits 5 (is 1 0 ∷ is 2 1 ∷ is 3 2 ∷ is 4 3 ∷ []) (col 1 5 ∷ col 1 6 ∷ []) [] db refl params (document_row d) ≡ is_document n key d)
      (λ d back. document_hit n key db d reads (key_of_back d back)) ds backs

  -- a document comes
  pub document_added_stepped : (body : List ℕ) → filter (is_document n key) ds ≡ [] → Executes text.add_document (Int n ∷ Int (kind_number key.kind) ∷ Text key.id ∷ Text (version_text key.version) ∷ Blob body ∷ []) old new (Ok count)
      → Stepped old new (AddDocument n key body)
  document_added_stepped body none h =
      let given = Int n ∷ Int (kind_number key.kind) ∷ Text key.id ∷ Text (version_text key.version) ∷ Blob body ∷ [] in
      let document : DocumentRow = record { rowid = next_key rowid_of ds; number = n; key = key; text = body; active = false } in
      let row = Null ∷ Int n ∷ Int (kind_number key.kind) ∷ Text key.id ∷ Text (version_text key.version) ∷ Blob body ∷ Int (pos 0) ∷ [] in
      let adds = inserts text.add_document given old new has 3 policies refl count _ 7 refl refl add_document_is h in
      let bare : cast_row policies row ≡ row = λ i. cast_null i ∷ cast_int n i ∷ cast_int (kind_number key.kind) i ∷ Text key.id ∷ Text (version_text key.version) ∷ Blob body ∷ cast_int (pos 0) i ∷ [] in
      let id : next_rowid (db 5) ≡ next_key rowid_of ds = ap next_rowid was.documents.written ∙ next_rowid_is document_row rowid_of (λ _. refl) ds in
      let put : with_rowid Chosen (db 5) (cast_row policies row) ≡ document_row document =
      ap (with_rowid Chosen (db 5)) bare ∙ ap (λ k. Int k ∷ Int n ∷ Int (kind_number key.kind) ∷ Text key.id ∷ Text (version_text key.version) ∷ Blob body ∷ Int (pos 0) ∷ []) id in
      let wrote = row_added document_row rowid_of (λ _. refl) policies db next ds was.documents.written was.documents.rise document row put adds.edited in
      let fresh = all_weaker (λ d. is_document n key d ≡ false) (λ d. same_document d document ≡ false)
      (λ d differs. ap (λ b. int_eq d.number n && b) ((eq_by_cmp_equiv keys_total).symm d.key key) ∙ differs) ds (none_pass (is_document n key) ds none) in
      record {
        schema = adds.schema;
        database = adds.database;
        tables = documents_now db next was (ds ++ document ∷ []) wrote (came_last document was.documents refl wrote.rows (document_back document reads) fresh);
      }

  -- whether references may resolve to a document
  pub activity_stepped : (active : Bool) → Executes text.set_active (Int n ∷ Int (kind_number key.kind) ∷ Text key.id ∷ Text (version_text key.version) ∷ Int (activity_number active) ∷ []) old new (Ok count)
      → Stepped old new (SetActive n key active)
  activity_stepped active h =
      let given = Int n ∷ Int (kind_number key.kind) ∷ Text key.id ∷ Text (version_text key.version) ∷ Int (activity_number active) ∷ [] in
      let tests = is 1 0 ∷ is 2 1 ∷ is 3 2 ∷ is 4 3 ∷ [] in
      let shown = col 1 0 ∷ col 1 0 ∷ col 1 1 ∷ col 1 2 ∷ col 1 3 ∷ col 1 4 ∷ col 1 5 ∷ col 0 4 ∷ [] in
      let p = is_document n key in
      let f : DocumentRow → DocumentRow = λ d. record d { active = active } in
      let edits = updates text.set_active given old new has 3 policies refl count _ set_active_is h in
      let answer = answered 5 tests shown [] db refl given edits.rows edits.answer.answer in
      let few = apart_few same_document p (documents_alike n key) ds was.documents.apart in
      let wrote = row_updated document_row rowid_of (λ _. refl) policies db next ds was.documents.written was.documents.rise tests shown refl given p all_hit
      f (λ d. Int d.rowid ∷ Int d.number ∷ Int (kind_number d.key.kind) ∷ Text d.key.id ∷ Text (version_text d.key.version) ∷ Blob d.text ∷ Int (activity_number active) ∷ [])
      (λ _. refl) (λ d. document_cast (f d)) (λ _. refl) few edits.rows answer edits.edited in
      let turned = λ (d : DocumentRow). Rattle.std.proofs.Common.cond (p d) (f d) d in
      let still = all_map (Back document_row document_in) turned ds
      (all_weaker (Back document_row document_in) (λ d. Back document_row document_in (turned d)) (λ d back. document_back (turned d)
      (Rattle.std.proofs.lemmas.Bool.cond_both (p d) (f d) d (λ x. KeyReads x.key) (λ _. key_of_back d back) (λ _. key_of_back d back))) ds backs) in
      record {
        schema = edits.schema;
        database = edits.database;
        tables = documents_now db next was (update_where p f ds) wrote (changed p f was.documents (λ _. refl) (λ a b. refl) (λ a b. refl) wrote.rows still);
      }

  -- a document goes
  pub document_dropped_stepped : Executes text.drop_document params old new (Ok count) → Stepped old new (DropDocument n key)
  document_dropped_stepped h =
      let tests = is 1 0 ∷ is 2 1 ∷ is 3 2 ∷ is 4 3 ∷ [] in
      let p = is_document n key in
      let edits = deletes text.drop_document params old new has 3 policies refl count _ drop_document_is h in
      let answer = answered 5 tests (col 1 0 ∷ []) [] db refl params edits.rows edits.answer.answer in
      let wrote = rows_removed document_row rowid_of (λ _. refl) policies db next ds was.documents.written was.documents.rise tests (col 1 0 ∷ []) refl params p all_hit
      (λ _. refl) refl edits.rows answer edits.edited in
      record {
        schema = edits.schema;
        database = edits.database;
        tables = documents_now db next was (delete_where p ds) wrote (went_out p was.documents wrote.rows);
      }
