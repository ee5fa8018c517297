-- What the statements on the rows of sources make of the rows.
use Rattle.std.proofs.Common.{◌≡◌, ℕ, ℤ, List, [], ◌∷◌, ◌++◌, map, filter, Bool, true, false, refl, sym, ap, ◌∙◌, int_eq, Ok}
use Rattle.xa_store.proofs.Common.{Chosen, State, Executes, col, Trees, Null, Int, Text, Eq, cast_row, with_rowid, next_rowid, next_key, delete_where, all_of, or_null, at_ints, last_term, SourceRow, PlacedRow, placed_row, placed_row_in, type_number, value_text, HaveWrittenRows, schema_2, sources}
use Rattle.xa_store.specs.declared.step.Step.TheVariants.{AddSourceRow, DropSource}
use Rattle.xa_store.specs.keeping.Steps.{ReadsBack, is_place}
use Rattle.xa_store.specs.keeping.Texts as text
use Rattle.xa_store.proofs.ChangeLemmas.{none_pass}
use Rattle.xa_store.proofs.HoldLemmas.{sources_now, came_last, went_out}
use Rattle.xa_store.proofs.SqlLemmas.{answered}
use Rattle.xa_store.proofs.StepLemmas.{Stepped, cast_int, cast_null, cast_text, text_back}
use Rattle.xa_store.proofs.TableLemmas.{deletes, inserts}
use Rattle.xa_store.proofs.TextLemmas.{is, add_source_row_is, drop_source_is}
use Rattle.xa_store.proofs.WriteLemmas.{next_rowid_is, row_added, rows_removed}

-- a row that the keeper writes has a column for its issuer
placed_row_back : (a : PlacedRow) → ReadsBack a.row.value → a.is_full ≡ true → placed_row_in (placed_row a) ≡ a
placed_row_back a reads full =
    ap (λ b. placed_row_in (placed_row (record a { is_full = b }))) full
    ∙ (λ i. record {
      rowid = a.rowid;
      number = a.number;
      place = a.place;
      row = record { category = a.row.category; entity = a.row.entity; attribute_id = a.row.attribute_id; value = reads i; issuer = text_back a.row.issuer i };
      is_full = true;
    })
    ∙ ap (λ b. record a { is_full = b }) (sym full)

module _ (old new : State) (has : old.now.schema ≡ schema_2) (count : ℕ) (was : HaveWrittenRows old.now.trees) (n : ℤ) where
  abbrev db : Trees
  db = old.now.trees

  abbrev next : Trees
  next = new.now.trees

  abbrev xs : List PlacedRow
  xs = map placed_row_in (db 10)

  abbrev rowid_of : PlacedRow → ℤ
  rowid_of a = a.rowid

  -- a row comes
  pub source_row_added_stepped : (place : ℤ) (source : SourceRow) → filter (is_place n place) xs ≡ [] → ReadsBack source.value
      → Executes text.add_source_row (Int n ∷ Int place ∷ Text source.category ∷ Text source.entity ∷ Text source.attribute_id ∷ Int (type_number source.value) ∷ Text (value_text source.value) ∷ or_null Text source.issuer ∷ []) old new (Ok count)
      → Stepped old new (AddSourceRow n place source)
  source_row_added_stepped place source none reads h =
      let given = Int n ∷ Int place ∷ Text source.category ∷ Text source.entity ∷ Text source.attribute_id ∷ Int (type_number source.value) ∷ Text (value_text source.value) ∷ or_null Text source.issuer ∷ [] in
      let added : PlacedRow = record { rowid = next_key rowid_of xs; number = n; place = place; row = source; is_full = true } in
      let row = Null ∷ given in
      let adds = inserts text.add_source_row given old new has 6 sources refl count _ 9 refl refl add_source_row_is h in
      let bare : cast_row sources row ≡ row =
      λ i. cast_null i ∷ cast_int n i ∷ cast_int place i ∷ Text source.category ∷ Text source.entity ∷ Text source.attribute_id ∷ cast_int (type_number source.value) i ∷ Text (value_text source.value) ∷ cast_text source.issuer i ∷ [] in
      let id : next_rowid (db 10) ≡ next_key rowid_of xs = ap next_rowid was.sources.written ∙ next_rowid_is placed_row rowid_of (λ _. refl) xs in
      let put : with_rowid Chosen (db 10) (cast_row sources row) ≡ placed_row added = ap (with_rowid Chosen (db 10)) bare ∙ ap (λ k. Int k ∷ given) id in
      let wrote = row_added placed_row rowid_of (λ _. refl) sources db next xs was.sources.written was.sources.rise added row put adds.edited in
      record {
        schema = adds.schema;
        database = adds.database;
        tables = sources_now db next was (xs ++ added ∷ []) wrote (came_last added was.sources refl wrote.rows (placed_row_back added reads refl) (none_pass (is_place n place) xs none));
      }

  -- all rows go
  pub source_dropped_stepped : Executes text.drop_source (Int n ∷ []) old new (Ok count) → Stepped old new (DropSource n)
  source_dropped_stepped h =
      let p : PlacedRow → Bool = λ a. int_eq a.number n in
      let params = Int n ∷ [] in
      let edits = deletes text.drop_source params old new has 6 sources refl count _ drop_source_is h in
      let answer = answered 10 (is 1 0 ∷ []) (col 1 0 ∷ []) [] db refl params edits.rows edits.answer.answer in
      let hit = all_of _ (λ (a : PlacedRow). last_term (at_ints false Eq a.number n)) xs in
      let wrote = rows_removed placed_row rowid_of (λ _. refl) sources db next xs was.sources.written was.sources.rise (is 1 0 ∷ []) (col 1 0 ∷ []) refl params p hit
      (λ _. refl) refl edits.rows answer edits.edited in
      record {
        schema = edits.schema;
        database = edits.database;
        tables = sources_now db next was (delete_where p xs) wrote (went_out p was.sources wrote.rows);
      }
