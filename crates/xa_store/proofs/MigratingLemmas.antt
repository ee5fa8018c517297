-- What the statements make that bring schema 1 into schema 2.
use Rattle.std.proofs.Common.{◌≡◌, ℕ, ◌+◌, ℤ, pos, ◌+ℤ◌, List, [], ◌∷◌, ◌++◌, map, true, false, Less, None, Ok, refl, sym, ap, subst, ◌∙◌, append-nil, append_assoc, arith, IsPermutation}
use Rattle.xa_store.proofs.Common.{AllByRecursion, Row, column, overlay, Output, output_cmp, Chosen, State, Executes, col, Trees, Null, Int, Text, one_step, IsSound, Datatype, Enforced, IsSureAnswer, Eq, output_cmp_total, put_row, cast_row, numbered, put_all, with_rowid, IsKeyedBy, next_key, all_map, all_of, ascending-map, filter_none, map-map, second_of_both, sorted_unique, puts-map, at_ints, last_term, Attributes, Schema1, are_rising, is_number, rowid_in, PlacedRow, placed_row_in, placed_row, meta_row, meta_row_of, next_in, type_number, value_text, AreRows, same_place, attributes, schema_1, meta, schema_2, sources}
use Rattle.std.proofs.lemmas.List.Sums.{fold-append}
use Rattle.sqlite_rules.specs.Edit.{edit_of}
use Rattle.xa_store.specs.declared.schema.migration.MigrationStep.{MigrationStep}
use Rattle.xa_store.specs.declared.schema.migration.MigrationStep.TheVariants as steps
use Rattle.xa_store.specs.keeping.Check.{HasRowids}
use Rattle.xa_store.specs.keeping.Migration.{IsAfter, IsBefore, IsSoundSchema1, moved_rows, migration_statement}
use Rattle.xa_store.specs.keeping.Texts as text
use Rattle.xa_store.proofs.ActionLemmas.{works_of_coming}
use Rattle.xa_store.proofs.AreRowsLemmas.{sources_of_schema_1_are}
use Rattle.xa_store.proofs.HoldLemmas.{of_other}
use Rattle.xa_store.proofs.LastLemmas.{keyed_last, stands_last}
use Rattle.xa_store.proofs.MadeTexts.{all_made, sources_is}
use Rattle.xa_store.proofs.MakingLemmas.{came}
use Rattle.xa_store.proofs.MigratingTexts.{empty_attributes_is, attributes_emptied_query, filled_collations, filled_given, filled_query, set_schema_is, schema_raised_query, schema_raised_shown, copy_attributes_is}
use Rattle.xa_store.proofs.OrderLemmas.{out_by_rowid, sorted_is}
use Rattle.xa_store.proofs.OursLemmas.{found, in_kind}
use Rattle.xa_store.proofs.ReadLemmas.{numbers_read, rising}
use Rattle.xa_store.proofs.RootRowLemmas.{meta_is}
use Rattle.xa_store.proofs.SqlLemmas.{answered, hits}
use Rattle.xa_store.proofs.StepLemmas.{cast_int, cast_null, meta_cast}
use Rattle.xa_store.proofs.TableLemmas.{deletes, inserts_from, updates}
use Rattle.xa_store.proofs.TextLemmas.{is_one}
use Rattle.xa_store.proofs.WriteLemmas.{next_rowid_is, row_updated, rows_removed}

-- ---- what is known of tables of schema 1 that are sound

abbrev rowid_of : PlacedRow → ℤ
rowid_of a = a.rowid

module _ (first : Trees) (sound : IsSoundSchema1 first) where
  abbrev next : ℤ
  next = (found Schema1 first sound.opens).0

  pub its_meta : first 0 ≡ meta_row_of (pos 1) next ∷ []
  its_meta = meta_is Schema1 next schema_1 first (sound.database.obeys.rules Datatype).0 (found Schema1 first sound.opens).1

  pub its_rows : AreRows placed_row placed_row_in rowid_of same_place (first 8)
  its_rows = sources_of_schema_1_are first next sound.database (in_kind Schema1 first next (found Schema1 first sound.opens).2).1.1.1.1.0

  numbers : HasRowids Attributes first
  numbers =
      subst (AllByRecursion (λ row. is_number (column row 0) ≡ true)) (sym its_rows.written)
      (all_map (λ row. is_number (column row 0) ≡ true) placed_row (map placed_row_in (first 8)) (all_of _ (λ a. refl) (map placed_row_in (first 8))))

  up : are_rising (map rowid_in (first 8)) ≡ true
  up =
      ap are_rising (sym (numbers_read Attributes (first 8)))
      ∙ second_of_both _ _ (in_kind Schema1 first next (found Schema1 first sound.opens).2).1.1.1.1.0

-- ---- the rows in the table of sources

-- a row as it is moved, and all of them
abbrev pub moved : ℕ → PlacedRow → PlacedRow
moved k a = record { rowid = pos k; number = a.number; place = a.place; row = record a.row { issuer = None }; is_full = true }

abbrev pub all_moved : ℕ → List PlacedRow → List PlacedRow
all_moved k [] = []
all_moved k (a ∷ rest) = moved k a ∷ all_moved (k + 1) rest

pub moved_written : (k : ℕ) (rest : List PlacedRow) → moved_rows k (map placed_row rest) ≡ map placed_row (all_moved k rest)
moved_written k [] = refl
moved_written k (a ∷ rest) = ap (λ l. placed_row (moved k a) ∷ l) (moved_written (k + 1) rest)

-- what the query shows of a row
abbrev given : Row → Row
given r = Null ∷ column r 1 ∷ column r 2 ∷ column r 3 ∷ column r 4 ∷ column r 5 ∷ column r 6 ∷ column r 7 ∷ Null ∷ []

given_cast : (a : PlacedRow) → cast_row sources (given (placed_row a)) ≡ given (placed_row a)
given_cast a = λ i.
    cast_null i ∷ cast_int a.number i ∷ cast_int a.place i ∷ Text a.row.category ∷ Text a.row.entity ∷ Text a.row.attribute_id ∷ cast_int (type_number a.row.value) i ∷ Text (value_text a.row.value)
    ∷ Null ∷ []

-- after some that are there under the rowids below k
module _ (done : List PlacedRow) (k : ℕ) (rise : IsKeyedBy rowid_of done) (free : next_key rowid_of done ≡ pos k) (a : PlacedRow) where
  numbered_next : with_rowid Chosen (map placed_row done) (cast_row sources (given (placed_row a))) ≡ placed_row (moved k a)
  numbered_next =
      ap (with_rowid Chosen (map placed_row done)) (given_cast a)
      ∙ ap
      (λ n. Int n ∷ Int a.number ∷ Int a.place ∷ Text a.row.category ∷ Text a.row.entity ∷ Text a.row.attribute_id ∷ Int (type_number a.row.value) ∷ Text (value_text a.row.value) ∷ Null ∷ [])
      (next_rowid_is placed_row rowid_of (λ _. refl) done ∙ free)

  put_next : put_row (placed_row (moved k a)) (map placed_row done) ≡ map placed_row (done ++ moved k a ∷ [])
  put_next =
      puts-map rowid_of placed_row (λ _. refl) (moved k a ∷ []) done
      ∙ ap (map placed_row) (stands_last rowid_of same_place (λ _. Unit {0}) done (moved k a) rise (sym free))

  up_next : IsKeyedBy rowid_of (done ++ moved k a ∷ [])
  up_next = keyed_last rowid_of same_place (λ _. Unit {0}) done (moved k a) rise (sym free)

  next_next : next_key rowid_of (done ++ moved k a ∷ []) ≡ pos (k + 1)
  next_next = fold-append (λ _ x. rowid_of x +ℤ pos 1) (pos 1) done (moved k a ∷ [])

all_numbered : (rest done : List PlacedRow) (k : ℕ) → IsKeyedBy rowid_of done → next_key rowid_of done ≡ pos k
    → numbered Chosen (map placed_row done) (map (λ r. cast_row sources (given r)) (map placed_row rest)) ≡ map placed_row (all_moved k rest)
all_numbered [] done k rise free = refl
all_numbered (a ∷ rest) done k rise free =
    let it = numbered_next done k rise free a in
    let more = map (λ r. cast_row sources (given r)) (map placed_row rest) in
    ap (λ r. r ∷ numbered Chosen (put_row r (map placed_row done)) more) it
    ∙ ap (λ rows. placed_row (moved k a) ∷ numbered Chosen rows more) (put_next done k rise free a)
    ∙ ap (λ l. placed_row (moved k a) ∷ l) (all_numbered rest (done ++ moved k a ∷ []) (k + 1) (up_next done k rise free a) (next_next done k rise free a))

all_put : (rest done : List PlacedRow) (k : ℕ) → IsKeyedBy rowid_of done → next_key rowid_of done ≡ pos k
    → put_all (map placed_row done) (map placed_row (all_moved k rest)) ≡ map placed_row (done ++ all_moved k rest)
all_put [] done k rise free = ap (map placed_row) (sym (append-nil done))
all_put (a ∷ rest) done k rise free =
    ap (λ rows. put_all rows (map placed_row (all_moved (k + 1) rest))) (put_next done k rise free a)
    ∙ all_put rest (done ++ moved k a ∷ []) (k + 1) (up_next done k rise free a) (next_next done k rise free a)
    ∙ ap (map placed_row) (append_assoc done (moved k a ∷ []) (all_moved (k + 1) rest))

-- ---- the steps

module _ (first : Trees) (sound : IsSoundSchema1 first) (old new : State) (count : ℕ) where
  abbrev db : Trees
  db = old.now.trees

  abbrev xs : List PlacedRow
  xs = map placed_row_in (first 8)

  -- the rows that the query gives, in their order
  rows_given : db 8 ≡ first 8 → (rows : List Row) → IsSureAnswer filled_query (overlay db []) [] rows → rows ≡ map given (map placed_row xs)
  rows_given there rows answer =
      let it = sorted_is 8 filled_given filled_collations db refl rows answer in
      let out = out_by_rowid 8 filled_given filled_collations db refl in
      let same = subst (λ l. IsPermutation (map out l) it.0) there it.1 in
      let strict = ascending-map (λ x y. output_cmp filled_query x y ≡ Less) out (first 8) (rising Attributes first (first 8) (numbers first sound) (up first sound)) in
      it.3 ∙ ap (map (λ (o : Output). o.1)) (sorted_unique (output_cmp filled_query) (output_cmp_total filled_query) (map out (first 8)) it.0 strict same it.2)
      ∙ map-map (λ (o : Output). o.1) out (first 8) ∙ ap (map given) (its_rows first sound).written

  filled : IsBefore steps.Rows first old.now → Executes text.copy_attributes [] old new (Ok count) → IsAfter steps.Rows first new.now
  filled before h =
      let adds = inserts_from text.copy_attributes [] old new before.schema 6 sources refl count _ refl refl copy_attributes_is h in
      let rows = rows_given before.attributes adds.0 adds.1.answer in
      let edit = edit_of db sources [] Chosen 0 adds.0 in
      let it = one_step schema_2 Enforced db new.now.trees edit (works_of_coming 10 edit.news) adds.2.edited in
      let news : edit.news ≡ map placed_row (all_moved 1 xs) =
      ap (λ l. numbered Chosen (db 10) (map (cast_row sources) l)) rows ∙ ap (numbered Chosen (db 10)) (map-map (cast_row sources) given (map placed_row xs))
      ∙ ap (λ l. numbered Chosen l (map (λ r. cast_row sources (given r)) (map placed_row xs))) before.sources ∙ all_numbered xs [] 1 tt refl in
      let stays = of_other 10 (λ t. new.now.trees t ≡ db t) it.others in
      record {
        schema = adds.2.schema;
        database = subst (λ schema. IsSound schema new.now.trees) (sym adds.2.schema) adds.2.database;
        meta = stays 0 refl ∙ before.meta;
        attributes = stays 8 refl ∙ before.attributes;
        sources =
            it.rows ∙ ap (λ l. put_all (db 10) l) news ∙ ap (λ l. put_all l (map placed_row (all_moved 1 xs))) before.sources ∙ all_put xs [] 1 tt refl
            ∙ sym (moved_written 1 xs) ∙ ap (moved_rows 1) (sym (its_rows first sound).written);
        others = (stays 1 refl ∙ before.others.0, (stays 3 refl ∙ before.others.1.0, (stays 5 refl ∙ before.others.1.1.0, (stays 7 refl ∙ before.others.1.1.1.0, tt))));
      }

  emptied : IsBefore steps.Attributes first old.now → Executes text.empty_attributes [] old new (Ok count) → IsAfter steps.Attributes first new.now
  emptied before h =
      let edits = deletes text.empty_attributes [] old new before.schema 5 attributes refl count attributes_emptied_query empty_attributes_is h in
      let answer = answered 8 [] (col 1 0 ∷ []) [] db refl [] edits.rows edits.answer.answer in
      let there : db 8 ≡ map placed_row xs = before.attributes ∙ (its_rows first sound).written in
      let wrote = rows_removed placed_row rowid_of (λ _. refl) attributes db new.now.trees xs there (its_rows first sound).rise [] (col 1 0 ∷ []) refl [] (λ _. true) (all_of _ (λ _. refl) xs)
      (λ _. refl) refl edits.rows answer edits.edited in
      let stays = of_other 8 (λ t. new.now.trees t ≡ db t) wrote.others in
      record {
        schema = edits.schema;
        database = subst (λ schema. IsSound schema new.now.trees) (sym edits.schema) edits.database;
        meta = stays 0 refl ∙ before.meta;
        attributes = wrote.rows ∙ ap (map placed_row) (filter_none (λ _. false) xs (all_of _ (λ _. refl) xs));
        sources = stays 10 refl ∙ before.sources;
        others = (stays 1 refl ∙ before.others.0, (stays 3 refl ∙ before.others.1.0, (stays 5 refl ∙ before.others.1.1.0, (stays 7 refl ∙ before.others.1.1.1.0, tt))));
      }

  raised : IsBefore steps.Number first old.now → Executes text.set_schema [] old new (Ok count) → IsAfter steps.Number first new.now
  raised before h =
      let n = next first sound in
      let write : ℤ → Row = λ schema. meta_row_of schema n in
      let edits = updates text.set_schema [] old new before.schema 0 meta refl count schema_raised_query set_schema_is h in
      let answer = answered 0 (is_one 0 ∷ []) schema_raised_shown [] db refl [] edits.rows edits.answer.answer in
      let hit : AllByRecursion (λ (schema : ℤ). hits 0 (is_one 0 ∷ []) schema_raised_shown [] db refl [] (meta_row_of schema n) ≡ true) (pos 1 ∷ []) = (last_term (at_ints false Eq (pos 1) (pos 1)), tt) in
      let wrote = row_updated write (λ _. pos 1) (λ _. refl) meta db new.now.trees (pos 1 ∷ []) (before.meta ∙ its_meta first sound) (tt, tt) (is_one 0 ∷ []) schema_raised_shown refl [] (λ _. true) hit
      (λ _. pos 2) (λ _. Int (pos 1) ∷ Null ∷ Int (pos 2) ∷ Int n ∷ []) (λ _. refl) (λ _. meta_cast n) (λ _. refl) (omega arith) edits.rows answer edits.edited in
      let stays = of_other 0 (λ t. new.now.trees t ≡ db t) wrote.others in
      record {
        schema = edits.schema;
        database = subst (λ schema. IsSound schema new.now.trees) (sym edits.schema) edits.database;
        meta = wrote.rows ∙ ap (λ k. meta_row k ∷ []) (sym (ap next_in (its_meta first sound)));
        attributes = stays 8 refl ∙ before.attributes;
        sources = stays 10 refl ∙ before.sources;
        others = (stays 1 refl ∙ before.others.0, (stays 3 refl ∙ before.others.1.0, (stays 5 refl ∙ before.others.1.1.0, (stays 7 refl ∙ before.others.1.1.1.0, tt))));
      }

  added : IsBefore steps.Sources first old.now → Executes text.create_sources [] old new (Ok count) → IsAfter steps.Sources first new.now
  added before h =
      let it = came schema_1 text.create_sources sources sources_is refl old new before.schema count h in
      record {
        schema = it.schema_is ∙ all_made;
        database = it.sound;
        meta = it.others.0 ∙ before.meta;
        attributes = it.others.1.1.1.1.1.0 ∙ before.attributes;
        sources = it.empty;
        others = (it.others.1.0 ∙ before.others.0, (it.others.1.1.0 ∙ before.others.1.0, (it.others.1.1.1.0 ∙ before.others.1.1.0, (it.others.1.1.1.1.0 ∙ before.others.1.1.1.0, tt))));
      }

pub taken : (step : MigrationStep) (first : Trees) → IsSoundSchema1 first → (old new : State) (count : ℕ) → IsBefore step first old.now → Executes (migration_statement step) [] old new (Ok count) → IsAfter step first new.now
taken steps.Sources first sound old new count before h = added first sound old new count before h
taken steps.Rows first sound old new count before h = filled first sound old new count before h
taken steps.Attributes first sound old new count before h = emptied first sound old new count before h
taken steps.Number first sound old new count before h = raised first sound old new count before h
