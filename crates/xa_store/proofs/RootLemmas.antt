-- What the query for a root finds.
use Rattle.std.proofs.Common.{◌≡◌, ℕ, zero, suc, ℤ, List, [], ◌∷◌, map, Bool, int_eq, Option, option_and_then, refl, sym}
use Rattle.xa_store.proofs.Common.{Row, column, State, Shown, Trees, Int, Text, IsPlain, understood, Term, col, reads_as, all_of, bytes_of, or_null, unless_null, null_back, DocumentKind, Reference, read_pattern, read_version, RootRow, root_row, root_in, result_ok, kind_number, text_at, IsKeepersStore, schema_2, rows_of, state_at}
use Rattle.xa_store.specs.keeping.Lookup.{FindsOne}
use Rattle.xa_store.specs.Rows.{reference_of}
use Rattle.xa_store.specs.keeping.Columns.{TellsOne, root_told}
use Rattle.xa_store.specs.keeping.Texts.{show_root}
use Rattle.xa_store.proofs.FoundLemmas.{finds_one, found_is}
use Rattle.xa_store.proofs.HitLemmas.{root_hit}
use Rattle.xa_store.proofs.SqlLemmas.{Answered, answered}
use Rattle.xa_store.proofs.ColumnNumbers.{of_kind}
use Rattle.xa_store.proofs.TextLemmas.{is, show_root_is}

pub root_plain : IsPlain (understood schema_2 show_root)
root_plain = show_root_is.2

text_back : (text : Option (List ℕ)) → unless_null bytes_of (or_null Text text) ≡ text
text_back = null_back Text bytes_of (λ a. refl) (λ a. refl)

-- a text is shown as it is kept, and none if the row lacks the column
text_shown : (texts : List (Option (List ℕ))) (at : ℕ) → unless_null bytes_of (column (map (or_null Text) texts) at) ≡ text_at texts at
text_shown [] at = refl
text_shown (text ∷ texts) zero = text_back text
text_shown (text ∷ texts) (suc at) = text_shown texts at

abbrev show_root_row : RootRow → Row
show_root_row r =
    Int (kind_number r.kind) ∷ Text r.id ∷ column (map (or_null Text) r.texts) 0 ∷ column (map (or_null Text) r.texts) 1 ∷ column (map (or_null Text) r.texts) 2 ∷ []

abbrev made_of : DocumentKind → List ℕ → Option (List ℕ) → Option (List ℕ) → Option (List ℕ) → Reference
made_of kind id pattern earliest latest = record {
  kind = kind;
  id = id;
  version = option_and_then (λ text. result_ok (read_pattern text)) pattern;
  earliest = option_and_then (λ text. result_ok (read_version text)) earliest;
  latest = option_and_then (λ text. result_ok (read_version text)) latest;
}

root_back : (r : RootRow) → root_told (show_root_row r) ≡ reference_of r
unfolding reference_of
root_back r = λ i. made_of ((of_kind r.kind).back i) r.id (text_shown r.texts 0 i) (text_shown r.texts 1 i) (text_shown r.texts 2 i)

module _ (old new : State) (number : ℤ) (ours : IsKeepersStore old) (rows : List Row) (shown : Shown show_root (Int number ∷ []) old new rows) where
  abbrev db : Trees
  db = old.now.trees

  abbrev columns : List Term
  columns = col 1 2 ∷ col 1 3 ∷ col 1 4 ∷ col 1 5 ∷ col 1 6 ∷ []

  abbrev of_number : RootRow → Bool
  of_number r = int_eq r.number number

  answer : Answered 7 (is 0 0 ∷ []) columns [] db refl (Int number ∷ []) rows
  answer =
      answered 7 (is 0 0 ∷ []) columns [] db refl (Int number ∷ []) rows
      (reads_as show_root (Int number ∷ []) old new schema_2 ours.rests.schema _ show_root_is.0 show_root_is.2 show_root_is.1 rows shown).answer

  pub root_found : (o : Option Reference) → TellsOne root_told rows o → FindsOne of_number reference_of (rows_of db).roots o
  root_found =
      finds_one 7 (is 0 0 ∷ []) columns [] db refl (Int number ∷ []) root_row root_in ours.tables.roots.written of_number (all_of _ (root_hit number db) (map root_in (db 7))) root_told reference_of
      (all_of _ root_back _) rows answer

  pub root_read : (o : Option Reference) → TellsOne root_told rows o → o ≡ (state_at (rows_of db) number).root
  root_read o tell = sym (found_is of_number reference_of (rows_of db).roots o (root_found o tell))
