-- What the query for a source finds.
use Rattle.std.proofs.Common.{◌≡◌, ℤ, List, [], ◌∷◌, map, Bool, false, Ordering, is_eq, int_eq, int_cmp, refl, ap, ◌∙◌}
use Rattle.xa_store.proofs.Common.{AllByRecursion, Row, column, State, Shown, Trees, Int, Text, IsPlain, understood, Term, col, reads_as, sort_by, all_of, all_weaker, map-map, IsAscending, last_key, value_cmp-Int, PlacedRow, placed_row, placed_row_in, issuer_columns, type_number, value_text, IsKeepersStore, same_place, schema_2, rows_of, state_at, sources_at}
use Rattle.xa_store.specs.keeping.Columns.{source_told}
use Rattle.xa_store.specs.keeping.Texts.{show_source}
use Rattle.xa_store.proofs.FoundLemmas.{found_sorted, map_alike, read_back}
use Rattle.xa_store.proofs.HitLemmas.{source_hit}
use Rattle.xa_store.proofs.OrderedLemmas.{all_among, all_sorted, apart_among, apart_then}
use Rattle.xa_store.proofs.SqlLemmas.{Answered, answered}
use Rattle.xa_store.proofs.TextLemmas.{is, show_source_is}

pub source_plain : IsPlain (understood schema_2 show_source)
source_plain = show_source_is.2

module _ (old new : State) (number : ℤ) (ours : IsKeepersStore old) (rows : List Row) (shown : Shown show_source (Int number ∷ []) old new rows) where
  abbrev db : Trees
  db = old.now.trees

  abbrev columns : List Term
  columns = col 1 3 ∷ col 1 4 ∷ col 1 5 ∷ col 1 6 ∷ col 1 7 ∷ col 1 8 ∷ []

  abbrev of_number : PlacedRow → Bool
  of_number a = int_eq a.number number

  abbrev mine : List PlacedRow
  mine = sources_at (rows_of db).sources number

  abbrev by_place : PlacedRow → PlacedRow → Ordering
  by_place a b = int_cmp a.place b.place

  untied : IsAscending (λ a b. is_eq (by_place a b) ≡ false) mine
  untied =
      apart_among of_number (λ a b. same_place a b ≡ false) (λ a b. is_eq (by_place a b) ≡ false) (λ a b p q h. apart_then a.number b.number number (is_eq (by_place a b)) p q h)
      (map placed_row_in (db 10)) ours.tables.sources.apart

  answer : Answered 10 (is 1 0 ∷ []) columns (2 ∷ []) db refl (Int number ∷ []) rows
  answer =
      answered 10 (is 1 0 ∷ []) columns (2 ∷ []) db refl (Int number ∷ []) rows
      (reads_as show_source (Int number ∷ []) old new schema_2 ours.rests.schema _ show_source_is.0 show_source_is.2 show_source_is.1 rows shown).answer

  abbrev show_row : PlacedRow → Row
  show_row a = Text a.row.category ∷ Text a.row.entity ∷ Text a.row.attribute_id ∷ Int (type_number a.row.value) ∷ Text (value_text a.row.value)
      ∷ column (issuer_columns a.is_full a.row.issuer) 0 ∷ []

  ordered : rows ≡ map show_row (sort_by by_place mine)
  ordered =
      found_sorted 10 (is 1 0 ∷ []) columns (2 ∷ []) db refl (Int number ∷ []) placed_row placed_row_in ours.tables.sources.written of_number (all_of _ (source_hit number db) (map placed_row_in (db 10)))
      by_place (λ a b. last_key (value_cmp-Int a.place b.place)) untied rows answer

  abbrev IsBack : PlacedRow → Type 0
  IsBack a = placed_row_in (placed_row a) ≡ a

  backs : AllByRecursion IsBack (sort_by by_place mine)
  backs =
      all_sorted IsBack by_place mine
      (all_among of_number IsBack IsBack (λ a passes back. back) (map placed_row_in (db 10)) (read_back placed_row placed_row_in (db 10) ours.tables.sources.written))

  pub source_read : map source_told rows ≡ (state_at (rows_of db) number).source
  source_read =
      ap (map source_told) ordered ∙ map-map source_told show_row (sort_by by_place mine)
      ∙ map_alike (λ a. source_told (show_row a)) (λ a. a.row) (sort_by by_place mine) (all_weaker IsBack _ (λ a back. ap (λ (x : PlacedRow). x.row) back) _ backs)
