-- Sound rows of the table of roots, and of the first table, are rows that the keeper writes.
use Rattle.std.proofs.Common.{◌≡◌, ◌≤◌, ℤ, pos, Bool, true, false, ◌&&◌, cond, codes, List, [], ◌∷◌, map, length, drop, int_eq, Some, None, refl, sym, ap, ◌∙◌, arith}
use Rattle.xa_store.proofs.Common.{AllByRecursion, is_utf8, Row, column, Schema, Trees, Value, Null, Int, Real, Text, Blob, IsSound, same_int, all_weaker, first_of_both, second_of_both, Datatype, are_typed, passes, int_of, bytes_of, or_null, unless_null, Roots, SchemaVersion, as_read, holds_int, int_in, is_assigned, is_bit, is_pattern, is_version, is_sound_table, is_whole_row, known_next, next_of, number_of, read_meta, RootRow, kind_in, kind_number, meta_row_of, root_in, root_row, AreRows, meta, needed, schema_2, own_key, roots, text_if_any}
use Rattle.sqlite.specs.Kind.TheVariants as kinds
use Rattle.xa_store.proofs.AreRowsLemmas.{rows_alone}
use Rattle.xa_store.proofs.ColumnNumbers.{from_bit}
use Rattle.xa_store.proofs.ShapeLemmas.{by_columns, int_held, key_null, never_int, never_text, row_long, row_short, text_held, text_if_any_held}

-- ---- a row of a table of roots, which may lack its last columns

abbrev IsText : Value → Type 0
IsText v = v ≡ or_null Text (unless_null bytes_of v)

root_cells : (row : Row) → 4 ≤ length row → length row ≤ 7 → IsText (column row 4) → IsText (column row 5) → IsText (column row 6)
    → row ≡ column row 0 ∷ column row 1 ∷ column row 2 ∷ column row 3 ∷ map (or_null Text) (map (unless_null bytes_of) (drop 4 row))
root_cells [] more less p q r = absurd (omega (arith, more))
root_cells (a ∷ []) more less p q r = absurd (omega (arith, more))
root_cells (a ∷ b ∷ []) more less p q r = absurd (omega (arith, more))
root_cells (a ∷ b ∷ c ∷ []) more less p q r = absurd (omega (arith, more))
root_cells (a ∷ b ∷ c ∷ d ∷ []) more less p q r = refl
root_cells (a ∷ b ∷ c ∷ d ∷ e ∷ []) more less p q r = λ i. a ∷ b ∷ c ∷ d ∷ p i ∷ []
root_cells (a ∷ b ∷ c ∷ d ∷ e ∷ f ∷ []) more less p q r = λ i. a ∷ b ∷ c ∷ d ∷ p i ∷ q i ∷ []
root_cells (a ∷ b ∷ c ∷ d ∷ e ∷ f ∷ g ∷ []) more less p q r = λ i. a ∷ b ∷ c ∷ d ∷ p i ∷ q i ∷ r i ∷ []
root_cells (a ∷ b ∷ c ∷ d ∷ e ∷ f ∷ g ∷ h ∷ more_cells) more less p q r = absurd (omega (arith, less))

root_back : (next : ℤ) (row : Row) → are_typed (Some 0) 0 roots.columns (drop 1 row) ≡ true → is_whole_row Roots next (as_read Roots row) ≡ true → row ≡ root_row (root_in row)
root_back next row typed whole =
    let first6 = second_of_both _ _ whole in
    let first5 = first_of_both _ _ first6 in
    let first4 = first_of_both _ _ first5 in
    let first3 = first_of_both _ _ first4 in
    let first2 = first_of_both _ _ first3 in
    let number = int_held (is_assigned next) (column row 0) (first_of_both _ _ first2) in
    let kind = int_held is_bit (column row 2) (second_of_both _ _ first2) in
    let id = text_held is_utf8 (column row 3) (second_of_both _ _ first3) in
    let pattern = text_if_any_held is_pattern (column row 4) (second_of_both _ _ first4) in
    let earliest = text_if_any_held is_version (column row 5) (second_of_both _ _ first5) in
    let latest = text_if_any_held is_version (column row 6) (second_of_both _ _ first6) in
    let less : length row ≤ 7 = row_short (Some 0) roots.columns row typed in
    let more : 4 ≤ length row = row_long row 3 (never_text (column row 3) _ id.0) in
    let null = key_null (own_key (codes "number")) (needed (codes "kind") kinds.Integer ∷ needed (codes "id") kinds.Text ∷ text_if_any (codes "pattern") ∷ text_if_any (codes "earliest") ∷ text_if_any (codes "latest") ∷ []) row typed in
    root_cells row more less pattern earliest latest
    ∙ (λ i. number.0 i ∷ null i ∷ (kind.0 ∙ ap Int (from_bit kind_number kind_in refl refl _ kind.1)) i ∷ id.0 i ∷ map (or_null Text) (map (unless_null bytes_of) (drop 4 row)))

pub roots_are : (db : Trees) (next : ℤ) → IsSound schema_2 db → is_sound_table db next Roots ≡ true → AreRows root_row root_in (λ r. r.number) (λ a b. false) (db 7)
roots_are db next sound h =
    rows_alone Roots next db h root_row root_in (λ (r : RootRow). r.number) (λ a b. false) (λ r. refl) schema_2 sound roots refl (λ P all. all.1.1.1.1.0) (λ r t p w. root_back next r t w)
    (λ a b. refl)

-- ---- the one row of the first table

int_is : (v : Value) (n : ℤ) → int_in v ≡ Some n → v ≡ Int n
int_is Null n h = absurd cc
int_is (Int m) n h = let same : m ≡ n = cc in ap Int same
int_is (Real x) n h = absurd cc
int_is (Text t) n h = absurd cc
int_is (Blob b) n h = absurd cc

number_is : (n : ℤ) (v : Value) → holds_int (int_eq n) v ≡ true → v ≡ Int n
number_is n v h = let held = int_held (int_eq n) v h in held.0 ∙ ap Int (sym (same_int n (int_of v) held.1))

module _ (version : SchemaVersion) (next : ℤ) where
  abbrev IsMetaRow : Row → Type 0
  IsMetaRow row = (column row 0 ≡ Int (pos 1)) × (column row 2 ≡ Int (number_of version)) × (column row 3 ≡ Int next)

  meta_columns : (row : Row) → next_of version (read_meta row) ≡ Some next → IsMetaRow row
  meta_columns row h = go (holds_int (int_eq (pos 1)) (column row 0)) refl (holds_int (int_eq (number_of version)) (column row 2)) refl h
    where
      go : (a : Bool) → holds_int (int_eq (pos 1)) (column row 0) ≡ a → (b : Bool) → holds_int (int_eq (number_of version)) (column row 2) ≡ b → cond (a && b) (int_in (column row 3)) None ≡ Some next
          → IsMetaRow row
      go true id true schema is = (number_is (pos 1) (column row 0) id, number_is (number_of version) (column row 2) schema, int_is (column row 3) next is)
      go true id false schema is = absurd cc
      go false id b schema is = absurd cc

  meta_back : (row : Row) → are_typed (Some 0) 0 meta.columns (drop 1 row) ≡ true → next_of version (read_meta row) ≡ Some next → row ≡ meta_row_of (number_of version) next
  meta_back row typed known =
      let held = meta_columns row known in
      let less : length row ≤ 4 = row_short (Some 0) meta.columns row typed in
      let more = row_long row 3 (never_int (column row 3) _ held.2) in
      let null = key_null (own_key (codes "id")) (needed (codes "schema_no") kinds.Integer ∷ needed (codes "next_number") kinds.Integer ∷ []) row typed in
      by_columns 4 row (omega (arith, less, more)) ∙ (λ i. held.0 i ∷ null i ∷ held.1 i ∷ held.2 i ∷ [])

  meta_rows : (rows : List Row) → AllByRecursion (λ r. are_typed (Some 0) 0 meta.columns (drop 1 r) ≡ true) rows → known_next version (map read_meta rows) ≡ Some next → rows ≡ meta_row_of (number_of version) next ∷ []
  meta_rows [] typed known = absurd cc
  meta_rows (row ∷ []) typed known = ap (λ r. r ∷ []) (meta_back row typed.0 known)
  meta_rows (row ∷ other ∷ rows) typed known = absurd cc

  pub meta_is : (schema : Schema) (db : Trees) → AllByRecursion (λ r. passes Datatype schema db meta r ≡ true) (db 0) → known_next version (map read_meta (db 0)) ≡ Some next
      → db 0 ≡ meta_row_of (number_of version) next ∷ []
  meta_is schema db typed known =
      meta_rows (db 0) (all_weaker (λ r. passes Datatype schema db meta r ≡ true) (λ r. are_typed (Some 0) 0 meta.columns (drop 1 r) ≡ true) (λ r t. first_of_both _ _ t) (db 0) typed) known
