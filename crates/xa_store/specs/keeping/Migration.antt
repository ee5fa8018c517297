-- How tables of schema 1 are brought into schema 2: statement by statement, in one transaction. `first` are the
-- tables of schema 1.
use Rattle.std.specs.Prelude.{◌≡◌, ℕ, ◌+◌, ℤ, pos, List, [], ◌∷◌, Ok}
use Rattle.std.specs.List.{AllByRecursion}
use Rattle.sqlite.specs.Effect.{Database, IsDatabase}
use Rattle.sqlite.specs.Order.{Row, column}
use Rattle.sqlite.specs.Tree.{Trees}
use Rattle.sqlite.specs.declared.types.Value.TheVariants.{Int, Null}
use Rattle.sqlite_catalog.specs.Listing.{IsSound as ObeysRules}
use Rattle.xa_store.specs.declared.schema.checked_table.CheckedTable.TheVariants.{Domains, Tokens, Documents, Roots}
use Rattle.xa_store.specs.declared.schema.checked_table.CheckedTable.TheVariants.{Attributes, Sources}
use Rattle.xa_store.specs.declared.schema.migration.MigrationStep.{MigrationStep}
use Rattle.xa_store.specs.declared.schema.migration.MigrationStep.TheVariants as step
use Rattle.xa_store.specs.declared.schema.version.SchemaVersion.TheVariants.{Schema1}
use Rattle.xa_store.specs.Opened.{opened}
use Rattle.xa_store.specs.Rows.{meta_row, next_in}
use Rattle.xa_store.specs.Tables.{meta_tree, schema_1, schema_2, tree_of}
use Rattle.xa_store.specs.keeping.Texts as text

-- the statement of the step
abbrev pub migration_statement : MigrationStep → List ℕ
migration_statement step.Sources = text.create_sources
migration_statement step.Rows = text.copy_attributes
migration_statement step.Attributes = text.empty_attributes
migration_statement step.Number = text.set_schema

-- a row of a source as it stands in the table of sources: under another rowid, without an issuer
abbrev pub moved_row : ℤ → Row → Row
moved_row rowid row =
    Int rowid ∷ column row 1 ∷ column row 2 ∷ column row 3 ∷ column row 4 ∷ column row 5 ∷ column row 6
    ∷ column row 7 ∷ Null ∷ []

-- all rows of sources as they stand there, in their order, under rowids that count on from this
abbrev pub moved_rows : ℕ → List Row → List Row
moved_rows rowid [] = []
moved_rows rowid (row ∷ rows) = moved_row (pos rowid) row ∷ moved_rows (rowid + 1) rows

-- the tables of schema 1 and no others, whose rows obey the rules of these tables, and opening finds them sound
pub record IsSoundSchema1 (first : Trees) : Type 0 where
  pub database : ObeysRules schema_1 first
  pub opens : opened Schema1 first ≡ Ok tt

-- the tables that no step touches are as they were
abbrev pub KeepsOthers : Trees → Trees → Type 0
KeepsOthers first db =
    AllByRecursion (λ t. db t ≡ first t)
    (tree_of Domains ∷ tree_of Tokens ∷ tree_of Documents ∷ tree_of Roots ∷ [])

-- a database of schema 2, whose rules it obeys, with these rows in the three tables that the steps touch
pub record Stands (first : Trees) (first_rows left moved : List Row) (db : Database) : Type 0 where
  pub schema : db.schema ≡ schema_2
  pub database : IsDatabase db
  pub meta : db.trees meta_tree ≡ first_rows
  pub attributes : db.trees (tree_of Attributes) ≡ left
  pub sources : db.trees (tree_of Sources) ≡ moved
  pub others : KeepsOthers first db.trees

-- a database of schema 1, whose tables are as they were
pub record HasSchema1 (first : Trees) (db : Database) : Type 0 where
  pub schema : db.schema ≡ schema_1
  pub meta : db.trees meta_tree ≡ first meta_tree
  pub attributes : db.trees (tree_of Attributes) ≡ first (tree_of Attributes)
  pub others : KeepsOthers first db.trees

-- what stands before the step
abbrev pub IsBefore : MigrationStep → Trees → Database → Type 0
IsBefore step.Sources first = HasSchema1 first
IsBefore step.Rows first = Stands first (first meta_tree) (first (tree_of Attributes)) []
IsBefore step.Attributes first =
    Stands first (first meta_tree) (first (tree_of Attributes)) (moved_rows 1 (first (tree_of Attributes)))
IsBefore step.Number first = Stands first (first meta_tree) [] (moved_rows 1 (first (tree_of Attributes)))

-- what stands when all steps are done
abbrev pub IsDone : Trees → Database → Type 0
IsDone first = Stands first (meta_row (next_in (first meta_tree)) ∷ []) [] (moved_rows 1 (first (tree_of Attributes)))

-- what stands after the step
abbrev pub IsAfter : MigrationStep → Trees → Database → Type 0
IsAfter step.Sources = IsBefore step.Rows
IsAfter step.Rows = IsBefore step.Attributes
IsAfter step.Attributes = IsBefore step.Number
IsAfter step.Number = IsDone
