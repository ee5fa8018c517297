-- How the tables are made: step by step, in one transaction.
use Rattle.std.specs.Prelude.{◌≡◌, ℕ, List, [], ◌∷◌}
use Rattle.std.specs.List.{AllByRecursion}
use Rattle.sqlite.specs.Change.{created}
use Rattle.sqlite.specs.Effect.{Database}
use Rattle.sqlite.specs.Schema.{Schema}
use Rattle.xa_store.specs.declared.schema.checked_table.CheckedTable.TheVariants.{Domains, Tokens, Documents, Roots}
use Rattle.xa_store.specs.declared.schema.checked_table.CheckedTable.TheVariants.{Attributes, Sources}
use Rattle.xa_store.specs.declared.schema.creation.CreationStep.{CreationStep}
use Rattle.xa_store.specs.declared.schema.creation.CreationStep.TheVariants as step
use Rattle.xa_store.specs.Opening.{no_tables, AreNewTables}
use Rattle.xa_store.specs.Tables.{meta, domains, tokens, policies, roots, schema_1, schema_2, meta_tree, tree_of}
use Rattle.xa_store.specs.keeping.Texts as text

-- the statement of the step
abbrev pub creation_statement : CreationStep → List ℕ
creation_statement step.Meta = text.create_meta
creation_statement step.Domains = text.create_domains
creation_statement step.Tokens = text.create_tokens
creation_statement step.Policies = text.create_policies
creation_statement step.Roots = text.create_roots
creation_statement step.Attributes = text.create_attributes
creation_statement step.Sources = text.create_sources
creation_statement step.FirstRow = text.add_meta_row

-- ---- the schemas in the making: each has one table more than the one before

abbrev pub with_meta : Schema
with_meta = created no_tables meta

abbrev pub with_domains : Schema
with_domains = created with_meta domains

abbrev pub with_tokens : Schema
with_tokens = created with_domains tokens

abbrev pub with_policies : Schema
with_policies = created with_tokens policies

abbrev pub with_roots : Schema
with_roots = created with_policies roots

-- ---- what stands before a step is taken, and after it

-- the schema under which the step is taken
abbrev pub before : CreationStep → Schema
before step.Meta = no_tables
before step.Domains = with_meta
before step.Tokens = with_domains
before step.Policies = with_tokens
before step.Roots = with_policies
before step.Attributes = with_roots
before step.Sources = schema_1
before step.FirstRow = schema_2

-- the trees of the tables that were made before the step
abbrev pub trees_before : CreationStep → List ℕ
trees_before step.Meta = []
trees_before step.Domains = meta_tree ∷ []
trees_before step.Tokens = meta_tree ∷ tree_of Domains ∷ []
trees_before step.Policies = meta_tree ∷ tree_of Domains ∷ tree_of Tokens ∷ []
trees_before step.Roots = meta_tree ∷ tree_of Domains ∷ tree_of Tokens ∷ tree_of Documents ∷ []
trees_before step.Attributes =
    meta_tree ∷ tree_of Domains ∷ tree_of Tokens ∷ tree_of Documents ∷ tree_of Roots ∷ []
trees_before step.Sources =
    meta_tree ∷ tree_of Domains ∷ tree_of Tokens ∷ tree_of Documents ∷ tree_of Roots ∷ tree_of Attributes ∷ []
trees_before step.FirstRow =
    meta_tree ∷ tree_of Domains ∷ tree_of Tokens ∷ tree_of Documents ∷ tree_of Roots ∷ tree_of Attributes
    ∷ tree_of Sources ∷ []

-- a database of that schema, in which the tables of these trees have no rows
pub record AreEmpty (under : Schema) (trees : List ℕ) (db : Database) : Type 0 where
  pub schema : db.schema ≡ under
  pub empty : AllByRecursion (λ t. db.trees t ≡ []) trees

-- what stands before the step is taken
abbrev pub IsBefore : CreationStep → Database → Type 0
IsBefore step = AreEmpty (before step) (trees_before step)

-- a database in which all steps are taken
pub record AreMade (db : Database) : Type 0 where
  pub schema : db.schema ≡ schema_2
  pub made : AreNewTables db.trees

-- what stands when the step is taken
abbrev pub IsAfter : CreationStep → Database → Type 0
IsAfter step.Meta = IsBefore step.Domains
IsAfter step.Domains = IsBefore step.Tokens
IsAfter step.Tokens = IsBefore step.Policies
IsAfter step.Policies = IsBefore step.Roots
IsAfter step.Roots = IsBefore step.Attributes
IsAfter step.Attributes = IsBefore step.Sources
IsAfter step.Sources = IsBefore step.FirstRow
IsAfter step.FirstRow = AreMade
