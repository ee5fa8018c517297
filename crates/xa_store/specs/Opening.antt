-- What opening a connection as a keeper answers, and what it leaves.
use Rattle.std.specs.Prelude.{◌≡◌, ◌⊎◌, ℕ, pos, Bool, false, ◌&&◌, List, [], ◌∷◌}
use Rattle.std.specs.Prelude.{codes, is_none, if◌then◌else◌, Result, Ok, Err, IsTrue}
use Rattle.sqlite.specs.Held.{Held, state}
use Rattle.sqlite.specs.Schema.{Schema}
use Rattle.sqlite.specs.State.{State, HasCleanDisk, Survives}
use Rattle.sqlite.specs.Store.{Ghosts}
use Rattle.sqlite.specs.Tree.{Trees}
use Rattle.sqlite_schema.specs.Names.{table_named, index_named, view_named}
use Rattle.xa_records.specs.Kept.{nothing_kept}
use Rattle.xa_store.specs.declared.error.OpenError.{OpenError}
use Rattle.xa_store.specs.declared.error.OpenError.TheVariants.{NotThisSchema, Damaged, Store, Memory}
use Rattle.xa_store.specs.declared.schema.checked_table.CheckedTable.{CheckedTable}
use Rattle.xa_store.specs.declared.schema.version.SchemaVersion.{SchemaVersion}
use Rattle.xa_store.specs.declared.schema.version.SchemaVersion.TheVariants.{Schema1, Schema2}
use Rattle.xa_store.specs.Keeper.{Keeper}
use Rattle.xa_store.specs.Meaning.{kept_in, kept_in_schema_1}
use Rattle.xa_store.specs.Opened.{opened}
use Rattle.xa_store.specs.Rows.{meta_row}
use Rattle.xa_store.specs.Sound.{IsOurDatabase, OpensSoundly, Rests, RestsIn, SameNow}
use Rattle.xa_store.specs.Tables.{meta_tree, schema_1, schema_2, tree_of}

abbrev pub no_tables : Schema
no_tables = record { tables = []; indexes = []; views = [] }

-- no table, index or view has that name
abbrev pub is_free : Schema → List ℕ → Bool
is_free schema name =
    is_none (table_named schema name) && is_none (index_named schema name) && is_none (view_named schema name)

-- no table, index or view has the name of one of a keeper's tables, so these can be made
abbrev pub has_room : Schema → Bool
has_room schema =
    is_free schema (codes "meta") && is_free schema (codes "domains") && is_free schema (codes "tokens")
    && is_free schema (codes "policies") && is_free schema (codes "roots") && is_free schema (codes "attributes")
    && is_free schema (codes "sources")

-- which schema a keeper's tables have: schema 1 has nothing named `sources`, and schema 2 has that table
abbrev pub schema_version_in : Schema → SchemaVersion
schema_version_in schema = if is_free schema (codes "sources") then Schema1 else Schema2

-- the schema is one of a keeper's two, or nothing is in it
abbrev pub IsKnownSchema : Schema → Type 0
IsKnownSchema schema = (schema ≡ schema_2) ⊎ ((schema ≡ schema_1) ⊎ (schema ≡ no_tables))

-- a store without tables, in which nothing waits for a commit
pub record IsBlank (s : State) : Type 0 where
  pub schema : s.now.schema ≡ no_tables
  pub settled : s.now ≡ s.committed
  pub idle : s.in_transaction ≡ false

-- the tables as they are made, and no others: without domains, of which the first will have the number 1
pub record AreNewTables (db : Trees) : Type 0 where
  pub database : IsOurDatabase db
  pub meta : db meta_tree ≡ meta_row (pos 1) ∷ []
  pub empty : (table : CheckedTable) → db (tree_of table) ≡ []

-- tables of schema 2 that mean what those of schema 1 meant
pub record IsMigrated (first db : Trees) : Type 0 where
  pub sound : OpensSoundly db
  pub kept : kept_in db ≡ kept_in_schema_1 first

-- the connection holds a keeper's tables, of either schema, or none
abbrev pub IsKnown : State → Type 0
IsKnown s = Rests s ⊎ (RestsIn schema_1 s ⊎ IsBlank s)

-- an answer as the definition gives it, or want of memory or a failure of the store
abbrev pub GivesOrFails : Result (Unit {0}) OpenError → Result (Unit {0}) OpenError → Type 0
GivesOrFails (Err Store) given = Unit {0}
GivesOrFails (Err Memory) given = Unit {0}
GivesOrFails answer given = given ≡ answer

-- the error tells of a call that failed: the store did, or there was no memory
abbrev pub IsFailure : OpenError → Type 0
IsFailure e = (e ≡ Store) ⊎ (e ≡ Memory)

-- the error tells of the tables, and not of a call that failed
abbrev pub IsRefusal : OpenError → Type 0
IsRefusal e = (e ≡ NotThisSchema) ⊎ (e ≡ Damaged)

module _ {S : Type 0} (g : Ghosts S) where
  -- the connection that opening hands back
  abbrev pub held_in : Result (Keeper S) (OpenError × Held S) → Held S
  held_in (Ok k) = k.conn
  held_in (Err e) = e.1

  -- the keeper is one of our tables, told to be open, and no call of it has failed
  pub record IsFresh (k : Keeper S) : Type 0 where
    pub had_only_our_tables : IsTrue k.had_only_our_tables
    pub is_open : IsTrue k.is_open
    pub faults : k.faults ≡ 0

  -- what opening a store with our tables gives: sound ones are taken as they are, and others are left as they are
  abbrev pub Opens : State → Result (Keeper S) (OpenError × Held S) → Type 0
  Opens old (Ok k) =
      HasCleanDisk (state g k.conn)
      → (opened Schema2 old.now.trees ≡ Ok tt) × SameNow old (state g k.conn) × IsFresh k
      × (kept_in (state g k.conn).now.trees ≡ kept_in old.committed.trees)
  Opens old (Err e) =
      HasCleanDisk (state g e.1)
      → GivesOrFails (Err e.0) (opened Schema2 old.now.trees)
      × (IsTrue (state g e.1).is_open → SameNow old (state g e.1))

  -- what opening a store with the tables of schema 1 gives: sound ones are brought into schema 2, and others are left
  -- as they are
  abbrev pub Migrates : State → Result (Keeper S) (OpenError × Held S) → Type 0
  Migrates old (Ok k) =
      HasCleanDisk (state g k.conn)
      → (opened Schema1 old.now.trees ≡ Ok tt) × IsFresh k × IsMigrated old.committed.trees (state g k.conn).now.trees
  Migrates old (Err e) =
      HasCleanDisk (state g e.1)
      → GivesOrFails (Err e.0) (opened Schema1 old.now.trees)
      × (IsTrue (state g e.1).is_open → SameNow old (state g e.1))

  -- what opening a store without tables gives: all are made, or none
  abbrev pub Makes : State → Result (Keeper S) (OpenError × Held S) → Type 0
  Makes old (Ok k) =
      HasCleanDisk (state g k.conn)
      → AreNewTables (state g k.conn).now.trees × IsFresh k × (kept_in (state g k.conn).now.trees ≡ nothing_kept)
  Makes old (Err e) =
      IsFailure e.0 × (IsTrue (state g e.1).is_open → SameNow old (state g e.1) ⊎ AreNewTables (state g e.1).now.trees)

-- the tables are as they were, and a crash leaves nothing that it couldn't leave before
pub record LeavesAlone (old new : State) : Type 0 where
  pub survives : Survives old new (λ _. ⊥)
  pub same : IsTrue new.is_open → SameNow old new

-- what a crash may leave beside what it could leave before: something only if the table of sources can be made; the
-- tables as they are made, if there was none; tables of schema 2 that mean the same, if those of schema 1 were there
abbrev pub MayLeaveTables : State → Trees → Type 0
MayLeaveTables old db =
    IsTrue (is_free old.now.schema (codes "sources")) × (IsBlank old → AreNewTables db)
    × (RestsIn schema_1 old → IsMigrated old.committed.trees db)

-- a crash after it leaves what the keeper holds, in our tables
abbrev pub Settles : {S : Type 0} → Ghosts S → Keeper S → Type 0
Settles g k =
    IsTrue k.had_only_our_tables → IsTrue (state g k.conn).is_open → (db : Trees) → (state g k.conn).may_leave db
    → OpensSoundly db × (kept_in db ≡ kept_in (state g k.conn).now.trees)
