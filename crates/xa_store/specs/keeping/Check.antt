-- How the tables are read and checked when a store is opened: one query for the rows of each, in the order of their
-- rowids, and one for whether the table has them in that order. The schema is either of the two.
use Rattle.std.specs.Prelude.{◌≡◌, ◌≢◌, ◌⊎◌, ℕ, ◌+ℤ◌, ℤ, pos, negsuc, FitsSigned, Bool, true, false, ◌&&◌, List}
use Rattle.std.specs.Prelude.{[], ◌∷◌, ◌++◌, map, int_lt, codes, IsPermutation, IsTrue, if◌then◌else◌, Option, Some}
use Rattle.std.specs.Prelude.{None, option_map, option_and_then, unwrap_or, Result, Ok, Err, OnOk, OnErr, IfOk, IfErr}
use Rattle.std.specs.Int.{w64}
use Rattle.std.specs.List.{AllByRecursion}
use Rattle.std.specs.Ordering.{int_eq}
use Rattle.sqlite.specs.Effect.{IsDatabase}
use Rattle.sqlite.specs.Given.{HasGiven, IsPlain}
use Rattle.sqlite.specs.Listing.{understood}
use Rattle.sqlite.specs.Held.{Held, state}
use Rattle.sqlite.specs.Order.{Row, column}
use Rattle.sqlite.specs.State.{State, HasCleanDisk, IsRolledBack, IsUnchanged, Shown, Shows, Survives}
use Rattle.sqlite.specs.Store.{Ghosts}
use Rattle.sqlite.specs.Tree.{Trees}
use Rattle.sqlite.specs.declared.error.Error.{Error}
use Rattle.sqlite.specs.declared.error.Error.TheVariants.{SqliteFailure, SqlInputError}
use Rattle.sqlite.specs.declared.error.ErrorCode.TheVariants.{NameTaken, OutOfMemory}
use Rattle.xa_store.specs.declared.check.row.SourcePlace.{SourcePlace}
use Rattle.xa_store.specs.declared.error.OpenError.{OpenError}
use Rattle.xa_store.specs.declared.error.OpenError.TheVariants.{NotThisSchema, Damaged, Store, Memory}
use Rattle.xa_store.specs.declared.keeper.tables.Tables.{Tables}
use Rattle.xa_store.specs.declared.schema.checked_table.CheckedTable.{CheckedTable}
use Rattle.xa_store.specs.declared.schema.checked_table.CheckedTable.TheVariants.{Domains, Tokens, Documents, Roots}
use Rattle.xa_store.specs.declared.schema.checked_table.CheckedTable.TheVariants.{Attributes, Sources}
use Rattle.xa_store.specs.declared.schema.version.SchemaVersion.{SchemaVersion}
use Rattle.xa_store.specs.declared.schema.version.SchemaVersion.TheVariants.{Schema1, Schema2}
use Rattle.xa_store.specs.CheckedColumns as shown
use Rattle.xa_store.specs.Keeper.{are_only_ours}
use Rattle.xa_store.specs.Opened.{are_counted, as_read, is_left_empty, place_in, sources_in, are_rising}
use Rattle.xa_store.specs.Opened.{int_in, is_number, is_whole_row, rowid_in, opened, schema_of}
use Rattle.xa_store.specs.Opening.{AreNewTables, GivesOrFails, IsBlank, IsFailure, IsKnown, IsKnownSchema, IsMigrated}
use Rattle.xa_store.specs.Opening.{IsRefusal, MayLeaveTables}
use Rattle.xa_store.specs.Rows.{placed_row, placed_row_in}
use Rattle.xa_store.specs.Sound.{AreRows, IsKeepersStore, Rests, RestsIn, SameNow, same_place}
use Rattle.xa_store.specs.Tables.{schema_1, tree_of}

-- the query of all rows of the table, in the order of their rowids
abbrev pub rows_query : CheckedTable → List ℕ
rows_query Domains = codes "SELECT number, name, epoch FROM domains ORDER BY number"
rows_query Tokens = codes "SELECT rowid, number, digest, role FROM tokens ORDER BY rowid"
rows_query Documents = codes "SELECT rowid, number, kind, id, version, body, active FROM policies ORDER BY rowid"
rows_query Roots = codes "SELECT number, kind, id, pattern, earliest, latest FROM roots ORDER BY number"
rows_query Attributes =
    codes "SELECT rowid, number, place, category, entity, attribute, value_type, value FROM attributes ORDER BY rowid"
rows_query Sources =
    codes "SELECT rowid, number, place, category, entity, attribute, value_type, value, issuer FROM sources ORDER BY rowid"

-- the query that shows a row exactly if the table has its rowids in another order than the rising one: then the
-- texts of both differ. The six texts differ in the name of the table alone.
abbrev pub order_query : CheckedTable → List ℕ
order_query Domains =
    codes "WITH s(n) AS (SELECT rowid FROM domains ORDER BY rowid) SELECT 1 WHERE (SELECT group_concat(rowid) FROM domains) IS NOT (SELECT group_concat(n) FROM s)"
order_query Tokens =
    codes "WITH s(n) AS (SELECT rowid FROM tokens ORDER BY rowid) SELECT 1 WHERE (SELECT group_concat(rowid) FROM tokens) IS NOT (SELECT group_concat(n) FROM s)"
order_query Documents =
    codes "WITH s(n) AS (SELECT rowid FROM policies ORDER BY rowid) SELECT 1 WHERE (SELECT group_concat(rowid) FROM policies) IS NOT (SELECT group_concat(n) FROM s)"
order_query Roots =
    codes "WITH s(n) AS (SELECT rowid FROM roots ORDER BY rowid) SELECT 1 WHERE (SELECT group_concat(rowid) FROM roots) IS NOT (SELECT group_concat(n) FROM s)"
order_query Attributes =
    codes "WITH s(n) AS (SELECT rowid FROM attributes ORDER BY rowid) SELECT 1 WHERE (SELECT group_concat(rowid) FROM attributes) IS NOT (SELECT group_concat(n) FROM s)"
order_query Sources =
    codes "WITH s(n) AS (SELECT rowid FROM sources ORDER BY rowid) SELECT 1 WHERE (SELECT group_concat(rowid) FROM sources) IS NOT (SELECT group_concat(n) FROM s)"

-- the query of the domains and places of the rows of sources
abbrev pub places_query : SchemaVersion → List ℕ
places_query Schema1 = codes "SELECT number, place FROM attributes ORDER BY number, place"
places_query Schema2 = codes "SELECT number, place FROM sources ORDER BY number, place"

-- the schema has the table
abbrev pub has_table : CheckedTable → SchemaVersion → Bool
has_table Sources Schema1 = false
has_table _ _ = true

-- ---- what a call that only reads leaves

-- a connection whose tables aren't those of the schema alone, without a transaction
abbrev pub IsUnguarded : SchemaVersion → State → Type 0
IsUnguarded version s = (s.now.schema ≢ schema_of version) × (s.in_transaction ≡ false)

-- the transaction goes on, and tables that were those of the schema still are
pub record GoesOn (version : SchemaVersion) (old new : State) : Type 0 where
  pub was_open : IsTrue old.is_open
  pub is_open : IsTrue new.is_open
  pub schema : old.now.schema ≡ schema_of version → new.now.schema ≡ schema_of version
  pub mode : new.in_transaction ≡ old.in_transaction

-- a transaction has committed nothing, and if it has ended, all of it is undone
pub record HoldsBack (old new : State) : Type 0 where
  pub committed : new.committed ≡ old.committed
  pub undone : new.in_transaction ≡ false → new.now ≡ old.committed

-- A call that only asks: the connection holds what it held, if its tables are those of the schema, and it commits
-- nothing of a transaction. A crash leaves what it left before.
pub record Asks {X : Type 0} (version : SchemaVersion) (old new : State) (result : Result X OpenError) : Type 0 where
  pub survives : Survives old new (λ db. IsUnguarded version old)
  pub was_open : HasCleanDisk new → IsTrue new.is_open → IsTrue old.is_open
  pub same : HasCleanDisk new → RestsIn (schema_of version) old → IsTrue new.is_open → SameNow old new
  pub held : HasCleanDisk new → IsTrue old.in_transaction → IsTrue new.is_open → HoldsBack old new
  pub goes_on : HasCleanDisk new → OnOk result (GoesOn version old new)

-- what opening answers, if a query of the check fails with that error
abbrev pub error_of_check : Error → OpenError
error_of_check (SqlInputError fault) = NotThisSchema
error_of_check (SqliteFailure NameTaken) = NotThisSchema
error_of_check (SqliteFailure OutOfMemory) = Memory
error_of_check _ = Store

-- the answer tells whether the tables are sound, or want of memory or a failure of the store
abbrev pub TellsSound : Bool → Result (Unit {0}) OpenError → Type 0
TellsSound sound (Ok x) = sound ≡ true
TellsSound sound (Err Damaged) = sound ≡ false
TellsSound sound (Err NotThisSchema) = ⊥
TellsSound sound (Err Store) = Unit {0}
TellsSound sound (Err Memory) = Unit {0}

module _ {S : Type 0} (g : Ghosts S) where
  -- `Asks`, of the connection before and after
  abbrev pub AsksOver : {X : Type 0} → SchemaVersion → Held S → Held S → Result X OpenError → Type 0
  AsksOver version old new result = Asks version (state g old) (state g new) result

  -- the claim holds, if the tables are those of the schema and at rest
  abbrev pub FindsIn : SchemaVersion → Held S → Held S → Type 0 → Type 0
  FindsIn version old new claim = HasCleanDisk (state g new) → RestsIn (schema_of version) (state g old) → claim

-- what the tables hold was checked by a test of them
pub record CheckedBy (version : SchemaVersion) (sound : Trees → Bool) (old new : State)
    (result : Result (Unit {0}) OpenError) : Type 0 where
  pub asks : Asks version old new result
  pub finds : HasCleanDisk new → RestsIn (schema_of version) old → TellsSound (sound old.now.trees) result

-- ---- the rows of one table, in the order of their rowids

-- each row of the table begins with its rowid
abbrev pub HasRowids : CheckedTable → Trees → Type 0
HasRowids table db = AllByRecursion (λ row. is_number (column row shown.rowid) ≡ true) (db (tree_of table))

-- the rows that a query gave are those of the table, and in its order if that rises
pub record IsRead (table : CheckedTable) (db : Trees) (rows : List Row) : Type 0 where
  pub all : IsPermutation (map (as_read table) (db (tree_of table))) rows
  pub ordered : HasRowids table db → are_rising (map rowid_in (map (as_read table) (db (tree_of table)))) ≡ true
      → rows ≡ map (as_read table) (db (tree_of table))

-- the rowid is above the last, if there was one
abbrev pub comes_after : Option ℤ → ℤ → Bool
comes_after None rowid = true
comes_after (Some last) rowid = int_lt last rowid

-- the row is sound, and its rowid above the last
abbrev pub is_next_sound_row : CheckedTable → ℤ → Option ℤ → Row → Bool
is_next_sound_row table next last row = is_whole_row table next row && comes_after last (rowid_in row)

-- each row is sound, and its rowid above that of the row before it
abbrev pub checks : CheckedTable → ℤ → Option ℤ → List Row → Bool
checks table next last [] = true
checks table next last (row ∷ rows) =
    is_next_sound_row table next last row && checks table next (Some (rowid_in row)) rows

-- the rowids are such as a column can hold
abbrev pub AreHeld : List Row → Type 0
AreHeld = AllByRecursion (λ row. FitsSigned w64 (rowid_in row))

-- the answer tells whether all rows of the table are sound and rise, as a query gave them
abbrev pub Walks : CheckedTable → ℤ → Trees → Result (Unit {0}) OpenError → Type 0
Walks table next db (Ok x) =
    (rows : List Row) × IsRead table db rows × (checks table next None rows ≡ true) × AreHeld rows
Walks table next db (Err Damaged) = (rows : List Row) × IsRead table db rows × (checks table next None rows ≡ false)
Walks table next db (Err NotThisSchema) = ⊥
Walks table next db (Err Store) = Unit {0}
Walks table next db (Err Memory) = Unit {0}

-- all rows of the table were walked through
pub record Walked (version : SchemaVersion) (table : CheckedTable) (next : ℤ) (old new : State)
    (result : Result (Unit {0}) OpenError) : Type 0 where
  pub asks : Asks version old new result
  pub finds : HasCleanDisk new → RestsIn (schema_of version) old → Walks table next old.now.trees result

-- a row's rowid is told, if it is a sound row after the last, and else that it is damaged
abbrev pub TellsRowid : CheckedTable → ℤ → Option ℤ → Row → Result ℤ OpenError → Type 0
TellsRowid table next last row (Ok rowid) = (rowid ≡ rowid_in row) × (is_next_sound_row table next last row ≡ true)
TellsRowid table next last row (Err Damaged) = is_next_sound_row table next last row ≡ false
TellsRowid table next last row (Err NotThisSchema) = ⊥
TellsRowid table next last row (Err Store) = Unit {0}
TellsRowid table next last row (Err Memory) = Unit {0}

-- `TellsRowid` of the row at which a query stands, and no rowid at the query's end
abbrev pub TellsNext : CheckedTable → ℤ → Option ℤ → Option Row → Result (Option ℤ) OpenError → Type 0
TellsNext table next last (Some row) (Ok (Some rowid)) = TellsRowid table next last row (Ok rowid)
TellsNext table next last (Some row) (Ok None) = ⊥
TellsNext table next last (Some row) (Err e) = TellsRowid table next last row (Err e)
TellsNext table next last None (Ok (Some rowid)) = ⊥
TellsNext table next last None (Ok None) = Unit {0}
TellsNext table next last None (Err e) = IsFailure e

module _ {S : Type 0} (g : Ghosts S) where
  -- a crash leaves what it left before
  abbrev pub SurvivesOver : Held S → Held S → Type 0
  SurvivesOver old new = Survives (state g old) (state g new) (λ _. ⊥)

  -- the connection holds what it held, or its transaction is undone
  abbrev pub IsKeptOrUndone : Held S → Held S → Type 0
  IsKeptOrUndone old new = IsUnchanged (state g old) (state g new) ⊎ IsRolledBack (state g old) (state g new)

module _ {S : Type 0} (g : Ghosts S) (table : CheckedTable) (next : ℤ) (last : Option ℤ) (old new : Held S) where
  -- the query has given one more row, which is a sound one after the last, or isn't
  abbrev pub GivesRow : Bool → List ℕ → List Row → Option ℤ → Type 0
  GivesRow is sql given rowid =
      (row : Row) × HasGiven g sql [] new (given ++ row ∷ []) × (is_next_sound_row table next last row ≡ is)
      × (rowid ≡ Some (rowid_in row))

  -- the query goes on by one row: that is a sound one after the last; or it isn't; or all rows were given
  abbrev pub Moves : List ℕ → List Row → Result (Option ℤ) OpenError → Type 0
  Moves sql given (Ok (Some rowid)) = GivesRow true sql given (Some rowid)
  Moves sql given (Ok None) = Shown sql [] (state g old) (state g new) given
  Moves sql given (Err Damaged) =
      (row : Row) × HasGiven g sql [] new (given ++ row ∷ []) × (is_next_sound_row table next last row ≡ false)
  Moves sql given (Err NotThisSchema) =
      (version : SchemaVersion) → IsPlain (understood (schema_of version) sql)
      → ¬ RestsIn (schema_of version) (state g old)
  Moves sql given (Err Store) = Unit {0}
  Moves sql given (Err Memory) = Unit {0}

-- ---- the order of the table

-- the answer tells whether the table's rows rise, if it was walked to its end
abbrev pub Orders : CheckedTable → Trees → Result (Unit {0}) OpenError → Type 0
Orders table db result =
    (next : ℤ) → Walks table next db (Ok tt)
    → TellsSound (are_rising (map rowid_in (map (as_read table) (db (tree_of table))))) result

-- ---- the places of the rows of sources

-- the place comes next after the last: the first of a domain is 0
abbrev pub follows : SourcePlace → SourcePlace → Bool
follows last place =
    if int_eq place.domain last.domain then int_eq place.index (last.index +ℤ pos 1) else int_eq place.index (pos 0)

-- a place before the first of any domain
abbrev pub no_place : SourcePlace
no_place = record { domain = negsuc 0; index = negsuc 0 }

-- a row shows a domain and a place
abbrev pub place_told : Row → Option SourcePlace
place_told row =
    option_and_then
    (λ domain. option_map (λ index. record { domain = domain; index = index }) (int_in (column row shown.place_index)))
    (int_in (column row shown.place_domain))

-- the place that a row shows comes next after the last
abbrev pub is_next : SourcePlace → Option SourcePlace → Bool
is_next last None = false
is_next last (Some place) = follows last place

-- each row shows a place that comes after the one before
abbrev pub are_consecutive : SourcePlace → List Row → Bool
are_consecutive last [] = true
are_consecutive last (row ∷ rows) =
    is_next last (place_told row) && are_consecutive (unwrap_or (place_told row) last) rows

-- the rows of sources as a keeper writes them, in the table that the schema has for them
abbrev pub AreSources : SchemaVersion → Trees → Type 0
AreSources version db = AreRows placed_row placed_row_in (λ p. p.rowid) same_place (db (tree_of (sources_in version)))

-- the places of the rows of sources were checked, and whether no such row stands where the schema has none
abbrev pub FindsRest : SchemaVersion → State → State → Result (Unit {0}) OpenError → Type 0
FindsRest version old new result =
    HasCleanDisk new → RestsIn (schema_of version) old → AreSources version old.now.trees
    → TellsSound (are_counted (map place_in (old.now.trees (tree_of (sources_in version))))
    && is_left_empty version old.now.trees) result

-- ---- what the parts of opening answer

-- the number of the next domain, if that is known
abbrev pub GivesNext : Option ℤ → Result ℤ OpenError → Type 0
GivesNext known (Ok next) = known ≡ Some next
GivesNext known (Err NotThisSchema) = known ≡ None
GivesNext known (Err Damaged) = ⊥
GivesNext known (Err Store) = Unit {0}
GivesNext known (Err Memory) = Unit {0}

-- the answer is that of opening, whatever is given beside it
abbrev pub GivesAs : {X : Type 0} → Result X OpenError → Result (Unit {0}) OpenError → Type 0
GivesAs (Ok x) given = given ≡ Ok tt
GivesAs (Err e) given = GivesOrFails (Err e) given

-- all tables were checked
pub record Checked (version : SchemaVersion) (old new : State) (result : Result (Unit {0}) OpenError) : Type 0 where
  pub asks : Asks version old new result
  pub opened : HasCleanDisk new → RestsIn (schema_of version) old → GivesAs result (opened version old.now.trees)
  pub live : HasCleanDisk new → OnOk result (IsDatabase old.now)

-- a connection on which nothing waits for a commit
pub record IsIdle (s : State) : Type 0 where
  pub idle : s.in_transaction ≡ false
  pub settled : IsTrue s.is_open → s.now ≡ s.committed

-- a transaction was begun
pub record Begins (old new : State) (result : Result (Unit {0}) OpenError) : Type 0 where
  pub survives : Survives old new (λ _. ⊥)
  pub begins : HasCleanDisk new → OnOk result (Shows old new old.now old.committed true)
  pub fails : IfErr result IsFailure

-- the transaction that was under way, if there was one, is undone
pub record IsUndone (old new : State) : Type 0 where
  pub was_open : IsTrue new.is_open → IsTrue old.is_open
  pub committed : IsTrue new.is_open → new.committed ≡ old.committed
  pub now : IsTrue new.is_open → new.now ≡ (if old.in_transaction then old.committed else old.now)
  pub idle : new.in_transaction ≡ false

-- a transaction that was under way is undone, after success
pub record Undoes (old new : State) (result : Result (Unit {0}) OpenError) : Type 0 where
  pub survives : Survives old new (λ _. ⊥)
  pub undone : HasCleanDisk new → OnOk result (IsUndone old new)
  pub fails : IfErr result IsFailure

-- a connection at rest, whose tables are those of the schema and sound
pub record IsSoundIn (version : SchemaVersion) (s : State) : Type 0 where
  pub rests : RestsIn (schema_of version) s
  pub database : IsDatabase s.now
  pub opens : opened version s.now.trees ≡ Ok tt

-- a check of these tables tells which they are, or its error
abbrev pub found_as : Tables → Result (Unit {0}) OpenError → Result Tables OpenError
found_as tables (Ok x) = Ok tables
found_as tables (Err e) = Err e

-- All tables were checked, and nothing has changed. Of tables that aren't the schema's alone that is said if the
-- answer is about them.
pub record Tested (version : SchemaVersion) (old new : State) (result : Result Tables OpenError) : Type 0 where
  pub survives : Survives old new (λ _. ⊥)
  pub refused : HasCleanDisk new → IsTrue new.is_open → IfErr result (λ e. IsRefusal e → SameNow old new)
  pub same : HasCleanDisk new → RestsIn (schema_of version) old → IsTrue new.is_open → SameNow old new
  pub opened : HasCleanDisk new → RestsIn (schema_of version) old → GivesAs result (opened version old.now.trees)
  pub known : RestsIn (schema_of version) old → IfOk result (λ tables. IsTrue (are_only_ours tables))
  pub stays : HasCleanDisk new → RestsIn (schema_of version) old → OnOk result (IsTrue new.is_open)
  pub sound : HasCleanDisk new → IfOk result (λ tables. IsTrue (are_only_ours tables) → IsSoundIn version new)
  pub own : IfOk result (λ tables. IsTrue (are_only_ours tables) → old.now.schema ≡ schema_of version)

-- the tables were made, all or none
pub record MakesTables {X : Type 0} (old new : State) (result : Result X OpenError) : Type 0 where
  pub survives : Survives old new (λ db. IsBlank old → AreNewTables db)
  pub made : HasCleanDisk new → IsBlank old → OnOk result (IsTrue new.is_open × Rests new × AreNewTables new.now.trees)
  pub same : HasCleanDisk new → IsBlank old → IsTrue new.is_open → OnErr result (SameNow old new)
  pub fails : IfErr result IsFailure

-- the tables of schema 1 were brought into schema 2, or stay as they were
pub record MigratesTables {X : Type 0} (old new : State) (result : Result X OpenError) : Type 0 where
  pub survives : Survives old new (λ db. IsSoundIn Schema1 old → IsMigrated old.committed.trees db)
  pub migrated : HasCleanDisk new → IsSoundIn Schema1 old
      → OnOk result (IsTrue new.is_open × Rests new × IsMigrated old.committed.trees new.now.trees)
  pub same : HasCleanDisk new → RestsIn schema_1 old → IsTrue new.is_open → OnErr result (SameNow old new)
  pub fails : IfErr result IsFailure

-- what loading answers of tables of schema 2
abbrev pub OpensAs : State → State → Result Tables OpenError → Type 0
OpensAs old new result =
    GivesAs result (opened Schema2 old.now.trees) × IfOk result (λ tables. IsTrue (are_only_ours tables))
    × (IsTrue new.is_open → SameNow old new)

-- what loading answers of tables of schema 1, and what it leaves
abbrev pub MigratesAs : State → State → Result Tables OpenError → Type 0
MigratesAs old new (Ok tables) =
    (opened Schema1 old.now.trees ≡ Ok tt) × IsTrue (are_only_ours tables)
    × IsMigrated old.committed.trees new.now.trees
MigratesAs old new (Err e) =
    GivesOrFails (Err e) (opened Schema1 old.now.trees) × (IsTrue new.is_open → SameNow old new)

-- what loading answers of a store without tables, and what it leaves
abbrev pub MakesAs : State → State → Result Tables OpenError → Type 0
MakesAs old new (Ok tables) = IsTrue (are_only_ours tables) × AreNewTables new.now.trees
MakesAs old new (Err e) = IsTrue new.is_open → SameNow old new ⊎ AreNewTables new.now.trees

-- a store was loaded: its tables were checked, brought into schema 2 or made
pub record Loads (old new : State) (result : Result Tables OpenError) : Type 0 where
  pub survives : Survives old new (MayLeaveTables old)
  pub left : IfErr result (λ e. IsRefusal e → Survives old new (λ _. ⊥))
  pub refused : HasCleanDisk new → IsTrue new.is_open → IfErr result (λ e. IsRefusal e → SameNow old new)
  pub opens : HasCleanDisk new → Rests old → OpensAs old new result
  pub migrates : HasCleanDisk new → RestsIn schema_1 old → MigratesAs old new result
  pub makes : HasCleanDisk new → IsBlank old → MakesAs old new result
  pub fails : IsBlank old → IfErr result IsFailure
  pub ours : HasCleanDisk new → IfOk result (λ tables. IsTrue (are_only_ours tables) → IsKeepersStore new)
  pub stays : HasCleanDisk new → IsKnown old → OnOk result (IsTrue new.is_open)
  pub known : IfOk result (λ tables. IsTrue (are_only_ours tables) → IsKnownSchema old.now.schema)
