-- A connection that is opened over what a crash has left of another.
use Rattle.std.specs.Prelude.{◌≡◌, ◌⊎◌, Ok, IsTrue}
use Rattle.sqlite.specs.State.{State, HasCleanDisk, Survives, Opens as IsJustOpened}
use Rattle.xa_records.specs.Kept.{Kept}
use Rattle.xa_store.specs.declared.schema.version.SchemaVersion.TheVariants.{Schema2}
use Rattle.xa_store.specs.Meaning.{kept_in}
use Rattle.xa_store.specs.Opened.{opened}
use Rattle.xa_store.specs.Opening.{AreNewTables, IsBlank, IsMigrated, MayLeaveTables}
use Rattle.xa_store.specs.Sound.{LeavesKept, Rests, RestsIn}
use Rattle.xa_store.specs.Tables.{schema_1}

-- a connection was just opened, over trees that a crash of the other may leave
pub record IsOverRest (crashed new : State) : Type 0 where
  pub fresh : IsJustOpened new
  pub left : crashed.may_leave new.committed.trees

-- a crash of the connection doesn't leave just anything
abbrev pub LeavesNotAll : State → Type 0
LeavesNotAll s = (other : Kept) × ¬ LeavesKept s other

-- a connection rests on our tables, which opening finds sound, and they mean one of those maps that a crash may leave
pub record Resumes (crashed new : State) : Type 0 where
  pub rests : Rests new
  pub opens : opened Schema2 new.now.trees ≡ Ok tt
  pub kept : LeavesKept crashed (kept_in new.now.trees)

-- a connection over what a crash of the other has left resumes it
abbrev pub Reopens : State → State → Type 0
Reopens crashed new = IsOverRest crashed new → LeavesNotAll crashed → Resumes crashed new

-- ---- a stop inside opening

-- opening a connection, which was open, has left it so: it was stopped at a call of the disk, or has answered
pub record HasBegunOpening (old left : State) : Type 0 where
  pub was_open : IsTrue old.is_open
  pub clean : HasCleanDisk left
  pub leaves : Survives old left (MayLeaveTables old)

-- a connection has the tables of another, or all that opening makes of these: so opening it gives the domains that
-- opening the other gives. Tables of schema 2 are as they were, those of schema 1 may mean the same in schema 2, and
-- where there were none there may be new ones
pub record HasTablesOrMade (old new : State) : Type 0 where
  pub second : Rests old → Rests new × (new.now.trees ≡ old.now.trees)
  pub first : RestsIn schema_1 old
      → (RestsIn schema_1 new × (new.now.trees ≡ old.now.trees))
      ⊎ (Rests new × IsMigrated old.committed.trees new.now.trees)
  pub blank : IsBlank old → IsBlank new ⊎ (Rests new × AreNewTables new.now.trees)

-- a connection over what a crash leaves of one that was being opened has its tables, or all that opening makes of them
abbrev pub OpensOnceMore : State → State → State → Type 0
OpensOnceMore old left new = HasBegunOpening old left → IsOverRest left new → HasTablesOrMade old new
