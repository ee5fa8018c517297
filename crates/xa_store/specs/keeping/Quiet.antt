-- What a call that only reads leaves of a connection, and what it tells of the rows.
use Rattle.std.specs.Prelude.{ℕ, List, Result, IfOk, IsTrue, OnOk}
use Rattle.sqlite.specs.Held.{Held, state}
use Rattle.sqlite.specs.Order.{Row}
use Rattle.sqlite.specs.State.{State, FailsToQuery, HasCleanDisk, Shown}
use Rattle.sqlite.specs.Store.{Ghosts}
use Rattle.sqlite.specs.Tree.{Trees}
use Rattle.sqlite.specs.declared.error.Error.{Error}
use Rattle.xa_records.specs.declared.refusal.ChangeError.{ChangeError}
use Rattle.xa_records.specs.Keeper.{IfAnswered}
use Rattle.xa_store.specs.Meaning.{Rows, rows_now}
use Rattle.xa_store.specs.Sound.{IsKeepersStore, Rests, SameNow}

-- An open connection was open before, and a clean one clean. Over our tables it holds what it held, and a crash now
-- leaves what one might have left before.
pub record Quiet (old new : State) : Type 0 where
  pub was_open : IsTrue new.is_open → IsTrue old.is_open
  pub clean : HasCleanDisk new → HasCleanDisk old
  pub same : HasCleanDisk new → Rests old → IsTrue new.is_open → SameNow old new
  pub crash : HasCleanDisk new → Rests old → (db : Trees) → new.may_leave db → old.may_leave db

-- a call that only reads: if it is answered, the store is open
pub record OnlyReads {X E : Type 0} (old new : State) (result : Result X E) : Type 0 where
  pub quiet : Quiet old new
  pub opens : HasCleanDisk new → OnOk result (IsTrue new.is_open)

-- a call that only reads for a change: if it is answered, be it by a refusal, the store is open
pub record OnlyReadsForChange {X : Type 0} (old new : State) (result : Result X ChangeError) : Type 0 where
  pub quiet : Quiet old new
  pub opens : HasCleanDisk new → IfAnswered result (IsTrue new.is_open)

module _ {S : Type 0} (g : Ghosts S) where
  -- `Shown`, of the connection before and after
  abbrev pub ShownOver : List ℕ → Row → Held S → Held S → List Row → Type 0
  ShownOver sql given old new = Shown sql given (state g old) (state g new)

  -- `FailsToQuery`, of the connection before and after
  abbrev pub FailsToQueryOver : List ℕ → Row → Held S → Held S → Error → Type 0
  FailsToQueryOver sql given old new = FailsToQuery sql given (state g old) (state g new)

  -- `OnlyReads`, of the connection before and after
  abbrev pub OnlyReadsOver : {X E : Type 0} → Held S → Held S → Result X E → Type 0
  OnlyReadsOver old new result = OnlyReads (state g old) (state g new) result

  -- `OnlyReadsForChange`, of the connection before and after
  abbrev pub OnlyReadsForChangeOver : {X : Type 0} → Held S → Held S → Result X ChangeError → Type 0
  OnlyReadsForChangeOver old new result = OnlyReadsForChange (state g old) (state g new) result

  -- the claim holds of the rows, if the tables are ours
  abbrev pub OverRows : Held S → Held S → (Rows → Type 0) → Type 0
  OverRows old new claim = HasCleanDisk (state g new) → IsKeepersStore (state g old) → claim (rows_now (state g old))

  -- what was read, if it was, stands so to the rows, if the tables are ours
  abbrev pub ReadsRows : {X E : Type 0} → Held S → Held S → Result X E → (Rows → X → Type 0) → Type 0
  ReadsRows old new result reads =
      HasCleanDisk (state g new) → IsKeepersStore (state g old) → IfOk result (reads (rows_now (state g old)))
