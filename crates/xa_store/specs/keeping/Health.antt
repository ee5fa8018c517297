-- What a keeper tells of a call: after a failure it has looked whether its store is open.
use Rattle.std.specs.Prelude.{◌≡◌, ℕ, Bool, true, false, if◌then◌else◌, Result, Err, IsTrue, OnOk}
use Rattle.sqlite.specs.Order.{Row}
use Rattle.sqlite.specs.State.{State, HasCleanDisk, IsNotRun}
use Rattle.sqlite.specs.Tree.{Trees}
use Rattle.sqlite.specs.declared.error.Error.TheVariants.{SqliteFailure}
use Rattle.sqlite.specs.declared.error.ErrorCode.{ErrorCode}
use Rattle.xa_records.specs.declared.refusal.ChangeError.{ChangeError}
use Rattle.xa_records.specs.declared.refusal.ChangeError.TheVariants.{Failed}
use Rattle.xa_records.specs.declared.refusal.Failure.{Failure}
use Rattle.xa_records.specs.declared.refusal.Failure.TheVariants.{Memory, Store}
use Rattle.xa_records.specs.Keeper.{CountsChange, CountsReading, IfAnswered, IsOneMore}
use Rattle.xa_store.specs.keeping.Texts.{no_statement}
use Rattle.xa_store.specs.Sound.{Rests, SameNow}

-- A call that only looks. An open connection was open before, and a clean one clean; it holds what it held, and a
-- crash now leaves what one might have left before.
pub record Looks (old new : State) : Type 0 where
  pub was_open : IsTrue new.is_open → IsTrue old.is_open
  pub clean : HasCleanDisk new → HasCleanDisk old
  pub same : HasCleanDisk new → Rests old → IsTrue new.is_open → SameNow old new
  pub crash : HasCleanDisk new → (db : Trees) → new.may_leave db → old.may_leave db

-- a look has failed: its text was not even refused as one that is no statement
abbrev pub FailsToLook : State → State → Type 0
FailsToLook old new = (code : ErrorCode) × ((params : Row) → IsNotRun old new no_statement params (SqliteFailure code))

-- what a look saw, by whether it tells that the store is open: it is; or the look has failed
abbrev pub Sees : State → State → Bool → Type 0
Sees old new true = HasCleanDisk new → IsTrue new.is_open
Sees old new false = HasCleanDisk new → FailsToLook old new

-- a failure is counted if it is told as one of the store, and no other
abbrev pub CountsFailure : ℕ → ℕ → Failure → Type 0
CountsFailure old new Memory = new ≡ old
CountsFailure old new Store = IsOneMore old new

-- What is told of a failure that an open keeper met, once a look at the store has told whether the keeper is open
-- still: if it is, what it met; if it isn't, that the store failed.
pub record TellsFailure (old new : State) (after : Bool) (faults next : ℕ) (met told : Failure) : Type 0 where
  pub answers : told ≡ (if after then met else Store)
  pub counts : CountsFailure faults next told
  pub sees : Sees old new after

-- What is told of a reading. A keeper that is shut, be it before or by this call, tells that its store failed.
pub record TellsReading {X : Type 0} (old new : State) (before after : Bool) (faults next : ℕ)
    (read told : Result X Failure) : Type 0 where
  pub looks : Looks old new
  pub answers : told ≡ (if after then read else Err Store)
  pub counts : CountsReading faults next told
  pub was_open : IsTrue after → IsTrue before
  -- the store of an open keeper is open: after a failure it was looked at; after success it is if it was
  pub stays : HasCleanDisk new → IsTrue after → OnOk told (IsTrue old.is_open) → IsTrue new.is_open
  -- only a look that failed shuts the keeper
  pub shuts : IsTrue before → after ≡ false → HasCleanDisk new → FailsToLook old new

-- what is told of a change, as of a reading; a refusal is no failure
pub record TellsChange {X : Type 0} (old new : State) (before after : Bool) (faults next : ℕ)
    (done told : Result X ChangeError) : Type 0 where
  pub looks : Looks old new
  pub answers : told ≡ (if after then done else Err (Failed Store))
  pub counts : CountsChange faults next told
  pub was_open : IsTrue after → IsTrue before
  pub stays : HasCleanDisk new → IsTrue after → IfAnswered told (IsTrue old.is_open) → IsTrue new.is_open
  pub shuts : IsTrue before → after ≡ false → HasCleanDisk new → FailsToLook old new
