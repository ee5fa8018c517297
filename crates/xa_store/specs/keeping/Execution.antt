-- What the steps of a change do in their transaction. These words speak of states. That a function gives back the
-- reference that it was lent stands beside them (`same_reference`), since it is said of the reference itself.
use Rattle.std.specs.Prelude.{◌≡◌, ◌⊎◌, ℕ, false, List, [], ◌∷◌, Option, Result, Ok, IsTrue, OnOk, OnErr}
use Rattle.sqlite.specs.Held.{Held, state}
use Rattle.sqlite.specs.Order.{Row}
use Rattle.sqlite.specs.State.{State, Executes, HasCleanDisk, KeepsCommit, KeepsCounts, Shows, Survives}
use Rattle.sqlite.specs.Steps.{FailsToCommit}
use Rattle.sqlite.specs.Store.{Ghosts}
use Rattle.sqlite.specs.Tree.{Trees}
use Rattle.sqlite.specs.declared.error.Error.{Error}
use Rattle.sqlite.specs.declared.types.Value.{Value}
use Rattle.sqlite.specs.declared.types.Value.TheVariants.{Text}
use Rattle.sqlite_typed.specs.Columns.{or_null}
use Rattle.xa_records.specs.declared.refusal.Failure.{Failure}
use Rattle.xa_store.specs.declared.step.Step.{Step}
use Rattle.xa_store.specs.Meaning.{Rows, rows_of}
use Rattle.xa_store.specs.Sound.{HaveWrittenRows, IsKeepersStore, IsOurDatabase, Rests, SameNow}
use Rattle.xa_store.specs.keeping.Steps.{Allows, AllowsAll, after_all}
use Rattle.xa_store.specs.Tables.{schema_2}

-- a text as a column holds it
abbrev pub text_column : Option (List ℕ) → Value
text_column = or_null Text

-- a transaction over our tables
pub record IsInside (s : State) : Type 0 where
  pub inside : IsTrue s.in_transaction
  pub schema : s.now.schema ≡ schema_2
  pub database : IsOurDatabase s.now.trees
  pub tables : HaveWrittenRows s.now.trees

-- the steps were taken one after another, and the transaction goes on
pub record Took (steps : List Step) (old new : State) : Type 0 where
  pub within : IsInside new
  pub rows : rows_of new.now.trees ≡ after_all steps (rows_of old.now.trees)

-- A statement in a transaction. A crash now leaves what one might have left before; nothing is committed, and after
-- success the transaction goes on.
pub record StaysInside {X : Type 0} (old new : State) (result : Result X Failure) : Type 0 where
  pub survives : Survives old new (λ _. ⊥)
  pub kept : HasCleanDisk new → IsTrue old.in_transaction → KeepsCommit old new
  pub inside : HasCleanDisk new → IsTrue old.in_transaction → OnOk result (IsTrue new.in_transaction)

-- after success the step was taken, if the rows allow it
abbrev pub Takes : {X : Type 0} → Step → State → State → Result X Failure → Type 0
Takes step old new result =
    HasCleanDisk new → IsInside old → Allows step (rows_of old.now.trees) → OnOk result (Took (step ∷ []) old new)

-- a statement took the step in the transaction
pub record IsTaken {X : Type 0} (step : Step) (old new : State) (result : Result X Failure) : Type 0 where
  pub stays : StaysInside old new result
  pub takes : Takes step old new result

module _ {S : Type 0} (g : Ghosts S) where
  -- `StaysInside`, of the connection before and after
  abbrev pub StaysInsideOver : {X : Type 0} → Held S → Held S → Result X Failure → Type 0
  StaysInsideOver old new result = StaysInside (state g old) (state g new) result

  -- `IsTaken`, of the connection before and after
  abbrev pub IsTakenBy : {X : Type 0} → Step → Held S → Held S → Result X Failure → Type 0
  IsTakenBy step old new result = IsTaken step (state g old) (state g new) result

  -- the statement ran with what it was given
  abbrev pub Ran : List ℕ → Row → Held S → Held S → Type 0
  Ran sql given old new = (count : ℕ) × Executes sql given (state g old) (state g new) (Ok count)

-- the tables hold the rows that the steps leave
pub record Holds (steps : List Step) (before : Rows) (db : Trees) : Type 0 where
  pub database : IsOurDatabase db
  pub tables : HaveWrittenRows db
  pub rows : rows_of db ≡ after_all steps before

-- all the steps were taken, and committed
pub record Made (steps : List Step) (old new : State) : Type 0 where
  pub is_open : IsTrue new.is_open
  pub rests : Rests new
  pub holds : Holds steps (rows_of old.now.trees) new.now.trees

-- the transaction was committed with what it held
abbrev pub Committed : State → State → Type 0
Committed old new =
    IsTrue old.in_transaction × Shows old new old.now old.now false × KeepsCounts old new × (new.marks ≡ [])

module _ {S : Type 0} (g : Ghosts S) where
  -- `Committed`, of the connection before and after
  abbrev pub CommittedOver : Held S → Held S → Type 0
  CommittedOver old new = Committed (state g old) (state g new)

  -- `FailsToCommit`, of the connection before and after
  abbrev pub FailsToCommitOver : Held S → Held S → Error → Type 0
  FailsToCommitOver old new = FailsToCommit (state g old) (state g new)

-- All the steps were taken or none of them, also over a crash.
pub record Runs {X : Type 0} (steps : List Step) (old new : State) (result : Result X Failure) : Type 0 where
  pub was_open : HasCleanDisk new → IsTrue new.is_open → IsTrue old.is_open
  pub clean : HasCleanDisk new → HasCleanDisk old
  pub made : HasCleanDisk new → IsTrue old.is_open → IsKeepersStore old → AllowsAll steps (rows_of old.now.trees)
      → OnOk result (Made steps old new)
  pub same : HasCleanDisk new → Rests old → IsTrue new.is_open → OnErr result (SameNow old new)
  pub crash : HasCleanDisk new → IsTrue old.is_open → IsKeepersStore old → AllowsAll steps (rows_of old.now.trees)
      → (db : Trees) → new.may_leave db → old.may_leave db ⊎ Holds steps (rows_of old.now.trees) db
