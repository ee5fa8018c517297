-- What a change does to a connection: it is planned by queries, and then its steps are taken in one transaction.
use Rattle.std.specs.Prelude.{◌≡◌, ◌⊎◌, ℕ, List, Result, Ok, Err, IsTrue}
use Rattle.sqlite.specs.Held.{Held, state}
use Rattle.sqlite.specs.State.{State, HasCleanDisk}
use Rattle.sqlite.specs.Store.{Ghosts}
use Rattle.sqlite.specs.Tree.{Trees}
use Rattle.xa_records.specs.declared.refusal.ChangeError.{ChangeError}
use Rattle.xa_records.specs.declared.refusal.ChangeError.TheVariants.{Failed, Refused}
use Rattle.xa_records.specs.declared.refusal.Failure.{Failure}
use Rattle.xa_records.specs.Changes.{Change}
use Rattle.xa_records.specs.Keeper.{Changes, IfAnswered}
use Rattle.xa_records.specs.Kept.{IsMade, state_of}
use Rattle.xa_store.specs.declared.step.Step.{Step}
use Rattle.xa_store.specs.Meaning.{Rows, kept_of, rows_now, kept_in}
use Rattle.xa_store.specs.Sound.{AreNumbered, HaveSoundColumns, IsKeepersStore, OpensSoundly}
use Rattle.xa_store.specs.keeping.Steps.{after_all, AllowsAll}

-- the steps make the change of the domain of that name, and may be taken
pub record Plans (steps : List Step) (change : Change) (name : List ℕ) (rows : Rows) : Type 0 where
  pub allows : AllowsAll steps rows
  pub made : IsMade change name (kept_of rows) (kept_of (after_all steps rows))
  pub numbered : AreNumbered (after_all steps rows)
  pub whole : HaveSoundColumns rows → HaveSoundColumns (after_all steps rows)

-- the plan of a change, or why it is refused
abbrev pub IsPlanned : Change → List ℕ → Rows → Result (List Step) ChangeError → Type 0
IsPlanned change name rows (Ok steps) = Plans steps change name rows
IsPlanned change name rows (Err (Refused e)) = change (state_of name (kept_of rows)) ≡ Err e
IsPlanned change name rows (Err (Failed failure)) = Unit {0}

module _ {S : Type 0} (g : Ghosts S) where
  -- the change is planned by what our tables held
  abbrev pub PlansIn : Change → List ℕ → Held S → Held S → Result (List Step) ChangeError → Type 0
  PlansIn change name old new result =
      HasCleanDisk (state g new) → IsKeepersStore (state g old) → IsPlanned change name (rows_now (state g old)) result

abbrev pub answer_of : Result (Unit {0}) Failure → Result (Unit {0}) ChangeError
answer_of (Ok x) = Ok x
answer_of (Err failure) = Err (Failed failure)

-- An open connection was open before, and a clean one clean. Over our tables the change was made, or is refused, or
-- the call has failed; the tables are ours again, and a crash leaves what it might have left before, or our tables
-- with the change made.
pub record Turns {X : Type 0} (change : Change) (name : List ℕ) (old new : State) (result : Result X ChangeError)
    : Type 0 where
  pub was_open : HasCleanDisk new → IsTrue new.is_open → IsTrue old.is_open
  pub clean : HasCleanDisk new → HasCleanDisk old
  pub does : HasCleanDisk new → IsKeepersStore old → IsTrue new.is_open
      → Changes (kept_in old.now.trees) (kept_in new.now.trees) result name change
  pub ours : HasCleanDisk new → IsKeepersStore old → IsTrue new.is_open → IsKeepersStore new
  pub stays : HasCleanDisk new → IsKeepersStore old → IfAnswered result (IsTrue new.is_open)
  pub leaves : HasCleanDisk new → IsKeepersStore old → (db : Trees) → new.may_leave db
      → old.may_leave db ⊎ (OpensSoundly db × IsMade change name (kept_in old.now.trees) (kept_in db))
