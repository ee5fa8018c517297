-- Looking at a store, and what is told after that.
use Rattle.std.proofs.Common.{◌≡◌, inl, inr, ⊎_elim, ℕ, [], List, Bool, true, false, Result, Ok, Err, IfErr, IfOk, IsTrue, refl, ap, subst, ◌∙◌, arith}
use Rattle.std.specs.Prelude.{if◌then◌else◌}
use Rattle.xa_store.proofs.Common.{Row, State, HasCleanDisk, IsUnchanged, Survives, store_error, Error, ChangeError, Failure, Rests, SameNow}
use Rattle.sqlite.specs.State.{IsNotRun}
use Rattle.sqlite.specs.declared.error.Error.TheVariants.{SqliteFailure}
use Rattle.sqlite.specs.declared.error.ErrorCode.{ErrorCode}
use Rattle.sqlite.specs.declared.error.ErrorCode.TheVariants as code
use Rattle.sqlite_trees.specs.declared.error.StoreError.{StoreError}
use Rattle.sqlite_trees.specs.declared.error.StoreError.TheVariants.{OutOfMemory, Io, Corrupt, Full, Broken, Unstorable}
use Rattle.xa_records.specs.declared.refusal.ChangeError.TheVariants.{Failed}
use Rattle.xa_records.specs.declared.refusal.Failure.TheVariants.{Memory, Store}
use Rattle.xa_records.specs.Keeper.{CountsChange, CountsReading}
use Rattle.xa_store.specs.keeping.Health.{CountsFailure, FailsToLook, Looks, Sees, TellsChange, TellsFailure, TellsReading}
use Rattle.xa_store.specs.keeping.Texts.{no_statement}
use Rattle.xa_store.proofs.AskLemmas.{rolled_same, unchanged_same}

-- ---- a statement that is prepared, or isn't

not_run_open : (old new : State) (sql : List ℕ) (params : Row) (e : Error) → IsNotRun old new sql params e → IsTrue new.is_open → IsTrue old.is_open
unfolding IsNotRun
not_run_open old new sql params e (inl h) up = h.1.0.was_open
not_run_open old new sql params e (inr h) up = h.3.was_open up

not_run_same : (old new : State) (sql : List ℕ) (params : Row) (e : Error) → Rests old → IsNotRun old new sql params e → IsTrue new.is_open → SameNow old new
unfolding IsNotRun
not_run_same old new sql params e rests (inl h) up = unchanged_same old new rests h.1
not_run_same old new sql params e rests (inr h) up = rolled_same old new rests h.3 up

-- the store's own errors are codes
code_of : (cause : StoreError) → (code : ErrorCode) × (store_error cause ≡ SqliteFailure code)
code_of OutOfMemory = (code.OutOfMemory, refl)
code_of Io = (code.SystemIoFailure, refl)
code_of Corrupt = (code.DatabaseCorrupt, refl)
code_of Full = (code.DiskFull, refl)
code_of Broken = (code.Closed, refl)
code_of Unstorable = (code.TooBig, refl)

-- a text that is refused for what it is leaves the store open
refused_open : (old new : State) (sql : List ℕ) (params : Row) (e : Error) → ((code : ErrorCode) → ¬ (e ≡ SqliteFailure code)) → IsNotRun old new sql params e → IsTrue new.is_open
unfolding IsNotRun
refused_open old new sql params e other (inl h) = h.1.0.is_open
refused_open old new sql params e other (inr h) = let at = code_of h.0 in absurd (other at.0 (h.1 ∙ at.1))

module _ {X : Type 0} (P : X → Type 0) (old new : State) (sql : List ℕ) where
  prepared_open : (r : Result X Error) → IfOk r (λ x. P x × IsUnchanged old new) → IfErr r (λ e. (params : Row) → IsNotRun old new sql params e) → IsTrue new.is_open → IsTrue old.is_open
  prepared_open (Ok x) fine none up = fine.1.0.was_open
  prepared_open (Err e) none not up = not_run_open old new sql [] e (not []) up

  prepared_same : (r : Result X Error) → Rests old → IfOk r (λ x. P x × IsUnchanged old new) → IfErr r (λ e. (params : Row) → IsNotRun old new sql params e) → IsTrue new.is_open → SameNow old new
  prepared_same (Ok x) rests fine none up = unchanged_same old new rests fine.1
  prepared_same (Err e) rests none not up = not_run_same old new sql [] e rests (not []) up

  pub prepared_looks : (IsTrue new.is_open → HasCleanDisk new) → (r : Result X Error) → (HasCleanDisk new → IfOk r (λ x. P x × IsUnchanged old new))
      → (HasCleanDisk new → IfErr r (λ e. (params : Row) → IsNotRun old new sql params e)) → Survives old new (λ _. ⊥) → Looks old new
  prepared_looks clean_up r ok err survives = record {
    was_open = λ up. let clean = clean_up up in prepared_open r (ok clean) (err clean) up;
    clean = λ clean. omega (arith, survives.clean);
    same = λ clean rests up. prepared_same r rests (ok clean) (err clean) up;
    crash = λ clean db may. ⊎_elim (λ was. was) (λ none. absurd none) (survives.crash clean db may);
  }

  answered_open : (r : Result X Error) → ((code : ErrorCode) → ¬ (r ≡ Err (SqliteFailure code))) → IfOk r (λ x. P x × IsUnchanged old new) → IfErr r (λ e. (params : Row) → IsNotRun old new sql params e)
      → IsTrue new.is_open
  answered_open (Ok x) other fine none = fine.1.0.is_open
  answered_open (Err e) other none not = refused_open old new sql [] e (λ code is. other code (ap Err is)) (not [])

-- a look at the store, by what a text was answered that is no statement
pub prepared_sees : {X : Type 0} (P : X → Type 0) (old new : State) (r : Result X Error) → (HasCleanDisk new → IfOk r (λ x. P x × IsUnchanged old new))
    → (HasCleanDisk new → IfErr r (λ e. (params : Row) → IsNotRun old new no_statement params e)) → (is : Bool) → (IsTrue is → (code : ErrorCode) → ¬ (r ≡ Err (SqliteFailure code)))
    → (is ≡ false → (code : ErrorCode) × (r ≡ Err (SqliteFailure code))) → Sees old new is
prepared_sees P old new r ok err true opened failed = λ clean. answered_open P old new no_statement r (opened refl) (ok clean) (err clean)
prepared_sees {X} P old new r ok err false opened failed = λ clean.
    let at = failed refl in
    (at.0, subst (λ (r2 : Result X Error). IfErr r2 (λ e. (params : Row) → IsNotRun old new no_statement params e)) at.1 (err clean))

-- ---- what is told of a failure

seen_open : (old new : State) (after : Bool) → Sees old new after → HasCleanDisk new → IsTrue after → IsTrue new.is_open
seen_open old new true sees clean on = sees clean
seen_open old new false sees clean on = absurd cc

seen_failed : (old new : State) (after : Bool) → Sees old new after → after ≡ false → HasCleanDisk new → FailsToLook old new
seen_failed old new true sees off clean = absurd cc
seen_failed old new false sees off clean = sees clean

module _ (old new : State) (after : Bool) (faults next : ℕ) (met told : Failure) (looks : Looks old new) (tells : TellsFailure old new after faults next met told) where
  reading_is : {X : Type 0} (b : Bool) → told ≡ (if b then met else Store) → ◌≡◌ {A = Result X Failure} (Err told) (if b then Err met else Err Store)
  reading_is true is = ap Err is
  reading_is false is = ap Err is

  reading_counts : (X : Type 0) (f : Failure) → CountsFailure faults next f → CountsReading {X = X} faults next (Err f)
  reading_counts X Memory counts = counts
  reading_counts X Store counts = counts

  pub failed_reading : {X : Type 0} → TellsReading {X = X} old new true after faults next (Err met) (Err told)
  failed_reading {X} = record {
    looks = looks;
    answers = reading_is after tells.answers;
    counts = reading_counts X told tells.counts;
    was_open = λ on. refl;
    stays = λ clean on none. seen_open old new after tells.sees clean on;
    shuts = λ was off clean. seen_failed old new after tells.sees off clean;
  }

  change_is : {X : Type 0} (b : Bool) → told ≡ (if b then met else Store) → ◌≡◌ {A = Result X ChangeError} (Err (Failed told)) (if b then Err (Failed met) else Err (Failed Store))
  change_is true is = ap (λ f. Err (Failed f)) is
  change_is false is = ap (λ f. Err (Failed f)) is

  change_counts : (X : Type 0) (f : Failure) → CountsFailure faults next f → CountsChange {X = X} faults next (Err (Failed f))
  change_counts X Memory counts = counts
  change_counts X Store counts = counts

  pub failed_change : {X : Type 0} → TellsChange {X = X} old new true after faults next (Err (Failed met)) (Err (Failed told))
  failed_change {X} = record {
    looks = looks;
    answers = change_is after tells.answers;
    counts = change_counts X told tells.counts;
    was_open = λ on. refl;
    stays = λ clean on none. seen_open old new after tells.sees clean on;
    shuts = λ was off clean. seen_failed old new after tells.sees off clean;
  }
