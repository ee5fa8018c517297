-- A change that was planned by queries and then run.
use Rattle.std.proofs.Common.{◌≡◌, ◌⊎◌, inl, inr, ℕ, List, Result, Ok, Err, IsTrue, IfErr, IfOk, sym, ap, subst, ◌∙◌}
use Rattle.xa_store.proofs.Common.{Database, Held, state, Ghosts, State, HasCleanDisk, Trees, ChangeError, Failure, Change, IfAnswered, IsMade, AreDocuments, AreNumbered, OpensSoundly, HaveSoundColumns, IsKeepersStore, SameNow, Rows, rows_of, kept_of, kept_in}
use Rattle.xa_records.specs.declared.refusal.ChangeError.TheVariants.{Failed, Refused}
use Rattle.xa_store.specs.declared.step.Step.{Step}
use Rattle.xa_store.specs.keeping.Quiet.{Quiet}
use Rattle.xa_store.specs.keeping.Steps.{AllowsAll}
use Rattle.xa_store.specs.keeping.Execution.{Holds, Made, Runs}
use Rattle.xa_store.specs.keeping.Turns.{IsPlanned, Plans, Turns, answer_of}
use Rattle.xa_store.proofs.QuietLemmas.{ours_after}
use Rattle.xa_store.proofs.ReopenLemmas.{tables_open}
use Rattle.xa_store.proofs.TextsKept.{documents_kept}

module _ (change : Change) (name : List ℕ) (old mid new : State) (quiet : Quiet old mid) where
  -- a change that isn't made
  pub unmade : (Y : Type 0) (planned : ChangeError) → (HasCleanDisk mid → IfAnswered {X = Y} (Err planned) (IsTrue mid.is_open)) → (HasCleanDisk mid → IsKeepersStore old → IsPlanned change name (rows_of old.now.trees) (Err planned))
      → {X : Type 0} → Turns {X = X} change name old mid (Err planned)
  unmade Y (Refused e) opens planned = record {
    was_open = λ clean up. quiet.was_open up;
    clean = quiet.clean;
    does = λ clean ours up. (planned clean ours, ap (λ (d : Database). kept_in d.trees) (quiet.same clean ours.rests up).now);
    ours = λ clean ours up. ours_after old mid ours (quiet.same clean ours.rests up);
    stays = λ clean ours. opens clean;
    leaves = λ clean ours db may. inl (quiet.crash clean ours.rests db may);
  }
  unmade Y (Failed failure) opens planned = record {
    was_open = λ clean up. quiet.was_open up;
    clean = quiet.clean;
    does = λ clean ours up. ap (λ (d : Database). kept_in d.trees) (quiet.same clean ours.rests up).now;
    ours = λ clean ours up. ours_after old mid ours (quiet.same clean ours.rests up);
    stays = λ clean ours. tt;
    leaves = λ clean ours db may. inl (quiet.crash clean ours.rests db may);
  }

  module _ (steps : List Step) (opens : HasCleanDisk mid → IsTrue mid.is_open) (planned : HasCleanDisk mid → IsKeepersStore old → Plans steps change name (rows_of old.now.trees)) where
    same_rows : (same : SameNow old mid) → rows_of mid.now.trees ≡ rows_of old.now.trees
    same_rows same = ap (λ (d : Database). rows_of d.trees) same.now

    made_of : Plans steps change name (rows_of old.now.trees) → (db : Trees) → Holds steps (rows_of old.now.trees) db → IsMade change name (kept_in old.now.trees) (kept_in db)
    made_of plan db holds = subst (λ rows. IsMade change name (kept_in old.now.trees) (kept_of rows)) (sym holds.rows) plan.made

    module _ (clean : HasCleanDisk mid) (ours : IsKeepersStore old) where
      here : SameNow old mid
      here = quiet.same clean ours.rests (opens clean)

      ours_here : IsKeepersStore mid
      ours_here = ours_after old mid ours here

      allowed : AllowsAll steps (rows_of mid.now.trees)
      allowed = subst (AllowsAll steps) (sym (same_rows here)) (planned clean ours).allows

      held : (db : Trees) → Holds steps (rows_of mid.now.trees) db → Holds steps (rows_of old.now.trees) db
      held db = subst (λ rows. Holds steps rows db) (same_rows here)

      -- the tables after the steps are ours
      documents_after : (db : Trees) → Holds steps (rows_of mid.now.trees) db → AreDocuments (rows_of db).documents
      documents_after db holds = subst (λ (rows : Rows). AreDocuments rows.documents) (sym (held db holds).rows) (documents_kept steps (rows_of old.now.trees) (planned clean ours).allows ours.documents)

      whole_after : (db : Trees) → Holds steps (rows_of mid.now.trees) db → HaveSoundColumns (rows_of db)
      whole_after db holds = subst HaveSoundColumns (sym (held db holds).rows) ((planned clean ours).whole ours.whole)

      ours_made : Made steps mid new → IsKeepersStore new
      ours_made made = record {
        rests = made.rests;
        database = made.holds.database;
        tables = made.holds.tables;
        domains = subst AreNumbered (sym (held new.now.trees made.holds).rows) (planned clean ours).numbered;
        documents = documents_after new.now.trees made.holds;
        whole = whole_after new.now.trees made.holds;
      }

      ours_left : (db : Trees) → Holds steps (rows_of mid.now.trees) db → OpensSoundly db
      ours_left db holds = record { database = holds.database; opens = tables_open db holds.tables (documents_after db holds) (whole_after db holds) }

      left : (db : Trees) → mid.may_leave db ⊎ Holds steps (rows_of mid.now.trees) db → old.may_leave db ⊎ (OpensSoundly db × IsMade change name (kept_in old.now.trees) (kept_in db))
      left db (inl may) = inl (quiet.crash clean ours.rests db may)
      left db (inr holds) = inr (ours_left db holds, made_of (planned clean ours) db (held db holds))

    -- a change that is run
    pub turned : (r : Result (Unit {0}) Failure) → Runs steps mid new r → Turns change name old new (answer_of r)
    turned (Ok x) runs = record {
      was_open = λ clean up. quiet.was_open (runs.was_open clean up);
      clean = λ clean. quiet.clean (runs.clean clean);
      does = λ clean ours up.
          let before = runs.clean clean in
          let made = runs.made clean (opens before) (ours_here before ours) (allowed before ours) in
          made_of (planned before ours) new.now.trees (held before ours new.now.trees made.holds);
      ours = λ clean ours up. let before = runs.clean clean in ours_made before ours (runs.made clean (opens before) (ours_here before ours) (allowed before ours));
      stays = λ clean ours. let before = runs.clean clean in (runs.made clean (opens before) (ours_here before ours) (allowed before ours)).is_open;
      leaves = λ clean ours db may. let before = runs.clean clean in left before ours db (runs.crash clean (opens before) (ours_here before ours) (allowed before ours) db may);
    }
    turned (Err failure) runs = record {
      was_open = λ clean up. quiet.was_open (runs.was_open clean up);
      clean = λ clean. quiet.clean (runs.clean clean);
      does = λ clean ours up.
          let before = runs.clean clean in
          let after = runs.same clean (ours_here before ours).rests up in
          ap (λ (d : Database). kept_in d.trees) (after.now ∙ (here before ours).now);
      ours = λ clean ours up. let before = runs.clean clean in ours_after mid new (ours_here before ours) (runs.same clean (ours_here before ours).rests up);
      stays = λ clean ours. tt;
      leaves = λ clean ours db may. let before = runs.clean clean in left before ours db (runs.crash clean (opens before) (ours_here before ours) (allowed before ours) db may);
    }

-- a plan that is carried out, if there is one
module _ {S : Type 0} (g : Ghosts S) (change : Change) (name : List ℕ) (old mid new : Held S) (quiet : Quiet (state g old) (state g mid)) where
  pub carried : (planned : Result (List Step) ChangeError) → (HasCleanDisk (state g mid) → IfAnswered planned (IsTrue (state g mid).is_open))
      → (HasCleanDisk (state g mid) → IsKeepersStore (state g old) → IsPlanned change name (rows_of (state g old).now.trees) planned) → (result : Result (Unit {0}) ChangeError)
      → IfOk planned (λ steps. (ran : Result (Unit {0}) Failure) × Runs steps (state g mid) (state g new) ran × (result ≡ answer_of ran)) → IfErr planned (λ error. (new ≡ mid) × (result ≡ Err error))
      → Turns change name (state g old) (state g new) result
  carried (Ok steps) opens plans result (ran, runs, is) keeps =
      subst (Turns change name (state g old) (state g new)) (sym is) (turned change name (state g old) (state g mid) (state g new) quiet steps opens plans ran runs)
  carried (Err error) opens plans result runs (same, is) =
      subst (λ h. Turns change name (state g old) (state g h) result) (sym same)
      (subst (λ (r : Result (Unit {0}) ChangeError). Turns change name (state g old) (state g mid) r) (sym is) (unmade change name (state g old) (state g mid) (state g mid) quiet (List Step) error opens plans))

-- what is told of a change, if it was made
abbrev pub told_by : {X : Type 0} → X → Result (Unit {0}) ChangeError → Result X ChangeError
told_by x (Ok done) = Ok x
told_by x (Err error) = Err error

pub told : {X : Type 0} (change : Change) (name : List ℕ) (old new : State) (x : X) (r : Result (Unit {0}) ChangeError) → Turns change name old new r → Turns change name old new (told_by x r)
told change name old new x (Ok done) turns = record { was_open = turns.was_open; clean = turns.clean; does = turns.does; ours = turns.ours; stays = turns.stays; leaves = turns.leaves }
told change name old new x (Err (Refused e)) turns = record { was_open = turns.was_open; clean = turns.clean; does = turns.does; ours = turns.ours; stays = turns.stays; leaves = turns.leaves }
told change name old new x (Err (Failed failure)) turns = record { was_open = turns.was_open; clean = turns.clean; does = turns.does; ours = turns.ours; stays = turns.stays; leaves = turns.leaves }
