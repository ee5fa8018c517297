-- A change in its transaction: from the steps to the commit.
use Rattle.std.proofs.Common.{◌≡◌, ◌⊎◌, inl, inr, List, true, false, Result, Ok, Err, IsTrue, OnErr, OnOk, refl, sym, ap, subst, ◌∙◌, arith}
use Rattle.xa_store.proofs.Common.{both_ways, Database, Held, state, State, HasCleanDisk, KeepsCommit, Survives, Ghosts, Trees, Error, Failure, HaveWrittenRows, IsOurDatabase, IsKeepersStore, Rests, SameNow, rows_of}
use Rattle.sqlite.specs.Steps.{FailsToCommit}
use Rattle.xa_store.specs.declared.step.Step.{Step}
use Rattle.xa_store.specs.keeping.Steps.{AllowsAll}
use Rattle.xa_store.specs.keeping.Execution.{Committed, IsInside, Took, Holds, Runs}

module _ {S : Type 0} (g : Ghosts S) (old mid last : Held S) (steps : List Step) where
  abbrev begun : State
  begun = state g (record old { in_transaction = true })

  module _ (survived : Survives begun (state g mid) (λ _. ⊥)) (kept : HasCleanDisk (state g mid) → IsTrue begun.in_transaction → KeepsCommit begun (state g mid))
      (took : HasCleanDisk (state g mid) → IsInside begun → AllowsAll steps (rows_of begun.now.trees) → Took steps begun (state g mid))
      (commits : Survives (state g mid) (state g last) (λ db. db ≡ (state g mid).now.trees)) where
    clean_before : HasCleanDisk (state g last) → HasCleanDisk (state g mid)
    clean_before clean = omega (arith, commits.clean)

    clean_first : HasCleanDisk (state g last) → HasCleanDisk (state g old)
    clean_first clean = omega (arith, survived.clean, commits.clean)

    inside : IsKeepersStore (state g old) → IsInside begun
    inside ours = record { inside = refl; schema = ours.rests.schema; database = ours.database; tables = ours.tables }

    all_taken : HasCleanDisk (state g last) → IsKeepersStore (state g old) → AllowsAll steps (rows_of (state g old).now.trees) → Took steps begun (state g mid)
    all_taken clean ours allows = took (clean_before clean) (inside ours) allows

    left : HasCleanDisk (state g last) → IsKeepersStore (state g old) → AllowsAll steps (rows_of (state g old).now.trees) → (db : Trees) → (state g last).may_leave db → (state g old).may_leave db ⊎ Holds steps (rows_of (state g old).now.trees) db
    left clean ours allows db may = elim (commits.crash clean db may) [
      | inl earlier ↦ elim (survived.crash (clean_before clean) db earlier) [ inl first ↦ inl first | inr none ↦ absurd none ]
      | inr is ↦
          let all = all_taken clean ours allows in
          inr (record { database = subst IsOurDatabase (sym is) all.within.database; tables = subst HaveWrittenRows (sym is) all.within.tables; rows = ap rows_of is ∙ all.rows })
    ]

    ran : {X : Type 0} (x : X)
        → (HasCleanDisk (state g last) → Committed (state g mid) (state g last))
        → Runs steps (state g old) (state g last) (Ok x)
    ran x shown = record {
      was_open = λ clean up. (kept (clean_before clean) refl).was_open (shown clean).1.was_open;
      clean = clean_first;
      made = λ clean up ours allows.
          let shows = (shown clean).1 in
          let all = all_taken clean ours allows in
          let trees = ap (λ (d : Database). d.trees) shows.now_is in
          record {
            is_open = shows.is_open;
            rests = record { schema = ap (λ (d : Database). d.schema) shows.now_is ∙ all.within.schema; settled = shows.now_is ∙ sym shows.committed_is; idle = shows.mode };
            holds = record { database = subst IsOurDatabase (sym trees) all.within.database; tables = subst HaveWrittenRows (sym trees) all.within.tables; rows = ap rows_of trees ∙ all.rows };
          };
      same = λ clean rests up. tt;
      crash = λ clean up ours allows. left clean ours allows;
    }

    not_committed : {X : Type 0} (f : Failure) → (HasCleanDisk (state g mid) → IsTrue (state g mid).in_transaction) → (state g last).in_transaction ≡ false
        → (HasCleanDisk (state g last) → (e : Error) × FailsToCommit (state g mid) (state g last) e) → Runs {X = X} steps (state g old) (state g last) (Err f)
    not_committed f goes_on ended failed = record {
      was_open = λ clean up. (kept (clean_before clean) refl).was_open (open_before (failed clean).0 clean up (failed clean).1);
      clean = clean_first;
      made = λ clean up ours allows. tt;
      same = λ clean rests up. undone (failed clean).0 clean rests up (failed clean).1;
      crash = λ clean up ours allows. left clean ours allows;
    }
      where
        open_before : (e : Error) → HasCleanDisk (state g last) → IsTrue (state g last).is_open → FailsToCommit (state g mid) (state g last) e → IsTrue (state g mid).is_open
        open_before e clean up (inl h) = h.3.was_open up
        open_before e clean up (inr h) = h.2.0.was_open

        undone : (e : Error) → HasCleanDisk (state g last) → Rests (state g old) → IsTrue (state g last).is_open → FailsToCommit (state g mid) (state g last) e → SameNow (state g old) (state g last)
        undone e clean rests up (inl h) =
            let back = h.3.undone up in
            let committed = (kept (clean_before clean) refl).committed (h.3.was_open up) in
            record { now = back.0 ∙ committed ∙ sym rests.settled; committed = back.1 ∙ committed; idle = ended }
        undone e clean rests up (inr h) = absurd (both_ways _ h.1 (goes_on (clean_before clean)))

    -- whatever the commit answers
    pub run_ended : (r : Result (Unit {0}) Failure) → (HasCleanDisk (state g mid) → IsTrue (state g mid).in_transaction) → (state g last).in_transaction ≡ false
        → (HasCleanDisk (state g last) → OnOk r (Committed (state g mid) (state g last))) → (HasCleanDisk (state g last) → OnErr r ((e : Error) × FailsToCommit (state g mid) (state g last) e))
        → Runs steps (state g old) (state g last) r
    run_ended (Ok x) goes_on ended commits fails = ran x commits
    run_ended (Err f) goes_on ended commits fails = not_committed f goes_on ended fails
