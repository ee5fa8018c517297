-- The tables are made, or brought into schema 2, in a transaction: from the statements to the commit.
use Rattle.std.proofs.Common.{◌≡◌, inl, inr, [], true, false, Result, Ok, Err, OnOk, IfErr, MatchResult, IsErrAnd, IsTrue, refl, sym, subst, ◌∙◌, arith}
use Rattle.xa_store.proofs.Common.{both_ways, Database, Held, state, State, HasCleanDisk, KeepsCommit, KeepsCounts, Shows, Survives, Ghosts, Trees, Error, survives_begin, survives_then, IsSound, OpenError, Schema1, SameNow}
use Rattle.sqlite.specs.Steps.{FailsToCommit}
use Rattle.xa_store.specs.declared.schema.creation.CreationStep.TheVariants as steps
use Rattle.xa_store.specs.keeping.Check.{IsSoundIn, MakesTables, MigratesTables}
use Rattle.xa_store.specs.keeping.Creation.{AreMade, IsBefore}
use Rattle.xa_store.specs.keeping.Migration.{IsDone, HasSchema1, IsSoundSchema1}
use Rattle.xa_store.specs.Opening.{AreNewTables, IsBlank, IsFailure, IsMigrated}
use Rattle.xa_store.proofs.MigratedLemmas.{is_migrated}

module _ {S : Type 0} (g : Ghosts S) (old mid last : Held S) where
  abbrev pub begun : State
  begun = state g (record old { in_transaction = true })

  -- the statements ran, and made that of tables of which this was known
  module _ (survived : Survives begun (state g mid) (λ _. ⊥)) (kept : HasCleanDisk (state g mid) → IsTrue begun.in_transaction → KeepsCommit begun (state g mid))
      (commits : Survives (state g mid) (state g last) (λ db. db ≡ (state g mid).now.trees)) where
    clean_before : HasCleanDisk (state g last) → HasCleanDisk (state g mid)
    clean_before clean = omega (arith, commits.clean)

    module _ (Known : Type 0) (All : Database → Type 0) (makes : HasCleanDisk (state g mid) → IsTrue begun.in_transaction → Known → All (state g mid).now) where
      all_there : HasCleanDisk (state g last) → Known → All (state g mid).now
      all_there clean known = makes (clean_before clean) refl known

      survives : (Left : Trees → Type 0) → (Known → (d : Database) → All d → Left d.trees) → Survives (state g old) (state g last) (λ db. Known → Left db)
      survives Left leaves =
          survives_then (state g old) (state g mid) (state g last) (λ _. ⊥) (λ db. db ≡ (state g mid).now.trees) (λ db. Known → Left db) (λ _ db h. absurd h)
          (λ clean db is known. subst Left (sym is) (leaves known (state g mid).now (all_there clean known))) (survives_begin g old (state g mid) (λ _. ⊥) survived) commits

      all_committed : Shows (state g mid) (state g last) (state g mid).now (state g mid).now false → HasCleanDisk (state g last) → Known → All (state g last).now
      all_committed shows clean known = subst All (sym shows.now_is) (all_there clean known)

    -- or nothing was committed
    undone : (e : Error) → (HasCleanDisk (state g mid) → IsTrue (state g mid).in_transaction) → (state g last).in_transaction ≡ false → (state g old).now ≡ (state g old).committed
        → HasCleanDisk (state g last) → IsTrue (state g last).is_open → FailsToCommit (state g mid) (state g last) e → SameNow (state g old) (state g last)
    undone e goes_on ended settled clean up (inl h) =
        let back = h.3.undone up in
        let committed = (kept (clean_before clean) refl).committed (h.3.was_open up) in
        record { now = back.0 ∙ committed ∙ sym settled; committed = back.1 ∙ committed; idle = ended }
    undone e goes_on ended settled clean up (inr h) = absurd (both_ways _ h.1 (goes_on (clean_before clean)))

    -- ---- the tables as they are made

    module _ (makes : HasCleanDisk (state g mid) → IsTrue begun.in_transaction → IsBefore steps.Meta begun.now → AreMade (state g mid).now) where
      from_blank : HasCleanDisk (state g mid) → IsTrue begun.in_transaction → IsBlank (state g old) → AreMade (state g mid).now
      from_blank clean inside blank = makes clean inside (record { schema = blank.schema; empty = tt })

      leaves_made : Survives (state g old) (state g last) (λ db. IsBlank (state g old) → AreNewTables db)
      leaves_made = survives (IsBlank (state g old)) AreMade from_blank AreNewTables (λ blank d all. all.made)

      pub made : {X : Type 0} (x : X)
          → (HasCleanDisk (state g last) → IsTrue (state g mid).in_transaction × Shows (state g mid) (state g last) (state g mid).now (state g mid).now false × KeepsCounts (state g mid) (state g last) × ((state g last).marks ≡ []))
          → MakesTables (state g old) (state g last) (Ok x)
      made x shown = record {
        survives = leaves_made;
        made = λ clean blank.
            let shows = (shown clean).1 in
            let all = all_committed (IsBlank (state g old)) AreMade from_blank shows clean blank in
            (shows.is_open, record { schema = all.schema; settled = shows.now_is ∙ sym shows.committed_is; idle = shows.mode }, all.made);
        same = λ clean blank up. tt;
        fails = tt;
      }

      pub unmade : {X : Type 0} (f : OpenError) (e : Error) → IsFailure f → (HasCleanDisk (state g mid) → IsTrue (state g mid).in_transaction) → (state g last).in_transaction ≡ false
          → (HasCleanDisk (state g last) → FailsToCommit (state g mid) (state g last) e) → MakesTables {X = X} (state g old) (state g last) (Err f)
      unmade f e is goes_on ended failed =
          record { survives = leaves_made; made = λ clean blank. tt; same = λ clean blank up. undone e goes_on ended blank.settled clean up (failed clean); fails = is }

      -- a commit whose error is told as a failure
      pub made_or_not : (P : Error → OpenError → Type 0) → ((e : Error) (f : OpenError) → P e f → IsFailure f) → (done : Result (Unit {0}) Error) (r : Result (Unit {0}) OpenError) → MatchResult done (λ x. r ≡ Ok x) (λ e. IsErrAnd r (P e))
          → (HasCleanDisk (state g mid) → IsTrue (state g mid).in_transaction) → (state g last).in_transaction ≡ false → (HasCleanDisk (state g last) → OnOk done (IsTrue (state g mid).in_transaction × Shows (state g mid) (state g last) (state g mid).now (state g mid).now false × KeepsCounts (state g mid) (state g last) × ((state g last).marks ≡ [])))
          → (HasCleanDisk (state g last) → IfErr done (FailsToCommit (state g mid) (state g last))) → MakesTables (state g old) (state g last) r
      made_or_not P told (Ok x) r h goes_on ended shown failed = subst (λ (r : Result (Unit {0}) OpenError). MakesTables (state g old) (state g last) r) (sym h) (made x shown)
      made_or_not P told (Err e) (Ok x) h goes_on ended shown failed = absurd h
      made_or_not P told (Err e) (Err f) h goes_on ended shown failed = unmade f e (told e f h) goes_on ended failed

    -- ---- tables of schema 1 in schema 2

    module _ (moves : HasCleanDisk (state g mid) → IsTrue begun.in_transaction → (first : Trees) → IsSoundSchema1 first → HasSchema1 first begun.now → IsDone first (state g mid).now) where
      abbrev first : Trees
      first = (state g old).now.trees

      sound_first : IsSoundIn Schema1 (state g old) → IsSoundSchema1 first
      sound_first sound = record { database = subst (λ schema. IsSound schema first) sound.rests.schema sound.database; opens = sound.opens }

      from_first : HasCleanDisk (state g mid) → IsTrue begun.in_transaction → IsSoundIn Schema1 (state g old) → IsDone first (state g mid).now
      from_first clean inside sound =
          moves clean inside first (sound_first sound) (record { schema = sound.rests.schema; meta = refl; attributes = refl; others = (refl, (refl, (refl, (refl, tt)))) })

      -- what was committed is what the connection held
      is_migrated_from : IsSoundIn Schema1 (state g old) → (d : Database) → IsDone first d → IsMigrated (state g old).committed.trees d.trees
      is_migrated_from sound d done = subst (λ (was : Database). IsMigrated was.trees d.trees) sound.rests.settled (is_migrated first (sound_first sound) d done)

      leaves_migrated : Survives (state g old) (state g last) (λ db. IsSoundIn Schema1 (state g old) → IsMigrated (state g old).committed.trees db)
      leaves_migrated = survives (IsSoundIn Schema1 (state g old)) (IsDone first) from_first (IsMigrated (state g old).committed.trees) is_migrated_from

      pub migrated : {X : Type 0} (x : X)
          → (HasCleanDisk (state g last) → IsTrue (state g mid).in_transaction × Shows (state g mid) (state g last) (state g mid).now (state g mid).now false × KeepsCounts (state g mid) (state g last) × ((state g last).marks ≡ []))
          → MigratesTables (state g old) (state g last) (Ok x)
      migrated x shown = record {
        survives = leaves_migrated;
        migrated = λ clean sound.
            let shows = (shown clean).1 in
            let all = all_committed (IsSoundIn Schema1 (state g old)) (IsDone first) from_first shows clean sound in
            (shows.is_open, record { schema = all.schema; settled = shows.now_is ∙ sym shows.committed_is; idle = shows.mode }, is_migrated_from sound (state g last).now all);
        same = λ clean rests up. tt;
        fails = tt;
      }

      pub unmigrated : {X : Type 0} (f : OpenError) (e : Error) → IsFailure f → (HasCleanDisk (state g mid) → IsTrue (state g mid).in_transaction) → (state g last).in_transaction ≡ false
          → (HasCleanDisk (state g last) → FailsToCommit (state g mid) (state g last) e) → MigratesTables {X = X} (state g old) (state g last) (Err f)
      unmigrated f e is goes_on ended failed =
          record { survives = leaves_migrated; migrated = λ clean sound. tt; same = λ clean rests up. undone e goes_on ended rests.settled clean up (failed clean); fails = is }

      -- a commit whose error is told as a failure
      pub migrated_or_not : (P : Error → OpenError → Type 0) → ((e : Error) (f : OpenError) → P e f → IsFailure f) → (done : Result (Unit {0}) Error) (r : Result (Unit {0}) OpenError) → MatchResult done (λ x. r ≡ Ok x) (λ e. IsErrAnd r (P e))
          → (HasCleanDisk (state g mid) → IsTrue (state g mid).in_transaction) → (state g last).in_transaction ≡ false → (HasCleanDisk (state g last) → OnOk done (IsTrue (state g mid).in_transaction × Shows (state g mid) (state g last) (state g mid).now (state g mid).now false × KeepsCounts (state g mid) (state g last) × ((state g last).marks ≡ [])))
          → (HasCleanDisk (state g last) → IfErr done (FailsToCommit (state g mid) (state g last))) → MigratesTables (state g old) (state g last) r
      migrated_or_not P told (Ok x) r h goes_on ended shown failed = subst (λ (r : Result (Unit {0}) OpenError). MigratesTables (state g old) (state g last) r) (sym h) (migrated x shown)
      migrated_or_not P told (Err e) (Ok x) h goes_on ended shown failed = absurd h
      migrated_or_not P told (Err e) (Err f) h goes_on ended shown failed = unmigrated f e (told e f h) goes_on ended failed
