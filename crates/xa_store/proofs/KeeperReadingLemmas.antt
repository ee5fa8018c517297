-- From what a query does to a connection to what a reading does to the keeper.
use Rattle.std.proofs.Common.{◌≡◌, ℕ, Bool, true, false, Result, Ok, Err, IsTrue, IfOk, OnOk, refl, sym, ap, subst, ◌∙◌}
use Rattle.std.specs.Prelude.{if◌then◌else◌, IsErrOf}
use Rattle.xa_store.proofs.Common.{Database, Held, state, State, HasCleanDisk, Ghosts, Trees, clean_if_open, Failure, Reads, Kept, OpensSoundly, IsSoundStore, IsKeepersStore, SameNow, kept_in}
use Rattle.xa_records.specs.declared.refusal.Failure.TheVariants.{Store}
use Rattle.xa_records.specs.Keeper.{Reading}
use Rattle.xa_store.specs.Keeper.{Keeper, IsKeeper}
use Rattle.xa_store.specs.KeeperReading.{custody_by, kept_by}
use Rattle.xa_store.specs.keeping.Quiet.{Quiet}
use Rattle.xa_store.specs.keeping.Health.{TellsReading}
use Rattle.xa_store.proofs.QuietLemmas.{ours_after}
use Rattle.xa_store.proofs.ReopenLemmas.{are_ours}

-- the trait's word of a reading, if this is to be read of what is kept
abbrev pub IsReading : {S X : Type 0} → Ghosts S → Keeper S → Keeper S → Result X Failure → (Kept → X) → Type 0
IsReading g old new r there = Reading (custody_by g old) (custody_by g new) r (there (kept_by g old))

-- an open store of our tables, of which a crash leaves the last commit
pub sound_store : (s : State) → IsTrue s.is_open → IsKeepersStore s → ((db : Trees) → s.may_leave db → db ≡ s.committed.trees) → IsSoundStore s
sound_store s up ours law = record {
  is_open = up;
  ours = ours;
  settled = λ db may.
      let held : db ≡ s.now.trees = law db may ∙ sym (ap (λ (d : Database). d.trees) ours.rests.settled) in
      (subst OpensSoundly (sym held) (are_ours s ours), ap kept_in held);
}

was_read : {X : Type 0} (old new : Kept) (r : Result X Failure) (there : X) → IfOk r (λ x. x ≡ there) → new ≡ old → Reads old new r there
was_read old new (Ok x) there is same = (is, same)
was_read old new (Err e) there is same = same

-- the reading leaves the connection in the middle, and the look at its store after it
module _ {S : Type 0} (g : Ghosts S) (shut : (s : S) → (g.view s).is_clean ≡ false → (g.view s).is_open ≡ false)
    (settled : (s : S) (db : Trees) → IsTrue (g.view s).is_open → g.recovers s db → db ≡ (g.view s).committed) (old middle new : Held S) (ours before after : Bool) (faults next : ℕ)
    (was : IsKeeper g (record { conn = old; had_only_our_tables = ours; is_open = before; faults = faults })) (quiet : Quiet (state g old) (state g middle)) {X : Type 0} (read told : Result X Failure)
    (tells : TellsReading (state g middle) (state g new) before after faults next read told) where
  clean_up : IsTrue (state g new).is_open → HasCleanDisk (state g new)
  clean_up up = clean_if_open (g.view new.store) (shut new.store) up

  open_before : IsTrue (state g new).is_open → IsTrue (state g old).is_open
  open_before up = quiet.was_open (tells.looks.was_open up)

  same_middle : IsTrue ours → IsTrue (state g new).is_open → SameNow (state g old) (state g middle)
  same_middle own up = quiet.same (tells.looks.clean (clean_up up)) (was own (open_before up)).rests (tells.looks.was_open up)

  ours_middle : IsTrue ours → IsTrue (state g new).is_open → IsKeepersStore (state g middle)
  ours_middle own up = ours_after (state g old) (state g middle) (was own (open_before up)) (same_middle own up)

  same_after : IsTrue ours → IsTrue (state g new).is_open → SameNow (state g middle) (state g new)
  same_after own up = tells.looks.same (clean_up up) (ours_middle own up).rests up

  ours_new : IsTrue ours → IsTrue (state g new).is_open → IsKeepersStore (state g new)
  ours_new own up = ours_after (state g middle) (state g new) (ours_middle own up) (same_after own up)

  pub keeper_after : IsKeeper g (record { conn = new; had_only_our_tables = ours; is_open = after; faults = next })
  keeper_after = ours_new

  sound_before : IsTrue ours → IsTrue (state g new).is_open → IsSoundStore (state g old)
  sound_before own up = let first = open_before up in sound_store (state g old) first (was own first) (λ db may. settled old.store db first may)

  sound_after : IsTrue ours → IsTrue (state g new).is_open → IsSoundStore (state g new)
  sound_after own up = sound_store (state g new) up (ours_new own up) (λ db may. settled new.store db up may)

  -- while the keeper is open, what is told was read; once it is shut, it tells that its store failed
  told_read : IsTrue after → told ≡ read
  told_read on = tells.answers ∙ ap (λ (b : Bool). if b then read else Err Store) on

  open_unless_store : (b : Bool) → after ≡ b → ¬ IsErrOf told Store → IsTrue after
  open_unless_store true on other = on
  open_unless_store false off other = absurd (other (tells.answers ∙ ap (λ (b : Bool). if b then read else Err Store) off))

  open_after : (HasCleanDisk (state g middle) → OnOk read (IsTrue (state g middle).is_open)) → HasCleanDisk (state g new) → IsTrue after → IsTrue (state g new).is_open
  open_after opens clean on = tells.stays clean on (subst (λ (r : Result X Failure). OnOk r (IsTrue (state g middle).is_open)) (sym (told_read on)) (opens (tells.looks.clean clean)))

  pub is_reading : (there : Kept → X) → (HasCleanDisk (state g middle) → OnOk read (IsTrue (state g middle).is_open))
      → (HasCleanDisk (state g middle) → IsKeepersStore (state g old) → IfOk read (λ x. x ≡ there (kept_in (state g old).now.trees)))
      → IsReading g (record { conn = old; had_only_our_tables = ours; is_open = before; faults = faults }) (record { conn = new; had_only_our_tables = ours; is_open = after; faults = next }) told there
  is_reading there opens reads = record {
    reads = λ sound.
        let up = sound.1.is_open in
        let it = there (kept_in (state g old).now.trees) in
        was_read (kept_in (state g old).now.trees) (kept_in (state g new).now.trees) told it
        (subst (λ (r : Result X Failure). IfOk r (λ x. x ≡ it)) (sym (told_read sound.2)) (reads (tells.looks.clean (clean_up up)) (was sound.0 (open_before up))))
        (ap (λ (d : Database). kept_in d.trees) ((same_after sound.0 up).now ∙ (same_middle sound.0 up).now));
    sound = λ sound. (sound.0, sound_before sound.0 sound.1.is_open, tells.was_open sound.2);
    clean = λ clean. quiet.clean (tells.looks.clean clean);
    stays = λ clean sound on. (sound.0, sound_after sound.0 (open_after opens clean on), on);
    leaves = λ clean sound left leaves. (leaves.0, quiet.crash (tells.looks.clean clean) sound.1.ours.rests leaves.0 (tells.looks.crash clean leaves.0 leaves.1), leaves.2);
    faults = tells.counts;
    was_open = tells.was_open;
    stays_open = open_unless_store after refl;
  }

  -- of a keeper that is this one
  pub is_reading_of : (k : Keeper S) → ◌≡◌ {A = Keeper S} (record { conn = old; had_only_our_tables = ours; is_open = before; faults = faults }) k → (there : Kept → X)
      → (HasCleanDisk (state g middle) → OnOk read (IsTrue (state g middle).is_open))
      → (HasCleanDisk (state g middle) → IsKeepersStore (state g old) → IfOk read (λ x. x ≡ there (kept_in (state g old).now.trees)))
      → IsReading g k (record { conn = new; had_only_our_tables = ours; is_open = after; faults = next }) told there
  is_reading_of k at there opens reads =
      subst (λ (k : Keeper S). IsReading g k (record { conn = new; had_only_our_tables = ours; is_open = after; faults = next }) told there) at (is_reading there opens reads)
