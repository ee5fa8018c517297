-- From what a change does to a connection to what it does to the keeper.
use Rattle.std.proofs.Common.{◌≡◌, inl, inr, ℕ, Bool, true, false, List, Result, Ok, Err, IfOk, IsTrue, refl, sym, ap, subst, ◌∙◌}
use Rattle.std.specs.Prelude.{if◌then◌else◌, IsErrOf}
use Rattle.xa_store.proofs.Common.{Database, Held, state, HasCleanDisk, Ghosts, Trees, clean_if_open, ChangeError, Change, Changes, IfAnswered, Leaves, Kept, IsMade, IsSoundStore, LeavesKept, IsKeepersStore, SameNow, kept_in}
use Rattle.xa_records.specs.declared.refusal.ChangeError.TheVariants.{Failed}
use Rattle.xa_records.specs.declared.refusal.Failure.TheVariants.{Store}
use Rattle.xa_records.specs.Keeper.{Changing}
use Rattle.xa_store.specs.Keeper.{Keeper, IsKeeper, IsSound}
use Rattle.xa_store.specs.KeeperReading.{custody_by, kept_by}
use Rattle.xa_store.specs.keeping.Health.{TellsChange}
use Rattle.xa_store.specs.keeping.Turns.{Turns}
use Rattle.xa_store.proofs.KeeperReadingLemmas.{sound_store}
use Rattle.xa_store.proofs.QuietLemmas.{ours_after}

-- the trait's word of a change, if this is to be made of the domain of that name
abbrev pub IsChanging : {S X : Type 0} → Ghosts S → Keeper S → Keeper S → Result X ChangeError → List ℕ → Change → Type 0
IsChanging g old new r name change = Changing (custody_by g old) (custody_by g new) r name change

-- the change leaves the connection in the middle, and the look at its store after it
module _ {S : Type 0} (g : Ghosts S) (shut : (s : S) → (g.view s).is_clean ≡ false → (g.view s).is_open ≡ false)
    (settled : (s : S) (db : Trees) → IsTrue (g.view s).is_open → g.recovers s db → db ≡ (g.view s).committed) (old middle new : Held S) (ours before after : Bool) (faults next : ℕ)
    (was : IsKeeper g (record { conn = old; had_only_our_tables = ours; is_open = before; faults = faults })) {X : Type 0} (change : Change) (name : List ℕ) (done told : Result X ChangeError)
    (turns : Turns change name (state g old) (state g middle) done) (tells : TellsChange (state g middle) (state g new) before after faults next done told) where
  clean_up : IsTrue (state g new).is_open → HasCleanDisk (state g new)
  clean_up up = clean_if_open (g.view new.store) (shut new.store) up

  clean_middle : IsTrue (state g new).is_open → HasCleanDisk (state g middle)
  clean_middle up = tells.looks.clean (clean_up up)

  open_before : IsTrue (state g new).is_open → IsTrue (state g old).is_open
  open_before up = turns.was_open (clean_middle up) (tells.looks.was_open up)

  ours_before : IsTrue ours → IsTrue (state g new).is_open → IsKeepersStore (state g old)
  ours_before own up = was own (open_before up)

  ours_middle : IsTrue ours → IsTrue (state g new).is_open → IsKeepersStore (state g middle)
  ours_middle own up = turns.ours (clean_middle up) (ours_before own up) (tells.looks.was_open up)

  same_after : IsTrue ours → IsTrue (state g new).is_open → SameNow (state g middle) (state g new)
  same_after own up = tells.looks.same (clean_up up) (ours_middle own up).rests up

  ours_new : IsTrue ours → IsTrue (state g new).is_open → IsKeepersStore (state g new)
  ours_new own up = ours_after (state g middle) (state g new) (ours_middle own up) (same_after own up)

  pub keeper_after : IsKeeper g (record { conn = new; had_only_our_tables = ours; is_open = after; faults = next })
  keeper_after = ours_new

  sound_before : IsTrue ours → IsTrue (state g new).is_open → IsSoundStore (state g old)
  sound_before own up = let first = open_before up in sound_store (state g old) first (ours_before own up) (λ db may. settled old.store db first may)

  sound_after : IsTrue ours → IsTrue (state g new).is_open → IsSoundStore (state g new)
  sound_after own up = sound_store (state g new) up (ours_new own up) (λ db may. settled new.store db up may)

  -- while the keeper is open, what is told is the change's answer; once it is shut, it tells that its store failed
  told_done : IsTrue after → told ≡ done
  told_done on = tells.answers ∙ ap (λ (b : Bool). if b then done else Err (Failed Store)) on

  open_unless_store : (b : Bool) → after ≡ b → ¬ IsErrOf told (Failed Store) → IsTrue after
  open_unless_store true on other = on
  open_unless_store false off other = absurd (other (tells.answers ∙ ap (λ (b : Bool). if b then done else Err (Failed Store)) off))

  open_after : IsKeepersStore (state g old) → HasCleanDisk (state g new) → IsTrue after → IsTrue (state g new).is_open
  open_after own clean on = tells.stays clean on (subst (λ (r : Result X ChangeError). IfAnswered r (IsTrue (state g middle).is_open)) (sym (told_done on)) (turns.stays (tells.looks.clean clean) own))

  does_so : IsTrue ours → IsTrue after → IsTrue (state g new).is_open → Changes (kept_in (state g old).now.trees) (kept_in (state g new).now.trees) told name change
  does_so own on up =
      subst (λ (d : Database). Changes (kept_in (state g old).now.trees) (kept_in d.trees) told name change) (sym (same_after own up).now)
      (subst (λ (r : Result X ChangeError). Changes (kept_in (state g old).now.trees) (kept_in (state g middle).now.trees) r name change) (sym (told_done on))
      (turns.does (clean_middle up) (ours_before own up) (tells.looks.was_open up)))

  leaves_made : HasCleanDisk (state g new) → IsSoundStore (state g old) → Leaves (LeavesKept (state g old)) (LeavesKept (state g new)) (kept_in (state g old).now.trees) name change
  leaves_made clean sound left it = elim (turns.leaves (tells.looks.clean clean) sound.ours it.0 (tells.looks.crash clean it.0 it.1)) [
    | inl may ↦ inl (it.0, may, it.2)
    | inr made ↦ inr (subst (λ (w : Kept). IsMade change name (kept_in (state g old).now.trees) w) (sym (it.2 made.0)) made.1)
  ]

  pub is_changing : IsChanging g (record { conn = old; had_only_our_tables = ours; is_open = before; faults = faults }) (record { conn = new; had_only_our_tables = ours; is_open = after; faults = next }) told name change
  is_changing = record {
    does = λ sound. does_so sound.0 sound.2 sound.1.is_open;
    sound = λ sound. (sound.0, sound_before sound.0 sound.1.is_open, tells.was_open sound.2);
    clean = λ clean. turns.clean (tells.looks.clean clean);
    stays = λ clean sound on. (sound.0, sound_after sound.0 (open_after sound.1.ours clean on), on);
    leaves = λ clean sound. leaves_made clean sound.1;
    faults = tells.counts;
    was_open = tells.was_open;
    stays_open = open_unless_store after refl;
  }

  -- of a keeper that is this one
  pub is_changing_of : (k : Keeper S) → ◌≡◌ {A = Keeper S} (record { conn = old; had_only_our_tables = ours; is_open = before; faults = faults }) k
      → IsChanging g k (record { conn = new; had_only_our_tables = ours; is_open = after; faults = next }) told name change
  is_changing_of k at = subst (λ (k : Keeper S). IsChanging g k (record { conn = new; had_only_our_tables = ours; is_open = after; faults = next }) told name change) at is_changing

  -- what else the change says of what was answered, by what was kept
  pub said_of : (k : Keeper S) → ◌≡◌ {A = Keeper S} (record { conn = old; had_only_our_tables = ours; is_open = before; faults = faults }) k → (Says : Kept → X → Type 0)
      → (HasCleanDisk (state g middle) → IsKeepersStore (state g old) → IfOk done (Says (kept_in (state g old).now.trees)))
      → IsSound g (record { conn = new; had_only_our_tables = ours; is_open = after; faults = next }) → IfOk told (Says (kept_by g k))
  said_of k at Says says sound =
      subst (λ (k : Keeper S). IfOk told (Says (kept_by g k))) at
      (let up = sound.1.is_open in
      subst (λ (r : Result X ChangeError). IfOk r (Says (kept_in (state g old).now.trees))) (sym (told_done sound.2)) (says (clean_middle up) (ours_before sound.0 up)))
