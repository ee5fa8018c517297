-- What is told of the keeper, in the words of the trait.
use Rattle.sqlite.specs.Held.{state}
use Rattle.sqlite.specs.State.{HasCleanDisk}
use Rattle.sqlite.specs.Store.{Ghosts}
use Rattle.xa_records.specs.Keeper.{Custody}
use Rattle.xa_records.specs.Kept.{Kept}
use Rattle.xa_store.specs.Keeper.{Keeper, IsSound}
use Rattle.xa_store.specs.Meaning.{kept_in}
use Rattle.xa_store.specs.Sound.{LeavesKept}

-- what the keeper's tables mean
abbrev pub kept_by : {S : Type 0} → Ghosts S → Keeper S → Kept
kept_by g k = kept_in (state g k.conn).now.trees

-- what the trait says of a keeper, said of this one
abbrev pub custody_by : {S : Type 0} → Ghosts S → Keeper S → Custody
custody_by g k =
    record {
      kept = kept_by g k;
      sound = IsSound g k;
      clean = HasCleanDisk (state g k.conn);
      may_leave = LeavesKept (state g k.conn);
      faults = k.faults;
      is_open = k.is_open;
    }
