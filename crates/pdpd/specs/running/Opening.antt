-- How the store's file is opened.
use Rattle.std.specs.Prelude.{◌≡◌, Bool, Ok, IsTrue}
use Rattle.sqlite.specs.Files.{IsBlankAs, IsOpened, file_state, over_files}
use Rattle.sqlite.specs.FileStore.{view}
use Rattle.sqlite.specs.Held.{Held, state}
use Rattle.sqlite.specs.Recovery.{Image}
use Rattle.sqlite.specs.Start.{FindsIn}
use Rattle.sqlite.specs.State.{State, HasCleanDisk}
use Rattle.sqlite.specs.Store.{Ghosts}
use Rattle.sqlite_disk.specs.declared.Disk as disk
use Rattle.sqlite_store.specs.declared.store.FileStore.{FileStore}
use Rattle.xa_store.specs.Keeper.{IsSound, Keeper}
use Rattle.xa_store.specs.Opening.{IsBlank, IsKnown, IsKnownSchema, Makes, Migrates, Opens}
use Rattle.xa_store.specs.Sound.{Rests, RestsIn}
use Rattle.xa_store.specs.Tables.{schema_1}

-- the keeper is what opening the connection gave (`SqlRecords::open`)
pub record IsKeeperOver {S : Type 0} (g : Ghosts S) (s : State) (k : Keeper S) : Type 0 where
  pub opens : Rests s → Opens g s (Ok k)
  pub migrates : RestsIn schema_1 s → Migrates g s (Ok k)
  pub makes : IsBlank s → Makes g s (Ok k)
  pub stays : HasCleanDisk (state g k.conn) → IsKnown s → IsTrue (state g k.conn).is_open
  pub sound : IsTrue (state g k.conn).is_open → IsSound g k
  pub known : IsKnownSchema s.now.schema

-- the keeper is what opening a connection to two files gave that held `image`, and the disk has returned what was
-- written; files that held no database yet have sums, if new ones are to have them
pub record IsKeeperFrom {D : Type 0} {g : disk.Ghosts D} (image : Image) (new_has_sums : Bool)
    (k : Keeper (FileStore D g)) : Type 0 where
  pub conn : Held (FileStore D g)
  pub is_opened : IsOpened conn
  pub found : FindsIn image (file_state conn)
  pub sums : IsBlankAs new_has_sums image → (view conn.store).has_sums ≡ new_has_sums
  pub keeper : IsKeeperOver over_files (file_state conn) k
  pub clean : HasCleanDisk (file_state k.conn)
