-- What the files of a store hold as serving begins, and as it ends.
use Rattle.std.specs.Prelude.{◌≡◌, ◌⊎◌, ℕ, List, Option, None, Result, Ok, Err}
use Rattle.sqlite.specs.Closing.{HoldsAlone}
use Rattle.sqlite.specs.Files.{AreFoundIn, HoldsDatabase, file_state, image_of, over_files}
use Rattle.sqlite.specs.FileStore.{recovers}
use Rattle.sqlite.specs.Recovery.{Image}
use Rattle.sqlite.specs.Tree.{Trees}
use Rattle.sqlite.specs.WalFiles.{outcomes}
use Rattle.sqlite.specs.WalReads.{AreClean}
use Rattle.sqlite_catalog.specs.Listing.{IsSound as ObeysRules}
use Rattle.sqlite_disk.specs.declared.Disk as disk
use Rattle.sqlite_store.specs.declared.store.FileStore.{FileStore}
use Rattle.xa_records.specs.Kept.{Kept, nothing_kept}
use Rattle.xa_server.specs.Decisions.{nothing_cached}
use Rattle.xa_server.specs.Front.{FrontState}
use Rattle.xa_server.specs.Lines.{none_open}
use Rattle.xa_store.specs.Keeper.{IsSound, Keeper}
use Rattle.xa_store.specs.KeeperReading.{kept_by}
use Rattle.xa_store.specs.Meaning.{kept_in, kept_in_schema_1}
use Rattle.xa_store.specs.Opening.{no_tables}
use Rattle.xa_store.specs.Sound.{IsOurDatabase, OpensSoundly}
use Rattle.xa_store.specs.Tables.{schema_1}
use Rattle.xa_store.specs.keeping.Migration.{IsSoundSchema1}
use Rattle.pdpd.specs.declared.store.closed.ClosedStore.{ClosedStore}
use Rattle.pdpd.specs.Token.{IsOperatorIn}

-- ---- what is kept as serving begins

-- what is kept over these trees: what the program's tables of schema 2 mean, or of schema 1; nothing, if there is no
-- table at all. It is one of the three: trees of other tables are refused, and so are tables that opening doesn't find
-- sound. In each the keeper is sound, which is `sound`
pub record IsKeptOver (sound : Type 0) (db : Trees) (kept : Kept) : Type 0 where
  pub ours : IsOurDatabase db → OpensSoundly db × (kept ≡ kept_in db) × sound
  pub ours_of_schema_1 : ObeysRules schema_1 db → IsSoundSchema1 db × (kept ≡ kept_in_schema_1 db) × sound
  pub none : ObeysRules no_tables db → (kept ≡ nothing_kept) × sound
  pub is_one : IsOurDatabase db ⊎ (ObeysRules schema_1 db ⊎ ObeysRules no_tables db)

-- what is kept over two files that hold `image`: what is kept over the trees that they hold. If they hold no database
-- yet, the trees are empty
pub record IsKeptIn (sound : Type 0) (image : Image) (kept : Kept) : Type 0 where
  pub db : Trees
  pub holds : (other : Trees) → HoldsDatabase image other → db ≡ other
  pub found : AreFoundIn image db
  pub is_kept : IsKeptOver sound db kept

-- what is known of the text that a reader gives, if there is a reader
abbrev pub known_text : {X E : Type 0} → (X → Option (List ℕ)) → Result X E → Option (List ℕ)
known_text remaining (Ok reader) = remaining reader
known_text remaining (Err e) = None

-- a front as serving begins: for the operator whose token is the first line of the token file, of which `token` is
-- known, and over what two files hold; nothing is cached of decisions, and no connection is open. `sound` says of the
-- keeper that it is sound
pub record Begins (sound : Type 0) (image : Image) (token : Option (List ℕ)) (front : FrontState) : Type 0 where
  pub operator : IsOperatorIn token front.server.world.operator
  pub is_kept : IsKeptIn sound image front.server.world.kept
  pub decisions : front.server.decisions ≡ nothing_cached
  pub closed : front.lines ≡ none_open

-- ---- what is kept as serving ends

module _ {D : Type 0} {g : disk.Ghosts D} where
  -- the disk has returned what was written
  abbrev pub HasCleanFiles : ClosedStore D g → Type 0
  HasCleanFiles closed = AreClean g closed.files.log closed.files.db

  -- what two files hold
  abbrev pub image_left : ClosedStore D g → Image
  image_left closed = image_of g closed.files

  -- what the files of a closed store hold: the program's tables, which open again, and mean what is kept. The
  -- database's file has all of them, without its log, too. So it is after a crash
  pub record IsLeftIn (closed : ClosedStore D g) (kept : Kept) : Type 0 where
    pub db : Trees
    pub sound : OpensSoundly db
    pub is_kept : kept ≡ kept_in db
    pub holds : HoldsAlone (image_left closed) db
    pub left : (image : Image) → outcomes g closed.files.log closed.files.db image → HoldsAlone image db

  -- a keeper's store that wasn't closed, or couldn't be, as closing has left it: it was stopped at a call of the disk,
  -- or has answered. A crash leaves no trees that one before it might not have left. If the keeper was sound, they are
  -- the program's tables, which open again, and mean what it kept
  pub record IsLeftUnclosed (keeper : Keeper (FileStore D g)) (left : FileStore D g) : Type 0 where
    pub trees : (db : Trees) → recovers left db → (file_state keeper.conn).may_leave db
    pub is_kept : IsSound over_files keeper → (db : Trees) → recovers left db
        → OpensSoundly db × (kept_by over_files keeper ≡ kept_in db)
