-- How the program may end by what the words of its command line ask for.
use Rattle.std.specs.Prelude.{◌≡◌, ◌⊎◌, ◌↔◌, ℕ, ℤ, false, List, Bool, Option, Some, None, is_some, Ok, Err, IsFalse}
use Rattle.sqlite.specs.Recovery.{Image}
use Rattle.sqlite_disk.specs.declared.Disk.{Ghosts}
use Rattle.sqlite_store.specs.declared.store.FileStore.{FileStore}
use Rattle.xa_notation.specs.Tokens.{is_token}
use Rattle.xa_server.specs.declared.front.Front.{Front}
use Rattle.xa_store.specs.Keeper.{Keeper}
use Rattle.pdpd.specs.Beginning.{HasCleanFiles, IsLeftUnclosed}
use Rattle.pdpd.specs.Connections.{ServesFiles, ServesFrom, at_clock}
use Rattle.pdpd.specs.declared.command_line.Command.{Command}
use Rattle.pdpd.specs.declared.command_line.Command.TheVariants.{Help, Version, Replay, Serve, Listen}
use Rattle.pdpd.specs.declared.command_line.ListenCommand.{ListenCommand}
use Rattle.pdpd.specs.declared.command_line.ServeCommand.{ServeCommand}
use Rattle.pdpd.specs.declared.exit.Exit.{Exit}
use Rattle.pdpd.specs.declared.exit.Exit.TheVariants.{Done, Failed, Usage}
use Rattle.pdpd.specs.declared.fault.Fault.{Fault}
use Rattle.pdpd.specs.declared.fault.Fault.TheVariants.{Address, Place, Store}
use Rattle.pdpd.specs.declared.fault.StoreFault.TheVariants.{Unclosed as NotClosed}
use Rattle.pdpd.specs.declared.serve.served.Ended.{Ended}
use Rattle.pdpd.specs.declared.serve.served.Ended.TheVariants.{Closed, Unclosed, Broken, Unbegun}
use Rattle.pdpd.specs.declared.serve.served.Served.{Served}
use Rattle.pdpd.specs.Fault.{IsNoAddress, comes_of_serving, exit_of_fault}
use Rattle.pdpd.specs.Listening.{IsNoPlace, ServesAtOnceFrom, ServesFilesAtOnce}

-- how the program ends by a fault, or without one
abbrev pub exit_if : Option Fault → Exit
exit_if None = Done
exit_if (Some fault) = exit_of_fault fault

module _ {D R : Type 0} {g : Ghosts D} where
  -- the fault by which serving has ended, if it has ended by one
  abbrev pub fault_in_end : Ended D R g → Option Fault
  fault_in_end (Closed closed) = None
  fault_in_end (Unclosed left) = Some (Store NotClosed)
  fault_in_end (Broken front fault) = Some fault
  fault_in_end (Unbegun fault) = Some fault

  -- how the program ends as serving has ended
  abbrev pub exit_of_end : Ended D R g → Exit
  exit_of_end ended = exit_if (fault_in_end ended)

module _ {D : Type 0} {g : Ghosts D} (image : Image) (token : Option (List ℕ)) where
  -- How serving over two files has ended that held `image`; `token` is known of the token file's text, and `told_old`
  -- and `told_new` of the clock before and after. All connections were served, and the files are closed, or can't be,
  -- or closing was stopped; or those up to a fault were served; or a fault has come before any, and the clock wasn't
  -- asked
  abbrev pub HasServed : Option (List (Option ℤ)) → Option (List (Option ℤ)) → ℕ → Ended D (Keeper (FileStore D g)) g
      → Type 0
  HasServed told_old told_new count (Closed closed) =
      HasCleanFiles closed → ServesFiles image token told_old told_new count closed
  HasServed told_old told_new count (Unclosed left) =
      (front : Front (Keeper (FileStore D g)))
      × ServesFrom image token told_old count (Ok tt) (at_clock front told_new)
      × IsLeftUnclosed front.server.records left
  HasServed told_old told_new count (Broken front fault) =
      ServesFrom image token told_old count (Err fault) (at_clock front told_new)
  HasServed told_old told_new count (Unbegun fault) = (comes_of_serving fault ≡ false) × (told_new ≡ told_old)

  -- how serving at once over such files has ended, in the same way
  abbrev pub HasServedAtOnce : Bool → Option (List (Option ℤ)) → Option (List (Option ℤ))
      → Ended D (Keeper (FileStore D g)) g → Type 0
  HasServedAtOnce split told_old told_new (Closed closed) =
      HasCleanFiles closed → ServesFilesAtOnce image token split closed
  HasServedAtOnce split told_old told_new (Unclosed left) =
      (front : Front (Keeper (FileStore D g))) × ServesAtOnceFrom image token split (Ok tt) front
      × IsLeftUnclosed front.server.records left
  HasServedAtOnce split told_old told_new (Broken front fault) = ServesAtOnceFrom image token split (Err fault) front
  HasServedAtOnce split told_old told_new (Unbegun fault) = (comes_of_serving fault ≡ false) × (told_new ≡ told_old)

module _ {D : Type 0} {g : Ghosts D} (image : Image) (told_old told_new : Option (List (Option ℤ))) where
  -- how the program ends by serving over two files that held `image`: as serving has ended. `told_old` and `told_new`
  -- are known of the clock before and after, and nothing of the token file's text
  pub record EndsServing (serving : ServeCommand) (end : Served D (Keeper (FileStore D g)) g) : Type 0 where
    pub ended : Ended D (Keeper (FileStore D g)) g
    pub is : end ≡ record { exit = exit_of_end ended; ended = Some ended }
    pub served : HasServed image None told_old told_new serving.connections ended
    pub address : IsNoAddress serving.address → ended ≡ Unbegun Address

  -- how the program ends by serving at once over such files, in the same way
  pub record EndsListening (listening : ListenCommand) (end : Served D (Keeper (FileStore D g)) g) : Type 0 where
    pub ended : Ended D (Keeper (FileStore D g)) g
    pub is : end ≡ record { exit = exit_of_end ended; ended = Some ended }
    pub served : HasServedAtOnce image None (is_some listening.changes) told_old told_new ended
    pub place : IsNoPlace listening.address → ended ≡ Unbegun Place

  -- how the program may end by what the words of the command line ask for
  abbrev pub MayEnd : Option Command → Served D (Keeper (FileStore D g)) g → Type 0
  MayEnd None end = end.exit ≡ Usage
  MayEnd (Some Help) end = (end.exit ≡ Done) ⊎ (end.exit ≡ Failed)
  MayEnd (Some Version) end = (end.exit ≡ Done) ⊎ (end.exit ≡ Failed)
  MayEnd (Some (Replay token)) end = (end.exit ≡ Usage) ↔ IsFalse (is_token token)
  MayEnd (Some (Serve serving)) end = EndsServing serving end
  MayEnd (Some (Listen listening)) end = EndsListening listening end
