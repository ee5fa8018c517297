-- How serving ends, and what is left of it.
use Rattle.std.proofs.Common.{◌≡◌, ℕ, ℤ, is_some, List, Option, Some, None, Result, Ok, Err, refl, subst}
use Rattle.sqlite.specs.Recovery.{Image}
use Rattle.sqlite_disk.specs.declared.Disk as disk
use Rattle.sqlite_store.specs.declared.store.FileStore.{FileStore}
use Rattle.xa_store.specs.Keeper.{Keeper}
use Rattle.pdpd.specs.Beginning.{known_text}
use Rattle.pdpd.specs.Connections.{Clocked, ServesFrom}
use Rattle.pdpd.specs.declared.command_line.ListenCommand.{ListenCommand}
use Rattle.pdpd.specs.declared.command_line.ServeCommand.{ServeCommand}
use Rattle.pdpd.specs.declared.fault.Fault.{Fault}
use Rattle.pdpd.specs.declared.fault.Fault.TheVariants.{Address, Place}
use Rattle.pdpd.specs.declared.serve.served.Ended.{Ended}
use Rattle.pdpd.specs.declared.serve.served.Ended.TheVariants.{Unbegun}
use Rattle.pdpd.specs.declared.serve.served.Served.{Served}
use Rattle.pdpd.specs.Ending.{EndsListening, EndsServing, HasServed, HasServedAtOnce, exit_of_end}
use Rattle.pdpd.specs.Fault.{IsNoAddress}
use Rattle.pdpd.specs.Listening.{IsNoPlace}

-- what is said of connections is said by how serving ended
pub serves_as : {D : Type 0} {g : disk.Ghosts D} (image : Image) (token : Option (List ℕ)) (told : Option (List (Option ℤ))) (count : ℕ) (a b : Result (Unit {0}) Fault)
    (new : Clocked (Keeper (FileStore D g))) → a ≡ b → ServesFrom image token told count a new → ServesFrom image token told count b new
serves_as image token told count a b new same serves = subst (λ (r : Result (Unit {0}) Fault). ServesFrom image token told count r new) same serves

-- of a file no text is known
pub nothing_known : {X E : Type 0} (opened : Result X E) → known_text (λ _. None) opened ≡ None
nothing_known (Ok reader) = refl
nothing_known (Err e) = refl

-- what is said of any token file is said of one of which nothing is known
pub ends_serving_as : {D : Type 0} {g : disk.Ghosts D} (image : Image) (told_old told_new : Option (List (Option ℤ))) (token : Option (List ℕ))
    (serving : ServeCommand) (ended : Ended D (Keeper (FileStore D g)) g) (end : Served D (Keeper (FileStore D g)) g) → token ≡ None → HasServed image token told_old told_new serving.connections ended → (IsNoAddress serving.address → ended ≡ Unbegun Address)
    → end ≡ record { exit = exit_of_end ended; ended = Some ended } → EndsServing image told_old told_new serving end
ends_serving_as image told_old told_new token serving ended end none served address is = record {
  ended = ended;
  is = is;
  served = subst (λ (t : Option (List ℕ)). HasServed image t told_old told_new serving.connections ended) none served;
  address = address;
}

pub ends_listening_as : {D : Type 0} {g : disk.Ghosts D} (image : Image) (told_old told_new : Option (List (Option ℤ))) (token : Option (List ℕ))
    (listening : ListenCommand) (ended : Ended D (Keeper (FileStore D g)) g) (end : Served D (Keeper (FileStore D g)) g) → token ≡ None → HasServedAtOnce image token (is_some listening.changes) told_old told_new ended → (IsNoPlace listening.address → ended ≡ Unbegun Place)
    → end ≡ record { exit = exit_of_end ended; ended = Some ended } → EndsListening image told_old told_new listening end
ends_listening_as image told_old told_new token listening ended end none served place is = record {
  ended = ended;
  is = is;
  served = subst (λ (t : Option (List ℕ)). HasServedAtOnce image t (is_some listening.changes) told_old told_new ended) none served;
  place = place;
}
