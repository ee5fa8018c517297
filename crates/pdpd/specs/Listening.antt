-- Connections that were served at once.
use Rattle.std.specs.Prelude.{◌≡◌, ◌≢◌, ◌<◌, ◌≤◌, ℕ, Bool, List, ◌++◌, length, codes, Option, Some, None}
use Rattle.std.specs.Prelude.{Result, Ok, OnOk, if◌then◌else◌}
use Rattle.std.specs.List.{All}
use Rattle.std.specs.Net.Grammar.{IsSocketText}
use Rattle.std.specs.declared.io.ErrorKind.{ErrorKind}
use Rattle.std.specs.declared.io.ErrorKind.TheVariants as kind
use Rattle.sqlite.specs.Files.{over_files}
use Rattle.sqlite.specs.Recovery.{Image}
use Rattle.sqlite_disk.specs.declared.Disk.{Ghosts}
use Rattle.sqlite_store.specs.declared.store.FileStore.{FileStore}
use Rattle.xa_reactor.specs.declared.network.Arrival.{Arrival}
use Rattle.xa_reactor.specs.declared.network.Arrival.TheVariants as arrival
use Rattle.xa_reactor.specs.declared.halt.Halt.{Halt}
use Rattle.xa_reactor.specs.declared.halt.Halt.TheVariants as halt
use Rattle.xa_reactor.specs.Run.{IsServedAtOnce}
use Rattle.xa_reactor.specs.Traffic.{Traffic}
use Rattle.xa_records.specs.Keeper.{Custody}
use Rattle.xa_server.specs.declared.front.Front.{Front}
use Rattle.xa_server.specs.Front.{front_is_clean, front_is_open, front_is_sound, front_state}
use Rattle.xa_server.specs.Lines.{none_open}
use Rattle.xa_store.specs.Keeper.{IsSound, Keeper}
use Rattle.xa_store.specs.KeeperReading.{custody_by, kept_by}
use Rattle.pdpd.specs.declared.fault.Fault.{Fault}
use Rattle.pdpd.specs.declared.fault.Fault.TheVariants.{Clock, Shut, Connection, Waiting}
use Rattle.pdpd.specs.declared.listen.place.Place.{Place}
use Rattle.pdpd.specs.declared.listen.place.Place.TheVariants.{Ip, Unix}
use Rattle.pdpd.specs.declared.store.closed.ClosedStore.{ClosedStore}
use Rattle.pdpd.specs.Beginning.{Begins, IsLeftIn}
use Rattle.pdpd.specs.Fault.{IsNoAddress, goes_on_after, is_want_of_room}

-- ---- where connections are taken

-- a path that a Unix socket can have (unix(7))
abbrev pub IsSocketPath : List ℕ → Type 0
IsSocketPath path = (0 < length path) × (length path ≤ 107) × All (λ byte. byte ≢ 0) path

-- a text names the Unix socket of a path
abbrev pub NamesSocket : List ℕ → List ℕ → Type 0
NamesSocket text path = IsSocketPath path × (text ≡ codes "unix:" ++ path)

-- a text names no Unix socket
abbrev pub NamesNoSocket : List ℕ → Type 0
NamesNoSocket text = (path : List ℕ) → ¬ (NamesSocket text path)

-- the place that a text names
abbrev pub NamesPlace : List ℕ → Place → Type 0
NamesPlace text (Ip address) = IsSocketText text address
NamesPlace text (Unix path) = NamesSocket text path.now

-- a text names no place at which connections are taken
abbrev pub IsNoPlace : List ℕ → Type 0
IsNoPlace text = IsNoAddress text × NamesNoSocket text

-- ---- how taking connections goes

-- how an attempt to take a connection ended that failed, by the kind and the number of the failure
abbrev pub arrival_after : ErrorKind → ℕ → Arrival
arrival_after kind.WouldBlock number = arrival.Nobody
arrival_after kind number =
    if is_want_of_room number then arrival.NoRoom
    else (if goes_on_after kind number then arrival.Passed else arrival.Failed)

-- ---- how serving ends

-- why the program ends by a reactor that halted
abbrev pub fault_of_halt : Halt → Fault
fault_of_halt halt.NoClock = Clock
fault_of_halt halt.NoTimer = Clock
fault_of_halt halt.Shut = Shut
fault_of_halt halt.Door = Connection
fault_of_halt halt.Network = Waiting
fault_of_halt halt.TooManyTurns = Waiting

-- ---- connections

-- nothing is said of what a socket gives and takes
abbrev pub unknown_traffic : Unit {0} → Option (List Traffic)
unknown_traffic _ = None

-- Connections were served at once, turn after turn; if all is well until all had ended, and else up to a fault, in a
-- turn that was broken off. All of their messages, in the order in which they were cut off, are one run of the server
-- if its keeper is sound at the end, and each domain's replies in it, whatever the connections on which its messages
-- came, are those of its own machine, used by it alone (`IsPlayed`). If changes have an address of their own (`split`),
-- so are all but those that were turned away (`IsPlayedBeside`). Whatever the keeper has come to, they were served one
-- after another, and those up to where it was shut are such a run if it was sound at the beginning (`AreServed`). Which
-- connections these were, and what came and went on them, isn't said.
pub record ServesAtOnce {R : Type 0} (custody : R → Custody) (split : Bool) (result : Result (Unit {0}) Fault)
    (old new : Front R) : Type 0 where
  pub served : IsServedAtOnce custody unknown_traffic split old new tt tt
  pub sound : front_is_sound custody new → front_is_sound custody old
  pub clean : front_is_clean custody new → front_is_clean custody old
  pub ended : OnOk result (new.lines ≡ none_open)
  pub goes_on : OnOk result (front_is_open custody old → front_is_open custody new)

-- Connections were served at once over a network, turn after turn (`IsServedAtOnce`): as far as it is known what went
-- over it, nothing else did.
pub record ServesAtOnceOver {R N : Type 0} (custody : R → Custody) (done : N → Option (List Traffic)) (split : Bool)
    (result : Result (Unit {0}) Fault) (old new : Front R) (network_old network_new : N) : Type 0 where
  pub served : IsServedAtOnce custody done split old new network_old network_new
  pub sound : front_is_sound custody new → front_is_sound custody old
  pub clean : front_is_clean custody new → front_is_clean custody old
  pub ended : OnOk result (new.lines ≡ none_open)
  -- if it ends well, the repository wasn't shut meanwhile
  pub goes_on : OnOk result (front_is_open custody old → front_is_open custody new)

-- connections were served at once from what two files held, that is `image`, to this front; `token` is known of the
-- token file's text. If the disk has given back what was written, serving began as `Begins` says
pub record ServesAtOnceFrom {D : Type 0} {g : Ghosts D} (image : Image) (token : Option (List ℕ)) (split : Bool)
    (result : Result (Unit {0}) Fault) (new : Front (Keeper (FileStore D g))) : Type 0 where
  pub old : Front (Keeper (FileStore D g))
  pub begins : front_is_clean (custody_by over_files) old
      → Begins (IsSound over_files old.server.records) image token (front_state (custody_by over_files) old)
  pub served : ServesAtOnce (custody_by over_files) split result old new

-- a store was served and closed. Its two files held `image`, and `token` is known of the token file's text.
-- Connections were served at once from what the files held, and what they have left is in the files
pub record ServesFilesAtOnce {D : Type 0} {g : Ghosts D} (image : Image) (token : Option (List ℕ)) (split : Bool)
    (closed : ClosedStore D g) : Type 0 where
  pub old : Front (Keeper (FileStore D g))
  pub new : Front (Keeper (FileStore D g))
  pub begins : Begins (IsSound over_files old.server.records) image token (front_state (custody_by over_files) old)
  pub served : ServesAtOnce (custody_by over_files) split (Ok tt) old new
  pub sound : IsSound over_files new.server.records
  pub left : IsLeftIn closed (kept_by over_files new.server.records)
