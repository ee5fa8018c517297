-- Why `pdpd serve` ends before its connections are served, and how the program ends then.
use Rattle.std.specs.Prelude.{◌≡◌, ◌⊎◌, ◌==◌, ◌||◌, ⊤, ℕ, Bool, true, false, List, [], ◌∷◌, Option, Some, None, Result}
use Rattle.std.specs.Prelude.{Ok, Err}
use Rattle.std.specs.List.{list_any}
use Rattle.std.specs.Net.Grammar.{IsSocketText}
use Rattle.std.specs.declared.net.socket_addr.SocketAddr.{SocketAddr}
use Rattle.std.specs.declared.io.ErrorKind.{ErrorKind}
use Rattle.std.specs.declared.io.ErrorKind.TheVariants as kind
use Rattle.sqlite.specs.declared.error.Error.{Error}
use Rattle.sqlite.specs.declared.error.Error.TheVariants.{SqliteFailure}
use Rattle.sqlite.specs.declared.error.ErrorCode.TheVariants as code
use Rattle.xa_server.specs.declared.accept_error.AcceptError.{AcceptError}
use Rattle.xa_server.specs.declared.accept_error.AcceptError.TheVariants as accepting
use Rattle.xa_server.specs.declared.drive_end.DriveEnd.{DriveEnd}
use Rattle.xa_server.specs.declared.drive_end.DriveEnd.TheVariants as drive_end
use Rattle.xa_store.specs.declared.error.OpenError.{OpenError}
use Rattle.xa_store.specs.declared.error.OpenError.TheVariants as opening
use Rattle.pdpd.specs.declared.exit.Exit.{Exit}
use Rattle.pdpd.specs.declared.exit.Exit.TheVariants as exit
use Rattle.pdpd.specs.declared.fault.DoorFault.{DoorFault}
use Rattle.pdpd.specs.declared.fault.DoorFault.TheVariants as door
use Rattle.pdpd.specs.declared.fault.Fault.{Fault}
use Rattle.pdpd.specs.declared.fault.Fault.TheVariants as variant
use Rattle.pdpd.specs.declared.fault.Fault.TheVariants.{Address, Place, End, TokenUnread, TokenBad, Store, Shut}
use Rattle.pdpd.specs.declared.fault.Fault.TheVariants.{Socket, Occupied, Taken, Unmade}
use Rattle.pdpd.specs.declared.fault.Fault.TheVariants.{Input, Connection, Waiting, Clock, Output, Memory}
use Rattle.pdpd.specs.declared.fault.StoreFault.TheVariants as store
use Rattle.pdpd.specs.declared.serve.setting.Setting.{Setting}

-- how the program ends by a fault of the address for changes
abbrev pub exit_of_door : DoorFault → Exit
exit_of_door door.Place = exit.Usage
exit_of_door _ = exit.Socket

-- how the program ends by a fault
abbrev pub exit_of_fault : Fault → Exit
exit_of_fault Address = exit.Usage
exit_of_fault Place = exit.Usage
exit_of_fault (variant.Changes fault) = exit_of_door fault
exit_of_fault End = exit.Usage
exit_of_fault (variant.Setting _) = exit.Usage
exit_of_fault TokenUnread = exit.Usage
exit_of_fault TokenBad = exit.Usage
exit_of_fault (Store _) = exit.Store
exit_of_fault Shut = exit.Store
exit_of_fault Socket = exit.Socket
exit_of_fault Occupied = exit.Socket
exit_of_fault Taken = exit.Socket
exit_of_fault Unmade = exit.Socket
exit_of_fault Input = exit.Socket
exit_of_fault Connection = exit.Socket
exit_of_fault Waiting = exit.Socket
exit_of_fault Clock = exit.Socket
exit_of_fault Output = exit.Failed
exit_of_fault Memory = exit.Memory

-- ---- what each step that fails may end by: a fault of its own, or want of memory

-- a fault of the operator's token, or want of memory
abbrev pub IsOfToken : Fault → Type 0
IsOfToken TokenUnread = ⊤
IsOfToken TokenBad = ⊤
IsOfToken Memory = ⊤
IsOfToken _ = ⊥

-- a fault of the store, or want of memory
abbrev pub IsOfStore : Fault → Type 0
IsOfStore (Store _) = ⊤
IsOfStore Memory = ⊤
IsOfStore _ = ⊥

-- why the token file isn't read, by the kind of the failure
abbrev pub fault_of_reading : ErrorKind → Fault
fault_of_reading kind.OutOfMemory = Memory
fault_of_reading _ = TokenUnread

-- why the file of a store can't be opened, by SQLite's error
abbrev pub fault_of_file : Error → Fault
fault_of_file (SqliteFailure code.OutOfMemory) = Memory
fault_of_file (SqliteFailure code.DatabaseBusy) = Store store.Busy
fault_of_file (SqliteFailure code.NotADatabase) = Store store.NoDatabase
fault_of_file (SqliteFailure code.DatabaseCorrupt) = Store store.Corrupt
fault_of_file (SqliteFailure code.DiskFull) = Store store.Full
fault_of_file (SqliteFailure code.SystemIoFailure) = Store store.Disk
fault_of_file _ = Store store.Unopened

-- why a file can't be opened: by that fault, or because its folder isn't there
abbrev pub IsFaultAt : Fault → Fault → Type 0
IsFaultAt fault found = (found ≡ fault) ⊎ ((fault ≡ Store store.Unopened) × (found ≡ Store store.NoFolder))

-- why the tables of a store can't be opened
abbrev pub fault_of_tables : OpenError → Fault
fault_of_tables opening.NotThisSchema = Store store.Schema
fault_of_tables opening.Damaged = Store store.Row
fault_of_tables opening.Store = Store store.Disk
fault_of_tables opening.Memory = Memory

-- a fault of the operator's token or of the store, or want of memory
abbrev pub IsOfFiles : Fault → Type 0
IsOfFiles fault = IsOfToken fault ⊎ IsOfStore fault

-- a fault of connections that are served one after another, or want of memory
abbrev pub IsOfConnections : Fault → Type 0
IsOfConnections Connection = ⊤
IsOfConnections Clock = ⊤
IsOfConnections Shut = ⊤
IsOfConnections Memory = ⊤
IsOfConnections _ = ⊥

-- a fault of the socket, of the output, or of connections that are served, or want of memory
abbrev pub IsOfServing : Fault → Type 0
IsOfServing Socket = ⊤
IsOfServing Output = ⊤
IsOfServing Connection = ⊤
IsOfServing Clock = ⊤
IsOfServing Shut = ⊤
IsOfServing Memory = ⊤
IsOfServing _ = ⊥

-- whether a fault comes of serving alone, once there is a front; want of memory comes before it, too
abbrev pub comes_of_serving : Fault → Bool
comes_of_serving Socket = true
comes_of_serving Occupied = true
comes_of_serving Taken = true
comes_of_serving Unmade = true
comes_of_serving Input = true
comes_of_serving Output = true
comes_of_serving Connection = true
comes_of_serving Waiting = true
comes_of_serving Clock = true
comes_of_serving Shut = true
comes_of_serving (variant.Changes door.Place) = false
comes_of_serving (variant.Changes _) = true
comes_of_serving _ = false

-- a fault of that setting, or want of memory
abbrev pub IsOfSetting : Setting → Fault → Type 0
IsOfSetting setting fault = (fault ≡ variant.Setting setting) ⊎ (fault ≡ Memory)

-- a text writes no address
abbrev pub IsNoAddress : List ℕ → Type 0
IsNoAddress text = (address : SocketAddr) → ¬ (IsSocketText text address)

-- ---- connections

-- the end of a connection that ends the program: the next would end so too
abbrev pub fault_of_end : DriveEnd → Option Fault
fault_of_end drive_end.NoClock = Some Clock
fault_of_end drive_end.Memory = Some Memory
fault_of_end drive_end.Shut = Some Shut
fault_of_end _ = None

-- why no further connection is given
abbrev pub fault_of_accepting : AcceptError → Fault
fault_of_accepting accepting.Failed = Connection
fault_of_accepting accepting.Memory = Memory

-- whether the next connection may be taken after one that couldn't be: its peer or the network failed, not the listener
abbrev pub is_passing : ErrorKind → Bool
is_passing kind.ConnectionAborted = true
is_passing kind.ConnectionReset = true
is_passing kind.HostUnreachable = true
is_passing kind.NetworkUnreachable = true
is_passing kind.NetworkDown = true
is_passing kind.TimedOut = true
is_passing kind.Interrupted = true
is_passing _ = false

-- failures of the network that have no kind of their own, after which the next connection may be taken: Linux's EPROTO,
-- ENOPROTOOPT, EHOSTDOWN, ENONET and EOPNOTSUPP (accept(2))
abbrev pub is_of_network : ℕ → Bool
is_of_network number = list_any (λ n. number == n) (71 ∷ 92 ∷ 112 ∷ 64 ∷ 95 ∷ [])

-- want of room for a connection, which passes: EMFILE, ENFILE, ENOMEM and ENOBUFS (accept(2))
abbrev pub is_want_of_room : ℕ → Bool
is_want_of_room number = list_any (λ n. number == n) (24 ∷ 23 ∷ 12 ∷ 105 ∷ [])

-- whether the next connection may be taken after a failure, by its kind and by its number
abbrev pub goes_on_after : ErrorKind → ℕ → Bool
goes_on_after kind number = is_want_of_room number || is_passing kind || is_of_network number
