-- Connections that were served, one after another.
use Rattle.std.specs.Prelude.{◌≡◌, ◌≤◌, ◌<◌, ◌⊎◌, ℕ, ℤ, zero, suc, List, [], ◌∷◌, ◌++◌, Option, Some, None, Result, Ok}
use Rattle.std.specs.Prelude.{Err}
use Rattle.sqlite.specs.Files.{over_files}
use Rattle.sqlite.specs.Recovery.{Image}
use Rattle.sqlite_disk.specs.declared.Disk.{Ghosts}
use Rattle.sqlite_store.specs.declared.store.FileStore.{FileStore}
use Rattle.xa_http.specs.Stream.{Stream}
use Rattle.xa_records.specs.Keeper.{Custody}
use Rattle.xa_server.specs.declared.drive_end.DriveEnd.{DriveEnd}
use Rattle.xa_server.specs.declared.front.Front.{Front}
use Rattle.xa_server.specs.declared.replies.Reply.{Reply}
use Rattle.xa_server.specs.Alone.{Event}
use Rattle.xa_server.specs.Connection.{empty_stream}
use Rattle.xa_server.specs.Driven.{IsDrivenWithin, Known}
use Rattle.xa_server.specs.Front.{front_is_clean, front_state}
use Rattle.xa_server.specs.Lines.{none_open}
use Rattle.xa_server.specs.Peers.{HasVisits, Peer, Visit, peer_in}
use Rattle.xa_server.specs.Serving.{AreServed}
use Rattle.xa_store.specs.Keeper.{IsSound, Keeper}
use Rattle.xa_store.specs.KeeperReading.{custody_by, kept_by}
use Rattle.pdpd.specs.declared.fault.Fault.{Fault}
use Rattle.pdpd.specs.declared.store.closed.ClosedStore.{ClosedStore}
use Rattle.pdpd.specs.Beginning.{Begins, IsLeftIn}
use Rattle.pdpd.specs.Fault.{fault_of_end}

-- a front, and what the clock by which its messages are served has told so far, if that is known
pub record Clocked (R : Type 0) : Type 0 where
  pub front : Front R
  pub told : Option (List (Option ℤ))

abbrev pub at_clock : {R : Type 0} → Front R → Option (List (Option ℤ)) → Clocked R
at_clock front told = record { front = front; told = told }

module _ {R : Type 0} (custody : R → Custody) where
  -- a connection, of which nothing had come, was driven to its end by the server of a front that has none open.
  -- `known_old` and `known_new` are what is known of its reader, its writer and the clock
  pub record IsConnectionServed (end : DriveEnd) (old new : Front R) (known_old known_new : Known) : Type 0 where
    pub after : Stream
    pub is_driven : IsDrivenWithin custody 1_000_000 end
        (record { server = old.server; stream = empty_stream; known = known_old })
        (record { server = new.server; stream = after; known = known_new })
    pub opened : old.lines ≡ none_open
    pub closed : new.lines ≡ none_open

  -- a connection was served to an end by which the program ends so, or goes on; `events` and `replies` are its own
  abbrev pub ServesOne : Option Fault → Front R → Front R → Known → Known → List Event → List Reply → Type 0
  ServesOne fault old new known_old known_new events replies =
      (end : DriveEnd) × (fault_of_end end ≡ fault) × (is : IsConnectionServed end old new known_old known_new)
      × (events ≡ is.is_driven.goes.events ++ is.is_driven.last_events)
      × (replies ≡ is.is_driven.goes.run ++ is.is_driven.last_replies)

  -- `ServesOne`, of that connection
  abbrev pub ServesVisit : Option Fault → Clocked R → Clocked R → List Event → List Reply → Visit → Type 0
  ServesVisit fault old new events replies visit =
      (known_old : Known) × (known_new : Known) × (known_old.told ≡ old.told) × (known_new.told ≡ new.told)
      × (visit ≡ record { came = peer_in known_old; parted = peer_in known_new })
      × ServesOne fault old.front new.front known_old known_new events replies

  -- connections were served, and then one more, by whose end the program ends so, or goes on
  abbrev pub ServesOneMore : (Clocked R → Clocked R → List Event → List Reply → List Visit → Type 0) → Option Fault
      → Clocked R → Clocked R → List Event → List Reply → List Visit → Type 0
  ServesOneMore Before fault old new events replies visits =
      (mid : Clocked R) × (earlier : List Event) × (told : List Reply) × (before : List Visit)
      × (events_last : List Event) × (replies_last : List Reply) × (last : Visit) × Before old mid earlier told before
      × ServesVisit fault mid new events_last replies_last last × (events ≡ earlier ++ events_last)
      × (replies ≡ told ++ replies_last) × (visits ≡ before ++ last ∷ [])

  -- `count` connections were served, one after another, each to an end after which the next is; `events` and `replies`
  -- are theirs, those of the first before those of the second, and so on, and `visits` what is known of each. The clock
  -- was asked for their messages alone
  abbrev pub ConnectionsAreServed : ℕ → Clocked R → Clocked R → List Event → List Reply → List Visit → Type 0
  ConnectionsAreServed zero old new events replies visits = (new ≡ old) × (events ≡ []) × (replies ≡ []) × (visits ≡ [])
  ConnectionsAreServed (suc count) old new events replies visits =
      ServesOneMore (ConnectionsAreServed count) None old new events replies visits

  -- some connections were served so, and then perhaps one more, by whose end the program ends with the fault: at most
  -- `most` in all
  abbrev pub AreServedUntil : ℕ → Fault → Clocked R → Clocked R → List Event → List Reply → List Visit → Type 0
  AreServedUntil most fault old new events replies visits =
      (count : ℕ) × (((count ≤ most) × ConnectionsAreServed count old new events replies visits)
      ⊎ ((count < most) × ServesOneMore (ConnectionsAreServed count) (Some fault) old new events replies visits))

  -- by how serving ended: all connections were served, or those up to a fault
  abbrev pub AreServedAs : ℕ → Result (Unit {0}) Fault → Clocked R → Clocked R → List Event → List Reply → List Visit
      → Type 0
  AreServedAs count (Ok _) old new events replies visits = ConnectionsAreServed count old new events replies visits
  AreServedAs count (Err fault) old new events replies visits = AreServedUntil count fault old new events replies visits

  -- the headline over connections that were served: all of their events are one run, whatever the connections on which
  -- a domain's messages came
  pub record AreIsolated (count : ℕ) (result : Result (Unit {0}) Fault) (old new : Clocked R) : Type 0 where
    pub events : List Event
    pub replies : List Reply
    pub visits : List Visit
    pub served : AreServedAs count result old new events replies visits
    pub are_one : AreServed custody old.front.server new.front.server events replies

  -- `AreIsolated`, and the connections were those that were given, as far as it is known which these are. Of sockets
  -- it is known how each call has ended, and not what it would have given
  pub record AreIsolatedOver {P : Type 0} (came parted : P → Option (List Peer)) (count : ℕ)
      (result : Result (Unit {0}) Fault) (old new : Clocked R) (peers_old peers_new : P) : Type 0 where
    pub isolated : AreIsolated count result old new
    pub visited : HasVisits came parted peers_old peers_new isolated.visits

-- connections were served from what two files held, that is `image`, to this front; `token` is known of the token
-- file's text, and `told` of the clock before. If the disk has given back what was written, serving began as `Begins`
-- says
pub record ServesFrom {D : Type 0} {g : Ghosts D} (image : Image) (token : Option (List ℕ))
    (told : Option (List (Option ℤ))) (count : ℕ) (result : Result (Unit {0}) Fault)
    (new : Clocked (Keeper (FileStore D g))) : Type 0 where
  pub old : Front (Keeper (FileStore D g))
  pub begins : front_is_clean (custody_by over_files) old
      → Begins (IsSound over_files old.server.records) image token (front_state (custody_by over_files) old)
  pub isolated : AreIsolated (custody_by over_files) count result (at_clock old told) new

-- a store was served and closed. Its two files held `image`; `token` is known of the token file's text, and `told_old`
-- and `told_new` of the clock before and after. `count` connections were served from what the files held, and what they
-- have left is in the files
pub record ServesFiles {D : Type 0} {g : Ghosts D} (image : Image) (token : Option (List ℕ))
    (told_old told_new : Option (List (Option ℤ))) (count : ℕ) (closed : ClosedStore D g) : Type 0 where
  pub old : Front (Keeper (FileStore D g))
  pub new : Front (Keeper (FileStore D g))
  pub begins : Begins (IsSound over_files old.server.records) image token (front_state (custody_by over_files) old)
  pub isolated : AreIsolated (custody_by over_files) count (Ok tt) (at_clock old told_old) (at_clock new told_new)
  pub sound : IsSound over_files new.server.records
  pub left : IsLeftIn closed (kept_by over_files new.server.records)
