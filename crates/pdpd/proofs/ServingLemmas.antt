-- Connections that are served, one after another.
use Rattle.std.proofs.Common.{◌≡◌, ◌≢◌, ℕ, ◌+◌, ◌<◌, arith, false, IsTrue, List, [], ◌∷◌, ◌++◌, append-nil, ◌⊎◌, Option, Some, None, Ok, Err, refl, sym, ap, subst, ◌∙◌, add-one, inl, inr}
use Rattle.std.specs.Prelude.{ℤ, ◌↔◌, IfErr, MatchResult, Result}
use Rattle.std.specs.Net.Grammar.{IsSocketText}
use Rattle.std.specs.declared.net.socket_addr.SocketAddr.{SocketAddr}
use Rattle.std.proofs.lemmas.Result.{IfErr-at_err}
use Rattle.xa_records.specs.Keeper.{Custody}
use Rattle.xa_server.specs.declared.drive_end.DriveEnd.{DriveEnd}
use Rattle.xa_server.specs.declared.accept_error.AcceptError.{AcceptError}
use Rattle.xa_server.specs.declared.accept_error.AcceptError.TheVariants as accepting
use Rattle.xa_server.specs.declared.front.Front.{Front}
use Rattle.xa_server.specs.Lines.{none_open}
use Rattle.xa_server.specs.Peers.{DrivesNext, HasVisits, Peer, Visit, peer_in}
use Rattle.xa_server.specs.Serving.{AreServed}
use Rattle.xa_server.specs.World.{ServerModel}
use Rattle.xa_server.proofs.PeerLemmas.{visited_none, visited_on}
use Rattle.pdpd.specs.Connections.{AreIsolated, AreIsolatedOver, ConnectionsAreServed, Clocked, at_clock}
use Rattle.pdpd.specs.declared.fault.Fault.{Fault}
use Rattle.pdpd.specs.declared.fault.Fault.TheVariants as variant
use Rattle.pdpd.specs.declared.fault.Fault.TheVariants.{Address, Place, End, TokenUnread, TokenBad, Store, Shut, Socket, Occupied, Taken, Unmade, Input, Connection, Waiting, Clock, Output, Memory}
use Rattle.pdpd.specs.declared.serve.setting.Setting.{Setting}
use Rattle.pdpd.specs.declared.serve.setting.Setting.TheVariants as set
use Rattle.pdpd.specs.Fault.{IsNoAddress, IsOfConnections, IsOfFiles, IsOfServing, IsOfSetting, IsOfStore, IsOfToken, comes_of_serving, fault_of_accepting, fault_of_end}
use Rattle.pdpd.specs.running.Serving.{IsOfSettings, Serves, ServesAny, ServesNext, ServesNextOver}
use Rattle.pdpd.proofs.RunLemmas.{none_run, run_on}

module _ {R : Type 0} (custody : R → Custody) (is_open : (s : R) → (custody s).sound → IsTrue (custody s).is_open) where
  -- before any was served
  pub served_unbegun : (most : ℕ) (fault : Fault) (front : Clocked R) → Serves custody most (Err fault) front front
  unfolding Serves
  served_unbegun most fault front = record {
    events = [];
    replies = [];
    visits = [];
    served = (0, inl (omega arith, (refl, refl, refl, refl)));
    are_one = none_run custody is_open front.front.server front.front.server refl;
  }

-- ---- one after another

module _ {R P : Type 0} (custody : R → Custody) (is_open : (s : R) → (custody s).sound → IsTrue (custody s).is_open) (came parted : P → Option (List Peer)) where
  pub served_none : (front : Clocked R) (peers : P) → AreIsolatedOver custody came parted 0 (Ok tt) front front peers peers
  served_none front peers = record {
    isolated = record { events = []; replies = []; visits = []; served = (refl, refl, refl, refl); are_one = none_run custody is_open front.front.server front.front.server refl };
    visited = visited_none came parted peers peers refl refl;
  }

  -- one more, after which the next is
  pub served_more : (count : ℕ) (old mid new : Clocked R) (p q r : P) → AreIsolatedOver custody came parted count (Ok tt) old mid p q
      → ServesNextOver custody came parted (Ok tt) mid new q r → AreIsolatedOver custody came parted (count + 1) (Ok tt) old new p r
  unfolding ServesNext
  served_more count old mid new p q r before next =
      let is = before.isolated in
      let visit = next.served.0 in
      let events = next.served.2.0 in
      let replies = next.served.2.1 in
      record {
        isolated = record {
          events = is.events ++ events;
          replies = is.replies ++ replies;
          visits = is.visits ++ next.visits;
          served = rw add-one (mid, is.events, is.replies, is.visits, events, replies, visit, is.served, next.served.2.2, refl, refl, ap (λ (vs : List Visit). is.visits ++ vs) next.served.1);
          are_one = run_on custody is_open old.front.server mid.front.server new.front.server is.events events is.replies replies is.are_one next.served.2.3;
        };
        visited = visited_on came parted p q r is.visits next.visits before.visited next.visited;
      }

  -- the program ends by a fault before all are served
  pub served_until : (most count : ℕ) (fault : Fault) (old mid new : Clocked R) (p q r : P) → count < most → AreIsolatedOver custody came parted count (Ok tt) old mid p q
      → ServesNextOver custody came parted (Err fault) mid new q r → AreIsolatedOver custody came parted most (Err fault) old new p r
  unfolding ServesNext
  served_until most count fault old mid new p q r few before next = by_next next.served
    where
      is : AreIsolated custody count (Ok tt) old mid
      is = before.isolated

      visited : HasVisits came parted p r (is.visits ++ next.visits)
      visited = visited_on came parted p q r is.visits next.visits before.visited next.visited

      by_next : ((new ≡ mid) × (next.visits ≡ [])) ⊎ ((visit : Visit) × (next.visits ≡ visit ∷ []) × ServesAny custody (Some fault) mid new visit)
          → AreIsolatedOver custody came parted most (Err fault) old new p r
      by_next (inl (same, none)) = record {
        isolated = record {
          events = is.events;
          replies = is.replies;
          visits = is.visits;
          served = (count, inl (omega (arith, few), subst (λ (f : Clocked R). ConnectionsAreServed custody count old f is.events is.replies is.visits) (sym same) is.served));
          are_one = subst (λ (f : Clocked R). AreServed custody old.front.server f.front.server is.events is.replies) (sym same) is.are_one;
        };
        visited = subst (λ (vs : List Visit). HasVisits came parted p r vs) (ap (λ (vs : List Visit). is.visits ++ vs) none ∙ append-nil is.visits) visited;
      }
      by_next (inr (visit, one, (events, replies, serves, run))) = record {
        isolated = record {
          events = is.events ++ events;
          replies = is.replies ++ replies;
          visits = is.visits ++ next.visits;
          served = (
            count,
            inr (few, (mid, is.events, is.replies, is.visits, events, replies, visit, is.served, serves, refl, refl, ap (λ (vs : List Visit). is.visits ++ vs) one)),
          );
          are_one = run_on custody is_open old.front.server mid.front.server new.front.server is.events events is.replies replies is.are_one run;
        };
        visited = visited;
      }

-- ---- the next connection

-- the next would end so, too
pub accepting_of_connections : (error : AcceptError) → IsOfConnections (fault_of_accepting error)
accepting_of_connections accepting.Failed = tt
accepting_of_connections accepting.Memory = tt

module _ {R P : Type 0} (custody : R → Custody) (came parted : P → Option (List Peer)) where
  -- none was there
  pub unserved : (fault : Fault) (old : Front R) (new : ServerModel R) (told told_new : Option (List (Option ℤ))) (p q : P)
      → (new ≡ old.server) × (told_new ≡ told) × HasVisits came parted p q []
      → ServesNextOver custody came parted (Err fault) (at_clock old told) (at_clock (record old { server = new }) told_new) p q
  unfolding ServesNext
  unserved fault old new told told_new p q (same, unasked, visited) =
      rw (same, unasked) (record { visits = []; served = inl (refl, refl); visited = visited })

  -- it was driven to that end, whatever the last step of serving it gave
  module _ (is_open : (s : R) → (custody s).sound → IsTrue (custody s).is_open) where
    served_any : (end : DriveEnd) (fault : Option Fault) (old : Front R) (new : ServerModel R) (told told_new : Option (List (Option ℤ))) (p q : P)
        → old.lines ≡ none_open → (drives : DrivesNext custody came parted (Ok end) old.server new told told_new p q) → fault_of_end end ≡ fault
        → ServesAny custody fault (at_clock old told) (at_clock (record old { server = new }) told_new)
        (record { came = peer_in drives.0; parted = peer_in drives.1 })
    served_any end fault old new told told_new p q none (known, known_new, after, was, is, driven, visited) ends =
        let events = driven.goes.events ++ driven.last_events in
        let replies = driven.goes.run ++ driven.last_replies in (
          events,
          replies,
          (known, known_new, was, is, refl, (end, ends, record { after = after; is_driven = driven; opened = none; closed = none }, refl, refl)),
          driven.served,
        )

    pub served_next : (end : DriveEnd) (result : Result (Unit {0}) Fault) (old : Front R) (new : ServerModel R) (told told_new : Option (List (Option ℤ))) (p q : P)
        → old.lines ≡ none_open → DrivesNext custody came parted (Ok end) old.server new told told_new p q
        → MatchResult result (λ _. fault_of_end end ≡ None) (λ fault. fault_of_end end ≡ Some fault)
        → ServesNextOver custody came parted result (at_clock old told) (at_clock (record old { server = new }) told_new) p q
    unfolding ServesNext
    served_next end (Ok unit) old new told told_new p q none drives goes_on =
        let visit : Visit = record { came = peer_in drives.0; parted = peer_in drives.1 } in
        record { visits = visit ∷ []; served = (visit, refl, served_any end None old new told told_new p q none drives goes_on); visited = drives.6 }
    served_next end (Err fault) old new told told_new p q none drives ends =
        let visit : Visit = record { came = peer_in drives.0; parted = peer_in drives.1 } in
        record { visits = visit ∷ []; served = inr (visit, refl, served_any end (Some fault) old new told told_new p q none drives ends); visited = drives.6 }

  -- a keeper that is sound afterwards was before
  pub driven_sound : (result : Result DriveEnd AcceptError) (old new : ServerModel R) (told told_new : Option (List (Option ℤ))) (p q : P)
      → DrivesNext custody came parted result old new told told_new p q → (custody new.records).sound → (custody old.records).sound
  driven_sound (Ok end) old new told told_new p q (known, known_new, after, was, is, driven, visited) = driven.served.keeper.sound
  driven_sound (Err error) old new told told_new p q (same, unasked, visited) = subst (λ (s : ServerModel R). (custody s.records).sound) same

module _ {R P : Type 0} (custody : R → Custody) (came parted : P → Option (List Peer)) where
  -- which connections these were isn't told
  pub served_some : (count : ℕ) (result : Result (Unit {0}) Fault) (old new : Clocked R) (p q : P) → AreIsolatedOver custody came parted count result old new p q → Serves custody count result old new
  unfolding Serves
  served_some count result old new p q is = is.isolated

-- ---- faults that are no fault of the address

set_not_address : (setting : Setting) → variant.Setting setting ≡ Address → ⊥
set_not_address setting same = cc

memory_not_address : Memory ≡ Address → ⊥
memory_not_address same = cc

setting_not_address : (setting : Setting) (fault : Fault) → IsOfSetting setting fault → fault ≢ Address
setting_not_address setting fault (inl same) = λ is. set_not_address setting (sym same ∙ is)
setting_not_address setting fault (inr same) = λ is. memory_not_address (sym same ∙ is)

pub settings_not_address : (fault : Fault) → IsOfSettings fault → fault ≢ Address
settings_not_address fault (inl is) = setting_not_address set.Work fault is
settings_not_address fault (inr (inl is)) = setting_not_address set.Reply fault is
settings_not_address fault (inr (inr (inl is))) = setting_not_address set.Reading fault is
settings_not_address fault (inr (inr (inr (inl is)))) = setting_not_address set.Views fault is
settings_not_address fault (inr (inr (inr (inr (inl is))))) = setting_not_address set.Idle fault is
settings_not_address fault (inr (inr (inr (inr (inr is))))) = setting_not_address set.Sums fault is

pub token_not_address : (fault : Fault) → IsOfToken fault → fault ≢ Address
token_not_address fault is = λ same. subst IsOfToken same is

pub store_not_address : (fault : Fault) → IsOfStore fault → fault ≢ Address
store_not_address fault is = λ same. subst IsOfStore same is

pub files_not_address : (fault : Fault) → IsOfFiles fault → fault ≢ Address
files_not_address fault (inl is) = token_not_address fault is
files_not_address fault (inr is) = store_not_address fault is

-- ---- faults that come before serving

pub setting_before : (setting : Setting) (fault : Fault) → IsOfSetting setting fault → comes_of_serving fault ≡ false
setting_before setting fault (inl same) = ap comes_of_serving same
setting_before setting fault (inr same) = ap comes_of_serving same

pub settings_before : (fault : Fault) → IsOfSettings fault → comes_of_serving fault ≡ false
settings_before fault (inl is) = setting_before set.Work fault is
settings_before fault (inr (inl is)) = setting_before set.Reply fault is
settings_before fault (inr (inr (inl is))) = setting_before set.Reading fault is
settings_before fault (inr (inr (inr (inl is)))) = setting_before set.Views fault is
settings_before fault (inr (inr (inr (inr (inl is))))) = setting_before set.Idle fault is
settings_before fault (inr (inr (inr (inr (inr is))))) = setting_before set.Sums fault is

pub files_before : (fault : Fault) → IsOfFiles fault → comes_of_serving fault ≡ false
files_before Address is = refl
files_before Place is = refl
files_before End is = refl
files_before (variant.Setting setting) is = refl
files_before (variant.Changes door) is = elim is [ inl none ↦ absurd none | inr none ↦ absurd none ]
files_before TokenUnread is = refl
files_before TokenBad is = refl
files_before (Store fault) is = refl
files_before Memory is = refl
files_before Occupied is = elim is [ inl none ↦ absurd none | inr none ↦ absurd none ]
files_before Taken is = elim is [ inl none ↦ absurd none | inr none ↦ absurd none ]
files_before Unmade is = elim is [ inl none ↦ absurd none | inr none ↦ absurd none ]
files_before Input is = elim is [ inl none ↦ absurd none | inr none ↦ absurd none ]
files_before Waiting is = elim is [ inl none ↦ absurd none | inr none ↦ absurd none ]
files_before Socket is = elim is [ inl none ↦ absurd none | inr none ↦ absurd none ]
files_before Connection is = elim is [ inl none ↦ absurd none | inr none ↦ absurd none ]
files_before Clock is = elim is [ inl none ↦ absurd none | inr none ↦ absurd none ]
files_before Shut is = elim is [ inl none ↦ absurd none | inr none ↦ absurd none ]
files_before Output is = elim is [ inl none ↦ absurd none | inr none ↦ absurd none ]

pub connections_are_served : (result : Result (Unit {0}) Fault) → IfErr result IsOfConnections → IfErr result IsOfServing
connections_are_served (Ok done) is = tt
connections_are_served (Err Connection) is = tt
connections_are_served (Err Clock) is = tt
connections_are_served (Err Shut) is = tt
connections_are_served (Err Memory) is = tt
connections_are_served (Err Address) none = absurd none
connections_are_served (Err Place) none = absurd none
connections_are_served (Err End) none = absurd none
connections_are_served (Err Occupied) none = absurd none
connections_are_served (Err Taken) none = absurd none
connections_are_served (Err Unmade) none = absurd none
connections_are_served (Err Input) none = absurd none
connections_are_served (Err Waiting) none = absurd none
connections_are_served (Err (variant.Setting setting)) none = absurd none
connections_are_served (Err (variant.Changes door)) none = absurd none
connections_are_served (Err TokenUnread) none = absurd none
connections_are_served (Err TokenBad) none = absurd none
connections_are_served (Err (Store fault)) none = absurd none
connections_are_served (Err Socket) none = absurd none
connections_are_served (Err Output) none = absurd none

pub serving_not_address : (fault : Fault) → IsOfServing fault → fault ≢ Address
serving_not_address fault is = λ same. subst IsOfServing same is

-- if an address was found, its serving says that none was only if the text writes none
pub address_found : {X : Type 0} (text : List ℕ) (address : SocketAddr) (result : Result X Fault) → IsSocketText text address → IfErr result IsOfServing
    → (result ≡ Err Address) ↔ IsNoAddress text
address_found text address result is serving = (λ same. absurd (IfErr-at_err IsOfServing same serving), λ none. absurd (none address is))

pub address_unfound : {X : Type 0} (text : List ℕ) (address : SocketAddr) (result : Result X Fault) (fault : Fault) → IsSocketText text address → result ≡ Err fault
    → IsOfServing fault → (result ≡ Err Address) ↔ IsNoAddress text
address_unfound text address result fault is failed serving =
    address_found text address result is (subst (λ r. IfErr r IsOfServing) (sym failed) serving)
