-- What is served.
use Rattle.std.specs.Prelude.{◌≡◌, ◌⊎◌, ℕ, List, [], ◌∷◌, Option, None, Some, Result, Ok, Err}
use Rattle.xa_records.specs.Keeper.{Custody}
use Rattle.xa_server.specs.declared.front.Front.{Front}
use Rattle.xa_server.specs.declared.replies.Reply.{Reply as ServerReply}
use Rattle.xa_server.specs.Alone.{Event}
use Rattle.xa_server.specs.Peers.{HasVisits, Peer, Visit}
use Rattle.xa_server.specs.Serving.{AreServed}
use Rattle.pdpd.specs.declared.fault.Fault.{Fault}
use Rattle.pdpd.specs.declared.serve.setting.Setting.TheVariants.{Work, Reply, Reading, Views, Idle, Sums}
use Rattle.pdpd.specs.Connections.{AreIsolated, Clocked, ServesVisit}
use Rattle.pdpd.specs.Fault.{IsOfSetting}

-- a fault of one of the settings
abbrev pub IsOfSettings : Fault → Type 0
IsOfSettings fault =
    IsOfSetting Work fault
    ⊎ (IsOfSetting Reply fault
    ⊎ (IsOfSetting Reading fault ⊎ (IsOfSetting Views fault ⊎ (IsOfSetting Idle fault ⊎ IsOfSetting Sums fault))))

-- a connection was served, and the program ends by the fault, or goes on
abbrev pub ServesAny : {R : Type 0} → (R → Custody) → Option Fault → Clocked R → Clocked R → Visit → Type 0
ServesAny custody fault old new visit =
    (events : List Event) × (replies : List ServerReply) × ServesVisit custody fault old new events replies visit
    × AreServed custody old.front.server new.front.server events replies

-- what serving the next connection has come to: it was served, and the next is; or the program ends by the fault,
-- before a connection was there or after it was served
unfoldable pub ServesNext : {R : Type 0} → (R → Custody) → Result (Unit {0}) Fault → Clocked R → Clocked R → List Visit
    → Type 0
ServesNext custody (Ok _) old new visits =
    (visit : Visit) × (visits ≡ visit ∷ []) × ServesAny custody None old new visit
ServesNext custody (Err fault) old new visits =
    ((new ≡ old) × (visits ≡ []))
    ⊎ ((visit : Visit) × (visits ≡ visit ∷ []) × ServesAny custody (Some fault) old new visit)

-- `ServesNext`, of the connection that was given
pub record ServesNextOver {R P : Type 0} (custody : R → Custody) (came parted : P → Option (List Peer))
    (result : Result (Unit {0}) Fault) (old new : Clocked R) (peers_old peers_new : P) : Type 0 where
  pub visits : List Visit
  pub served : ServesNext custody result old new visits
  pub visited : HasVisits came parted peers_old peers_new visits

-- connections were served, as `AreIsolated` says
unfoldable pub Serves : {R : Type 0} → (R → Custody) → ℕ → Result (Unit {0}) Fault → Clocked R → Clocked R → Type 0
Serves custody count result old new = AreIsolated custody count result old new

-- the keeper behind a front holds what it is told to hold: it did before, if it does afterwards
abbrev pub WasSound : {R : Type 0} → (R → Custody) → Front R → Front R → Type 0
WasSound custody old new = (custody new.server.records).sound → (custody old.server.records).sound
