-- A turn: connections are opened, each that is open has one share, and some are closed.
use Rattle.std.specs.Prelude.{◌≡◌, ◌≢◌, ◌⊎◌, ◌≤◌, ◌+◌, ◌-◌, ◌%◌, ℕ, zero, suc, Bool, true, false, List, [], ◌∷◌, ◌++◌}
use Rattle.std.specs.Prelude.{length, min, replicate, slice_index_or, slice_set, Option, Some, None, Ok, option_map}
use Rattle.std.specs.Prelude.{if◌then◌else◌, is_some}
use Rattle.std.specs.Duration.{as_nanos}
use Rattle.std.specs.List.{Contains, flat_map}
use Rattle.std.specs.declared.time.Duration.{Duration}
use Rattle.xa_records.specs.Keeper.{Custody}
use Rattle.xa_server.specs.declared.event.Event.TheVariants as event
use Rattle.xa_server.specs.declared.event.Outcome.TheVariants as outcome
use Rattle.xa_server.specs.declared.front.Front.{Front}
use Rattle.xa_server.specs.declared.lines.Conn.{Conn}
use Rattle.xa_server.specs.Lines.{Lines}
use Rattle.xa_server.specs.TurningAway.{serves}
use Rattle.xa_reactor.specs.declared.access.Access.{Access}
use Rattle.xa_reactor.specs.declared.access.Access.TheVariants.{All, Asks, Changes}
use Rattle.xa_reactor.specs.declared.board.Board.{Board}
use Rattle.xa_reactor.specs.declared.board.Ready.{Ready}
use Rattle.xa_reactor.specs.declared.lane.Lane.{Lane}
use Rattle.xa_reactor.specs.declared.limits.Limits.{Limits}
use Rattle.xa_reactor.specs.declared.limits.Stage.TheVariants.{Parting, Quiet}
use Rattle.xa_reactor.specs.declared.limits.Terms.{Terms}
use Rattle.xa_reactor.specs.declared.progress.Reason.{Reason}
use Rattle.xa_reactor.specs.declared.progress.Reason.TheVariants.{Ended, Failed, Idle, Late, DrivenOut, WantOfMemory}
use Rattle.xa_reactor.specs.Sending.{none_under_way}
use Rattle.xa_reactor.specs.Step.{AreHandledBy, Calls, IsStepOn, Step, Works, no_calls, joined}
use Rattle.xa_reactor.specs.Timing.{IsFresh, IsLate, IsParted}
use Rattle.xa_reactor.specs.Traffic.{HasFailedIn, Traffic, received, seated, vacated}

-- ---- places

-- the connections that are open, by their places
abbrev pub Lanes : Type 0
Lanes = List (Option Lane)

-- none is open
abbrev pub no_lanes : Lanes
no_lanes = replicate 64 None

-- the connection at a place, if one is open there
abbrev pub lane_at : ℕ → Lanes → Option Lane
lane_at place lanes = slice_index_or lanes place None

-- how many bytes are held for the reply to a connection, if it is open
abbrev pub bytes_of : Option Lane → ℕ
bytes_of None = 0
bytes_of (Some lane) = lane.outgoing.held

-- how many bytes are held for the replies that are under way
abbrev pub under_way : Lanes → ℕ
under_way [] = 0
under_way (lane ∷ lanes) = bytes_of lane + under_way lanes

-- no place is taken
abbrev pub AreFree : Lanes → Type 0
AreFree [] = Unit {0}
AreFree (None ∷ lanes) = AreFree lanes
AreFree (Some _ ∷ lanes) = ⊥

-- each place is taken
abbrev pub AreOpen : Lanes → Type 0
AreOpen [] = Unit {0}
AreOpen (None ∷ lanes) = ⊥
AreOpen (Some _ ∷ lanes) = AreOpen lanes

-- how many places are free: one, if nobody is there
abbrev pub free_at : Option Lane → ℕ
free_at None = 1
free_at (Some _) = 0

abbrev pub free_in : Lanes → ℕ
free_in [] = 0
free_in (lane ∷ lanes) = free_at lane + free_in lanes

-- a connection is open that came at the address for changes
abbrev pub IsForChanges : Option Lane → Type 0
IsForChanges None = ⊥
IsForChanges (Some lane) = lane.access ≡ Changes

-- one of them is
abbrev pub HasChanges : Lanes → Type 0
HasChanges [] = ⊥
HasChanges (lane ∷ lanes) = IsForChanges lane ⊎ HasChanges lanes

-- a connection is open at a place exactly if that of the front is
abbrev pub AreAlike : Lanes → Lines → Type 0
AreAlike [] [] = Unit {0}
AreAlike (None ∷ lanes) (None ∷ lines) = AreAlike lanes lines
AreAlike (Some _ ∷ lanes) (Some _ ∷ lines) = AreAlike lanes lines
AreAlike _ _ = ⊥

-- ---- deeds

-- what is done: a connection is opened, which came at that address; it has its share; or it is closed
pub data Deed : Type 0 where
  opens : Conn → Access → Deed
  steps : Step → Deed
  closes : Conn → Reason → Deed

-- the calls of a deed
abbrev pub calls_in : Deed → Calls
calls_in (opens conn access) =
    record { hows = serves ∷ []; events = event.Begin ∷ []; outcomes = outcome.Begun (Ok conn) ∷ [] }
calls_in (steps step) = joined step.fed step.asked
calls_in (closes conn reason) =
    record { hows = serves ∷ []; events = event.Finish conn ∷ []; outcomes = outcome.Finished (Ok tt) ∷ [] }

-- the calls of deeds, one after another
abbrev pub calls_of : List Deed → Calls
calls_of [] = no_calls
calls_of (deed ∷ deeds) = joined (calls_in deed) (calls_of deeds)

-- what went over the network by a deed: who is opened is seated at its place, and who is closed leaves it
abbrev pub traffic_in : Deed → List Traffic
traffic_in (opens conn access) = seated conn.number ∷ []
traffic_in (steps step) = step.traffic
traffic_in (closes conn reason) = vacated conn.number reason ∷ []

-- what did by deeds
abbrev pub traffic_of : List Deed → List Traffic
traffic_of deeds = flat_map traffic_in deeds

-- a connection may come, by the address at which it does: at that for changes, if no other that came there is open; at
-- the first of two, if a place is kept for such a one, or it is open
abbrev pub MayCome : Access → Lanes → Type 0
MayCome All lanes = Unit {0}
MayCome Asks lanes = HasChanges lanes ⊎ (2 ≤ free_in lanes)
MayCome Changes lanes = HasChanges lanes → ⊥

-- a connection is opened, and nothing is under way on it
pub record OpensAt (access : Access) (lane : Lane) (lanes : Lanes) : Type 0 where
  pub nothing : lane.outgoing ≡ none_under_way
  pub came : lane.access ≡ access
  pub may : MayCome access lanes

-- a message is answered only if at most 32 MiB of replies are held; and by the address at which its connection came,
-- which stays that
pub record AnswersAt (step : Step) (was is : Lane) (lanes : Lanes) : Type 0 where
  pub room : (step.answer ≡ None) ⊎ (under_way lanes ≤ 33_554_432)
  pub fed : AreHandledBy All step.fed.hows
  pub handled : AreHandledBy was.access step.asked.hows
  pub came : is.access ≡ was.access

-- What a deed does to the connections: one is opened where none is; one has its share; or one is closed. No other is
-- touched.
abbrev pub IsDone : Deed → Lanes → Lanes → Type 0
IsDone (opens conn access) old new =
    (lane : Lane) × (lane_at conn.number old ≡ None) × OpensAt access lane old
    × (new ≡ slice_set old conn.number (Some lane))
IsDone (steps step) old new =
    (was is : Lane) × (lane_at step.conn.number old ≡ Some was) × IsStepOn step was is × AnswersAt step was is old
    × (new ≡ slice_set old step.conn.number (Some is))
IsDone (closes conn reason) old new =
    (lane : Lane) × (lane_at conn.number old ≡ Some lane) × (new ≡ slice_set old conn.number None)

-- what deeds do, one after another
abbrev pub AreDone : List Deed → Lanes → Lanes → Type 0
AreDone [] old new = new ≡ old
AreDone (deed ∷ deeds) old new = (mid : Lanes) × IsDone deed old mid × AreDone deeds mid new

-- at which addresses connections come: at one; or at two
abbrev pub Fits : Bool → Access → Type 0
Fits false access = access ≡ All
Fits true access = access ≢ All

-- all that are opened come at one address, or at two
abbrev pub FitAll : Bool → List Deed → Type 0
FitAll split [] = Unit {0}
FitAll split (opens conn access ∷ deeds) = Fits split access × FitAll split deeds
FitAll split (_ ∷ deeds) = FitAll split deeds

-- ---- who is taken

-- a connection is idle since then: nothing is owed to it, and the first byte of a message is waited for. One that came
-- at the address for changes isn't idle in this sense: it is never driven out
abbrev pub IsIdleSince : Option Lane → ℕ → Type 0
IsIdleSince None since = ⊥
IsIdleSince (Some lane) since = IsFresh since lane × (lane.access ≢ Changes)

-- for what the socket at a place was found ready; for nothing, if there is no such place
abbrev pub ready_at : Board → ℕ → Ready
ready_at board place =
    slice_index_or board.ready place (record { readable = false; writable = false; ends = false })

-- something is known to have come at a place: a read may give something, or tell of the end
abbrev pub HasCome : Board → ℕ → Type 0
HasCome board place = (ready_at board place).readable ≡ true

-- a connection is idle since then, and nothing is known to have come on it; and none is idle for longer, but one on
-- which something is known to have come
pub record IsIdlest (board : Board) (lanes : Lanes) (place since : ℕ) : Type 0 where
  pub idle : IsIdleSince (lane_at place lanes) since
  pub silent : HasCome board place → ⊥
  pub longest : (other earlier : ℕ) → IsIdleSince (lane_at other lanes) earlier
      → (since ≤ earlier) ⊎ HasCome board other

-- no place is free for another connection, by the address at which it comes: at the first of two none but the one that
-- is kept. For one that comes at the address for changes none is ever driven out
abbrev pub IsFullFor : Access → Lanes → Type 0
IsFullFor All lanes = AreOpen lanes
IsFullFor Asks lanes = (HasChanges lanes × AreOpen lanes) ⊎ ((HasChanges lanes → ⊥) × (free_in lanes ≡ 1))
IsFullFor Changes lanes = ⊥

-- a connection may be driven out for another: no place is free for that, it is the one that has been idle for the
-- longest time, by what was known to be ready, and that is a tenth of a second
pub record MayGo (board : Board) (now place : ℕ) (access : Access) (lanes : Lanes) : Type 0 where
  pub full : IsFullFor access lanes
  pub since : ℕ
  pub idlest : IsIdlest board lanes place since
  pub long : 100_000_000 ≤ now - since

-- connections were taken: each was opened at a free place, or one was driven out for it; then it is at the place of
-- that one, if all were taken
abbrev pub AreTaken : Board → ℕ → List Deed → Lanes → Lanes → Type 0
AreTaken board now [] old new = new ≡ old
AreTaken board now (opens conn access ∷ deeds) old new =
    (lane : Lane) × (lane_at conn.number old ≡ None) × IsFresh now lane
    × AreTaken board now deeds (slice_set old conn.number (Some lane)) new
AreTaken board now (closes conn DrivenOut ∷ opens other access ∷ deeds) old new =
    (lane : Lane) × MayGo board now conn.number access old × (AreOpen old → other ≡ conn) × IsFresh now lane
    × AreTaken board now deeds (slice_set (slice_set old conn.number None) other.number (Some lane)) new
AreTaken board now _ old new = ⊥

-- ---- shares

-- why a connection was closed behind a step: its stream has ended and nothing is under way to its peer, or it was
-- parted with; a read or a write failed; or it is late, and of one that is idle nothing had come. Want of memory can't
-- be told from outside
abbrev pub EndsBy : Terms → Step → Lane → Reason → Type 0
EndsBy terms step lane Ended =
    (Contains step.traffic (received step.conn.number []) × (lane.outgoing.left ≡ [])) ⊎ (lane.stage ≡ Parting)
EndsBy terms step lane Failed = HasFailedIn step.traffic
EndsBy terms step lane Idle = (lane.stage ≡ Quiet) × IsLate terms lane
EndsBy terms step lane Late = (lane.stage ≢ Quiet) × IsLate terms lane
EndsBy terms step lane DrivenOut = ⊥
EndsBy terms step lane WantOfMemory = Unit {0}

-- a step of a turn: it was taken at no earlier time, and a connection ends with the reply that it is sent as in others
abbrev pub IsStepIn : Terms → Step → Type 0
IsStepIn terms step = (as_nanos terms.began ≤ step.at) × (step.parts ≡ terms.parts)

-- What is done for a place in a turn: nothing, if nobody is there; else one step, behind which the connection may be
-- closed, and is if it was parted with and is late. Bytes are dropped only behind the last reply, or for want of
-- memory, by which it is closed.
abbrev pub IsShareOf : Terms → ℕ → Option Lane → List Deed → Option Lane → Type 0
IsShareOf terms place None [] None = Unit {0}
IsShareOf terms place (Some was) (steps step ∷ []) (Some is) =
    (step.conn.number ≡ place) × IsStepIn terms step × IsParted terms is
    × ((step.dropped ≡ []) ⊎ (is.stage ≡ Parting))
IsShareOf terms place (Some was) (steps step ∷ closes conn reason ∷ []) None =
    (step.conn.number ≡ place) × (conn ≡ step.conn) × IsStepIn terms step
    × ((is : Lane) × IsStepOn step was is × EndsBy terms step is reason
    × ((step.dropped ≡ []) ⊎ ((is.stage ≡ Parting) ⊎ (reason ≡ WantOfMemory))))
IsShareOf terms place was deeds is = ⊥

-- the places from one on, round, so many
unfoldable pub rotated : ℕ → ℕ → List ℕ
rotated first zero = []
rotated first (suc count) = rotated first count ++ ((first + count) % 64 ∷ [])

-- these places had their shares, one after another
abbrev pub AreShared : Terms → List ℕ → List Deed → Lanes → Lanes → Type 0
AreShared terms [] deeds old new = (deeds ≡ []) × (new ≡ old)
AreShared terms (place ∷ places) deeds old new =
    (first rest : List Deed) × (mid : Lanes) × (deeds ≡ first ++ rest)
    × IsShareOf terms place (lane_at place old) first (lane_at place mid) × AreDone first old mid
    × AreShared terms places rest mid new

-- ---- the turn

-- a turn: what holds for all its shares, what was known to be ready when it began, from which place on shares were
-- given, and what was done
pub record Turn : Type 0 where
  pub terms : Terms
  pub board : Board
  pub first : ℕ
  pub taken : List Deed
  pub shared : List Deed

-- all that was done in a turn
abbrev pub deeds_in : Turn → List Deed
deeds_in turn = turn.taken ++ turn.shared

-- a turn was taken: connections were taken, and then each of the 64 places had its share, once, in the order of
-- places from `first` on
pub record IsTurn (turn : Turn) (old new : Lanes) : Type 0 where
  pub mid : Lanes
  pub takes : AreTaken turn.board (as_nanos turn.terms.began) turn.taken old mid
  pub opened : AreDone turn.taken old mid
  pub shares : AreShared turn.terms (rotated turn.first 64) turn.shared mid new

-- the limits that hold once the program was told to end: for a message's first byte a second is waited, if no less; and
-- for the rest of it no longer than before, and not for ever
abbrev pub least_idle : Option ℕ → Option ℕ
least_idle None = Some 1_000_000_000
least_idle (Some idle) = Some (min idle 1_000_000_000)

abbrev pub least_message : Option ℕ → Option ℕ
least_message None = Some 10_000_000_000
least_message (Some message) = Some message

-- the limits of a turn are those that are set, or those of a program that ends
pub record AreLimits (limits set : Limits) (leaves : Bool) : Type 0 where
  pub idle : option_map as_nanos limits.idle
      ≡ (if leaves then least_idle (option_map as_nanos set.idle) else option_map as_nanos set.idle)
  pub message : option_map as_nanos limits.message
      ≡ (if leaves then least_message (option_map as_nanos set.message) else option_map as_nanos set.message)

-- a program that was told to end then has waited for a second
abbrev pub HasLeft : Option Duration → ℕ → Type 0
HasLeft None now = ⊥
HasLeft (Some since) now = 1_000_000_000 ≤ now - as_nanos since

-- what holds for the shares of a turn that began then; a connection ends with the reply that it is sent only a second
-- after the program was told to end
pub record AreTerms (terms : Terms) (now : Duration) (set : Limits) (leaving : Option Duration) : Type 0 where
  pub began : terms.began ≡ now
  pub limits : AreLimits terms.limits set (is_some leaving)
  pub parts : terms.parts ≡ true → HasLeft leaving (as_nanos now)

module _ {R N : Type 0} (custody : R → Custody) (done : N → Option (List Traffic)) where
  -- a turn was taken that began then, by a front and over a network, of which that was known to be ready, and at which
  -- connections come at one address, or at two
  pub record TakesTurn (split : Bool) (board : Board) (now : Duration) (set : Limits) (leaving : Option Duration)
      (old new : Lanes) (front_old front_new : Front R) (network_old network_new : N) : Type 0 where
    pub turn : Turn
    pub told : turn.board ≡ board
    pub terms : AreTerms turn.terms now set leaving
    pub is_turn : IsTurn turn old new
    pub fit : FitAll split (deeds_in turn)
    pub works : Works custody done (calls_of (deeds_in turn)) (traffic_of (deeds_in turn)) front_old front_new
        network_old network_new

  -- a turn was broken off: this was done of it
  pub record BreaksOff (split : Bool) (old new : Lanes) (front_old front_new : Front R) (network_old network_new : N)
      : Type 0 where
    pub deeds : List Deed
    pub are_done : AreDone deeds old new
    pub fit : FitAll split deeds
    pub works : Works custody done (calls_of deeds) (traffic_of deeds) front_old front_new network_old network_new
