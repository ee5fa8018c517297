-- A step: what is done for one connection in its share of a turn.
use Rattle.std.specs.Prelude.{◌≡◌, ◌≢◌, ◌⊎◌, ◌≤◌, ℕ, Bool, true, List, [], ◌∷◌, ◌++◌, length}
use Rattle.std.specs.Prelude.{Option, Some, None, Result, Ok, Err}
use Rattle.std.specs.Duration.{as_nanos}
use Rattle.std.specs.List.{Contains}
use Rattle.xa_http.specs.Stream.{Stream}
use Rattle.xa_records.specs.Keeper.{Custody}
use Rattle.xa_server.specs.declared.connection.Answer.{Answer}
use Rattle.xa_server.specs.declared.event.Event.{Event}
use Rattle.xa_server.specs.declared.event.Event.TheVariants as event
use Rattle.xa_server.specs.declared.event.Outcome.{Outcome}
use Rattle.xa_server.specs.declared.event.Outcome.TheVariants as outcome
use Rattle.xa_server.specs.declared.front.Front.{Front}
use Rattle.xa_server.specs.declared.lines.Conn.{Conn}
use Rattle.xa_server.specs.Front.{front_is_clean, front_is_open, front_is_sound}
use Rattle.xa_server.specs.Lines.{IsOpen, Lines, with_line}
use Rattle.xa_server.specs.Transfers.{Grows}
use Rattle.xa_server.specs.TurningAway.{Handling, IsPlayedBeside, serves, serves_unchanging, turns_away}
use Rattle.xa_reactor.specs.declared.access.Access.{Access}
use Rattle.xa_reactor.specs.declared.access.Access.TheVariants.{All, Asks, Changes}
use Rattle.xa_reactor.specs.declared.lane.Lane.{Lane}
use Rattle.xa_reactor.specs.declared.lane.Share.{Share}
use Rattle.xa_reactor.specs.declared.limits.Stage.{Stage}
use Rattle.xa_reactor.specs.declared.limits.Stage.TheVariants.{Outgoing, Parting}
use Rattle.xa_reactor.specs.declared.progress.Progress.{Progress}
use Rattle.xa_reactor.specs.declared.progress.Progress.TheVariants.{Waits, Goes, Ends}
use Rattle.xa_reactor.specs.declared.progress.Reason.TheVariants.{Ended, Failed, Idle, Late, DrivenOut, WantOfMemory}
use Rattle.xa_reactor.specs.Sending.{AreSent, IsHeldOn, UnderWay, then_under_way}
use Rattle.xa_reactor.specs.Timing.{KeepsMark, KeepsTime}
use Rattle.xa_reactor.specs.Traffic.{AreAt, HasFailedIn, Traffic, received, received_at, sent_at}

-- calls of a front, how each was made, and what it gave. One by which a message is turned away stands among them as an
-- answer (`IsPlayedBeside`)
pub record Calls : Type 0 where
  pub hows : List Handling
  pub events : List Event
  pub outcomes : List Outcome

-- no call
abbrev pub no_calls : Calls
no_calls = record { hows = []; events = []; outcomes = [] }

-- a message is handled by the address at which its connection came: at the first of two it is turned away exactly if it
-- asks for a change; else it is served
abbrev pub IsHandledBy : Access → Handling → Type 0
IsHandledBy Asks serves = ⊥
IsHandledBy Asks serves_unchanging = Unit {0}
IsHandledBy Asks turns_away = Unit {0}
IsHandledBy _ serves = Unit {0}
IsHandledBy _ serves_unchanging = ⊥
IsHandledBy _ turns_away = ⊥

-- each is
abbrev pub AreHandledBy : Access → List Handling → Type 0
AreHandledBy access [] = Unit {0}
AreHandledBy access (how ∷ hows) = IsHandledBy access how × AreHandledBy access hows

-- bytes came to a connection's stream, by one call, or none did; those for which there was no memory were dropped
abbrev pub IsFed : Conn → List ℕ → List ℕ → List Event → List Outcome → Type 0
IsFed conn read dropped [] [] = read ≡ []
IsFed conn read dropped (event.Piece other piece ∷ []) (outcome.Held (Ok _) ∷ []) =
    (other ≡ conn) × (piece.now ≡ read) × (dropped ≡ [])
IsFed conn read dropped (event.Piece other piece ∷ []) (outcome.Held (Err _) ∷ []) =
    (other ≡ conn) × (piece.now ≡ dropped) × (read ≡ [])
IsFed conn read dropped _ _ = ⊥

-- the next of a connection was answered, by one call, or wasn't asked for
abbrev pub IsAsked : Conn → Option Answer → List Event → List Outcome → Type 0
IsAsked conn answer [] [] = answer ≡ None
IsAsked conn answer (event.Answer other moment ∷ []) (outcome.Answered (Ok given) ∷ []) =
    (other ≡ conn) × (answer ≡ given)
IsAsked conn answer (event.Answer other moment ∷ []) (outcome.Answered (Err _) ∷ []) = (other ≡ conn) × (answer ≡ None)
IsAsked conn answer _ _ = ⊥

-- a step: at which time it was taken, behind the answer if there was one; whether a connection ends with the reply that
-- it is sent then; what was read and written at the place of a connection; what was read, of which what came to its
-- stream; and what it was answered after that
pub record Step : Type 0 where
  pub conn : Conn
  pub at : ℕ
  pub parts : Bool
  pub traffic : List Traffic
  pub read : List ℕ
  pub dropped : List ℕ
  pub answer : Option Answer
  pub fed : Calls
  pub asked : Calls

-- why a connection is parted with behind a reply: that is its last, or the program ends
abbrev pub PartsFor : Bool → Bool → Type 0
PartsFor last ends = (last ≡ true) ⊎ (ends ≡ true)

-- a connection was parted with behind a reply that was sent whole
pub record PartsBehind (step : Step) (was : UnderWay) (new : Lane) : Type 0 where
  pub whole : new.outgoing.left ≡ []
  pub reply : (was.left ≢ []) ⊎ (step.answer ≢ None)
  pub why : PartsFor (then_under_way was step.answer).last step.parts

-- what a step does to its connection
pub record IsStepOn (step : Step) (old new : Lane) : Type 0 where
  -- bytes that were read came to its stream, and then its next message was answered, if it was
  pub fed : IsFed step.conn step.read step.dropped step.fed.events step.fed.outcomes
  pub asked : IsAsked step.conn step.answer step.asked.events step.asked.outcomes
  pub received : received_at step.conn.number step.traffic ≡ step.read ++ step.dropped
  -- replies are sent whole, once and in order, each before the next message is answered
  pub sent : AreSent old.outgoing.left step.answer (sent_at step.conn.number step.traffic) new.outgoing.left
  -- a reply is held until all of it is sent
  pub held : IsHeldOn (then_under_way old.outgoing step.answer) new.outgoing
  -- nothing is read unless all that was under way is sent: so a peer that takes no reply is read from no more
  pub unread : (received_at step.conn.number step.traffic ≡ [])
      ⊎ ((more : List ℕ) × (sent_at step.conn.number step.traffic ≡ old.outgoing.left ++ more))
  -- what comes behind the last reply is dropped
  pub parted : old.stage ≡ Parting → step.read ≡ []
  -- it is parted with only behind a reply that was sent whole, and was its last
  pub parts : new.stage ≡ Parting → (old.stage ≡ Parting) ⊎ PartsBehind step old.outgoing new
  -- its time is counted anew only if something else is waited for
  pub time : KeepsTime step.at step.answer old new
  -- and that in which 65,536 bytes of a reply are taken only with a reply, or if so many were
  pub marks : new.stage ≡ Outgoing
      → KeepsMark step.at (length (sent_at step.conn.number step.traffic)) step.answer old new
  -- no other place was read from or written to
  pub there : AreAt step.conn.number step.traffic

-- what the keeper of a front has come to: if it is sound now, or clean, or open, it was so before; and if it was sound,
-- it still is, unless the disk hasn't given back what was written, or it was shut
pub record Keeps {R : Type 0} (custody : R → Custody) (front_old front_new : Front R) : Type 0 where
  pub sound : front_is_sound custody front_new → front_is_sound custody front_old
  pub clean : front_is_clean custody front_new → front_is_clean custody front_old
  pub was_open : front_is_open custody front_new → front_is_open custody front_old
  pub stays : front_is_clean custody front_new → front_is_sound custody front_old → front_is_open custody front_new
      → front_is_sound custody front_new

-- a front made these calls, and a network did these things
pub record Works {R N : Type 0} (custody : R → Custody) (done : N → Option (List Traffic)) (calls : Calls)
    (traffic : List Traffic) (front_old front_new : Front R) (network_old network_new : N) : Type 0 where
  pub played : IsPlayedBeside custody front_old front_new calls.hows calls.events calls.outcomes
  pub keeps : Keeps custody front_old front_new
  pub grows : Grows (done network_old) (done network_new) traffic

-- calls, and others after them
abbrev pub joined : Calls → Calls → Calls
joined first second =
    record {
      hows = first.hows ++ second.hows;
      events = first.events ++ second.events;
      outcomes = first.outcomes ++ second.outcomes;
    }

-- why a connection is to be closed behind what was read and written at its place, as it is then: its stream has ended
-- and nothing is under way to its peer, or it was parted with; or a read or a write failed. Want of memory can't be
-- told from outside
abbrev pub IsEnd : ℕ → List Traffic → Lane → Progress → Type 0
IsEnd place traffic lane Waits = Unit {0}
IsEnd place traffic lane Goes = Unit {0}
IsEnd place traffic lane (Ends Ended) =
    (Contains traffic (received place []) × (lane.outgoing.left ≡ [])) ⊎ (lane.stage ≡ Parting)
IsEnd place traffic lane (Ends Failed) = HasFailedIn traffic
IsEnd place traffic lane (Ends WantOfMemory) = Unit {0}
IsEnd place traffic lane (Ends Idle) = ⊥
IsEnd place traffic lane (Ends Late) = ⊥
IsEnd place traffic lane (Ends DrivenOut) = ⊥

-- bytes that were read are dropped only behind the last reply, or for want of memory, by which the connection ends
abbrev pub DropsBy : List ℕ → Stage → Progress → Type 0
DropsBy dropped stage (Ends WantOfMemory) = Unit {0}
DropsBy dropped stage progress = (dropped ≡ []) ⊎ (stage ≡ Parting)

-- that by what a step came to
abbrev pub DropsAs : {E : Type 0} → List ℕ → Stage → Result Progress E → Type 0
DropsAs dropped stage (Ok progress) = DropsBy dropped stage progress
DropsAs dropped stage (Err error) = (dropped ≡ []) ⊎ (stage ≡ Parting)

-- that of a step by what it came to
abbrev pub EndsAs : {E : Type 0} → ℕ → List Traffic → Lane → Result Progress E → Type 0
EndsAs place traffic lane (Ok progress) = IsEnd place traffic lane progress
EndsAs place traffic lane (Err error) = Unit {0}

-- a connection had its share: that is one step of it, in which a message is answered only if there was room for its
-- reply, and nothing else
pub record IsStep {R N E : Type 0} (custody : R → Custody) (done : N → Option (List Traffic)) (share : Share)
    (result : Result Progress E) (old new : Lane) (front_old front_new : Front R) (network_old network_new : N)
    : Type 0 where
  pub step : Step
  pub its : step.conn ≡ share.conn
  pub later : as_nanos share.now ≤ step.at
  pub parts : step.parts ≡ share.parts
  pub is_step : IsStepOn step old new
  pub room : (step.answer ≡ None) ⊎ (share.has_room ≡ true)
  pub fed : AreHandledBy All step.fed.hows
  pub handled : AreHandledBy share.access step.asked.hows
  pub ends : EndsAs step.conn.number step.traffic new result
  pub drops : DropsAs step.dropped new.stage result
  pub works : Works custody done (joined step.fed step.asked) step.traffic front_old front_new network_old network_new

-- a connection that is open stays open, and no other changes
abbrev pub Lasts : Conn → Lines → Lines → Type 0
Lasts conn old new =
    (stream : Stream) → IsOpen conn old stream → (after : Stream) × (new ≡ with_line conn (Some after) old)
