-- What is done for one connection, call by call: a write, a read, an answer, and another write.
use Rattle.std.specs.Prelude.{◌≡◌, ◌≢◌, ◌<◌, ◌≤◌, ◌⊎◌, ℕ, Bool, true, List, [], ◌∷◌, ◌++◌, length}
use Rattle.std.specs.Prelude.{Option, Some, None, Result, Ok, Err}
use Rattle.std.specs.Duration.{as_nanos}
use Rattle.xa_records.specs.Keeper.{Custody}
use Rattle.xa_server.specs.declared.connection.Answer.{Answer}
use Rattle.xa_server.specs.declared.front.Front.{Front}
use Rattle.xa_server.specs.declared.front_error.FrontError.{FrontError}
use Rattle.xa_server.specs.declared.lines.Conn.{Conn}
use Rattle.xa_server.specs.Transfers.{Grows}
use Rattle.xa_server.specs.TurningAway.{Handling, IsPlayedBeside}
use Rattle.xa_reactor.specs.declared.access.Access.{Access}
use Rattle.xa_reactor.specs.declared.access.Access.TheVariants.{All}
use Rattle.xa_reactor.specs.declared.halt.Halt.{Halt}
use Rattle.xa_reactor.specs.declared.lane.Lane.{Lane}
use Rattle.xa_reactor.specs.declared.lane.Share.{Share}
use Rattle.xa_reactor.specs.declared.limits.Stage.{Stage}
use Rattle.xa_reactor.specs.declared.limits.Stage.TheVariants as stage
use Rattle.xa_reactor.specs.declared.outgoing.Sending.{Sending}
use Rattle.xa_reactor.specs.declared.progress.Progress.{Progress}
use Rattle.xa_reactor.specs.declared.progress.Progress.TheVariants.{Ends, Goes, Waits}
use Rattle.xa_reactor.specs.Sending.{IsHeldOn, IsSentOf, answer_bytes, count_of, is_last, under_way_of}
use Rattle.xa_reactor.specs.Step.{AreHandledBy, Calls, DropsBy, EndsAs, IsAsked, IsEnd, IsFed, Keeps, Lasts, PartsFor}
use Rattle.xa_reactor.specs.Timing.{KeepsTime, MarksAt}
use Rattle.xa_reactor.specs.Traffic.{AreAt, Traffic, finished, received_at, sent_at}

-- ---- why it ends

-- a connection is to be closed exactly if that was so before, and for the same reason
abbrev pub EndsAlike : Progress → Progress → Type 0
EndsAlike (Ends why) progress = progress ≡ Ends why
EndsAlike last (Ends why) = ⊥
EndsAlike last progress = Unit {0}

-- a connection isn't to be closed
abbrev pub IsGoing : Progress → Type 0
IsGoing (Ends why) = ⊥
IsGoing Goes = Unit {0}
IsGoing Waits = Unit {0}

-- what went over the network where a reply has ended, by what is waited for then: a peer that is parted with was told
-- that no more is sent
abbrev pub finish_by : ℕ → Stage → List Traffic
finish_by place stage.Quiet = []
finish_by place stage.Incoming = []
finish_by place stage.Outgoing = []
finish_by place stage.Parting = finished place ∷ []

-- ---- since when it is waited for

-- what is waited for stays, and since when
abbrev pub StaysInStage : Lane → Lane → Type 0
StaysInStage old new = (new.stage ≡ old.stage) × (new.since ≡ old.since)

-- the ten seconds of a reply go on, and no byte more is counted in them
abbrev pub StaysMarked : Lane → Lane → Type 0
StaysMarked old new = (new.mark ≡ old.mark) × (new.moved ≡ old.moved)

-- behind a reply something else is waited for from now on; or it ends
abbrev pub EndsReply : ℕ → Lane → Lane → Type 0
EndsReply now old new =
    (StaysInStage old new × StaysMarked old new) ⊎ ((new.stage ≢ stage.Outgoing) × (as_nanos new.since ≡ now))

-- a reply that is under way stays so; or it was sent whole, and something else is waited for from now on
abbrev pub SendsInTime : ℕ → Lane → Lane → Type 0
SendsInTime now old new =
    StaysInStage old new
    ⊎ ((0 < length old.outgoing.left) × (new.outgoing.left ≡ []) × (old.stage ≡ stage.Outgoing)
    × (new.stage ≢ stage.Outgoing) × (as_nanos new.since ≡ now))

-- the time of a message begins with its first byte, and not anew with others; that of a reply isn't touched
abbrev pub ReadsInTime : ℕ → Lane → Lane → Type 0
ReadsInTime now old new =
    (StaysInStage old new × ((old.stage ≡ stage.Parting) ⊎ StaysMarked old new))
    ⊎ ((old.stage ≡ stage.Quiet) × (new.stage ≡ stage.Incoming) × (as_nanos new.since ≡ now))

-- behind an answer the time of its reply begins
abbrev pub AnswersInTime : ℕ → ℕ → Option Answer → Lane → Lane → Type 0
AnswersInTime at sent None old new = new ≡ record old { holding = new.holding }
AnswersInTime at sent (Some answer) old new =
    (as_nanos new.since ≡ at) × (new.stage ≡ stage.Outgoing → (as_nanos new.mark ≡ at) × (new.moved ≤ sent))

-- behind an answer its reply is held; without one nothing else is than before
abbrev pub HoldsAnswer : Option Answer → Lane → Lane → Type 0
HoldsAnswer None old new = new.outgoing ≡ old.outgoing
HoldsAnswer (Some answer) old new = IsHeldOn (under_way_of (Some answer)) new.outgoing

-- what was given for the next message was taken: nothing, and then what it holds alone has changed; or an answer, and
-- its reply is under way from now on
abbrev pub TakesAnswer : Option Answer → ℕ → Progress → Lane → Lane → Type 0
TakesAnswer None at progress old new =
    (progress ≢ Goes) × (new ≡ record old { holding = new.holding }) × ((place : ℕ) → IsEnd place [] new progress)
TakesAnswer (Some answer) at progress old new =
    (progress ≡ Goes) × (new.outgoing ≡ under_way_of (Some answer)) × (new.stage ≡ stage.Outgoing)
    × (as_nanos new.since ≡ at) × (as_nanos new.mark ≡ at) × (new.moved ≡ 0)

-- ---- calls of the front

-- a front made these calls
pub record Makes {R : Type 0} (custody : R → Custody) (calls : Calls) (front_old front_new : Front R) : Type 0 where
  pub played : IsPlayedBeside custody front_old front_new calls.hows calls.events calls.outcomes
  pub keeps : Keeps custody front_old front_new

-- a piece came to a connection's stream; or it was dropped, behind the last reply or for want of memory
pub record Feeds {R : Type 0} (custody : R → Custody) (conn : Conn) (piece : List ℕ) (front_old front_new : Front R)
    : Type 0 where
  pub read : List ℕ
  pub dropped : List ℕ
  pub calls : Calls
  pub all : piece ≡ read ++ dropped
  pub fed : IsFed conn read dropped calls.events calls.outcomes
  pub served : AreHandledBy All calls.hows
  pub makes : Makes custody calls front_old front_new
  pub lasts : Lasts conn front_old.lines front_new.lines

-- that, and whether all of it came to the stream
pub record FeedsBy {R : Type 0} (custody : R → Custody) (conn : Conn) (piece : List ℕ) (whole : Bool)
    (front_old front_new : Front R) : Type 0 where
  pub feeds : Feeds custody conn piece front_old front_new
  pub kept : whole ≡ true → feeds.dropped ≡ []

-- what a front gave for an answer, if it gave one
abbrev pub answer_in : Result (Option Answer) FrontError → Option Answer
answer_in (Ok given) = given
answer_in (Err error) = None

-- what a front gave for an answer, if it was asked and gave one
abbrev pub answer_asked : Result (Result (Option Answer) FrontError) Halt → Option Answer
answer_asked (Ok given) = answer_in given
answer_asked (Err halt) = None

-- these are all of one handling
abbrev pub AreAll : Handling → List Handling → Type 0
AreAll how [] = Unit {0}
AreAll how (one ∷ hows) = (one ≡ how) × AreAll how hows

-- the next of a connection was answered, and handled so; or it wasn't, and maybe wasn't asked for
pub record Asks {R : Type 0} (custody : R → Custody) (conn : Conn) (are : List Handling → Type 0)
    (answer : Option Answer) (front_old front_new : Front R) : Type 0 where
  pub calls : Calls
  pub handled : are calls.hows
  pub asked : IsAsked conn answer calls.events calls.outcomes
  pub makes : Makes custody calls front_old front_new
  pub lasts : Lasts conn front_old.lines front_new.lines

-- ---- one after another

-- one write was made: a part from the front of what was left was taken
pub record Writes {N : Type 0} (done : N → Option (List Traffic)) (share : Share) (progress : Progress) (old new : Lane)
    (network_old network_new : N) : Type 0 where
  pub how : Sending
  pub sent : IsSentOf how share.conn.number old.outgoing new.outgoing (done network_old) (done network_new)
  pub stays : StaysInStage old new
  pub marks : MarksAt (as_nanos share.now) (count_of how) old new
  pub ends : IsEnd share.conn.number sent.traffic new progress

-- one write was made, or none; and if a reply was sent whole by it, something else is waited for
pub record Sends {N : Type 0} (done : N → Option (List Traffic)) (share : Share) (progress : Progress) (old new : Lane)
    (network_old network_new : N) : Type 0 where
  pub traffic : List Traffic
  pub there : AreAt share.conn.number traffic
  pub nothing_read : received_at share.conn.number traffic ≡ []
  pub balance : old.outgoing.left ≡ sent_at share.conn.number traffic ++ new.outgoing.left
  pub held : IsHeldOn old.outgoing new.outgoing
  pub parts : new.stage ≡ stage.Parting → (old.stage ≡ stage.Parting) ⊎ PartsFor old.outgoing.last share.parts
  pub time : SendsInTime (as_nanos share.now) old new
  pub marks : new.stage ≡ stage.Outgoing
      → MarksAt (as_nanos share.now) (length (sent_at share.conn.number traffic)) old new
  pub ends : IsEnd share.conn.number traffic new progress
  pub grows : Grows (done network_old) (done network_new) traffic

-- what was read was handed on
pub record Takes {R : Type 0} (custody : R → Custody) (share : Share) (progress : Progress) (piece : List ℕ)
    (old new : Lane) (front_old front_new : Front R) : Type 0 where
  pub feeds : Feeds custody share.conn piece front_old front_new
  pub parted : old.stage ≡ stage.Parting → feeds.read ≡ []
  pub kept : new.outgoing ≡ old.outgoing
  pub time : ReadsInTime (as_nanos share.now) old new
  pub ends : IsEnd share.conn.number [] new progress
  pub drops : DropsBy feeds.dropped new.stage progress

-- one read was made, or none, and what it gave was taken
pub record Reads {R N : Type 0} (custody : R → Custody) (done : N → Option (List Traffic)) (share : Share)
    (progress : Progress) (old new : Lane) (front_old front_new : Front R) (network_old network_new : N) : Type 0
  where
    pub piece : List ℕ
    pub traffic : List Traffic
    pub there : AreAt share.conn.number traffic
    pub nothing_sent : sent_at share.conn.number traffic ≡ []
    pub received : received_at share.conn.number traffic ≡ piece
    pub feeds : Feeds custody share.conn piece front_old front_new
    pub parted : old.stage ≡ stage.Parting → feeds.read ≡ []
    pub kept : new.outgoing ≡ old.outgoing
    pub time : ReadsInTime (as_nanos share.now) old new
    pub ends : new.outgoing.left ≡ [] → IsEnd share.conn.number traffic new progress
    pub drops : DropsBy feeds.dropped new.stage progress
    pub grows : Grows (done network_old) (done network_new) traffic

-- a write was made, or none, and behind it a read, or none
pub record SendsAndReads {R N : Type 0} (custody : R → Custody) (done : N → Option (List Traffic)) (share : Share)
    (progress : Progress) (old new : Lane) (front_old front_new : Front R) (network_old network_new : N) : Type 0
  where
    pub piece : List ℕ
    pub traffic : List Traffic
    pub there : AreAt share.conn.number traffic
    pub received : received_at share.conn.number traffic ≡ piece
    pub feeds : Feeds custody share.conn piece front_old front_new
    pub unread : (received_at share.conn.number traffic ≡ []) ⊎ (new.outgoing.left ≡ [])
    pub parted : old.stage ≡ stage.Parting → feeds.read ≡ []
    pub balance : old.outgoing.left ≡ sent_at share.conn.number traffic ++ new.outgoing.left
    pub held : IsHeldOn old.outgoing new.outgoing
    pub parts : new.stage ≡ stage.Parting
        → (old.stage ≡ stage.Parting)
        ⊎ ((new.outgoing.left ≡ []) × (old.outgoing.left ≢ []) × PartsFor old.outgoing.last share.parts)
    pub time : KeepsTime (as_nanos share.now) None old new
    pub marks : new.stage ≡ stage.Outgoing
        → MarksAt (as_nanos share.now) (length (sent_at share.conn.number traffic)) old new
    pub ends : IsEnd share.conn.number traffic new progress
    pub drops : DropsBy feeds.dropped new.stage progress
    pub grows : Grows (done network_old) (done network_new) traffic

-- the next message was answered, if it was, and a part from the front of its reply was sent
pub record AnswersAndSends {R N : Type 0} (custody : R → Custody) (done : N → Option (List Traffic)) (share : Share)
    (result : Result Progress Halt) (old new : Lane) (front_old front_new : Front R) (network_old network_new : N)
    : Type 0 where
  pub at : ℕ
  pub later : as_nanos share.now ≤ at
  pub answer : Option Answer
  pub asks : Asks custody share.conn (AreHandledBy share.access) answer front_old front_new
  pub traffic : List Traffic
  pub there : AreAt share.conn.number traffic
  pub nothing_read : received_at share.conn.number traffic ≡ []
  pub balance : answer_bytes answer ≡ sent_at share.conn.number traffic ++ new.outgoing.left
  pub held : HoldsAnswer answer old new
  pub parts : new.stage ≡ stage.Parting
      → (old.stage ≡ stage.Parting)
      ⊎ ((new.outgoing.left ≡ []) × (answer ≢ None) × PartsFor (is_last answer) share.parts)
  pub time : AnswersInTime at (length (sent_at share.conn.number traffic)) answer old new
  pub ends : EndsAs share.conn.number traffic new result
  pub grows : Grows (done network_old) (done network_new) traffic
