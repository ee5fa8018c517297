-- For how long a connection is waited for. Times are nanoseconds.
use Rattle.std.specs.Prelude.{◌≡◌, ◌≢◌, ◌⊎◌, ◌≤◌, ◌+◌, ◌-◌, ℕ, [], Option, Some, None, option_map}
use Rattle.std.specs.Duration.{as_nanos}
use Rattle.xa_server.specs.declared.connection.Answer.{Answer}
use Rattle.xa_reactor.specs.declared.lane.Lane.{Lane}
use Rattle.xa_reactor.specs.declared.limits.Stage.{Stage}
use Rattle.xa_reactor.specs.declared.limits.Stage.TheVariants.{Quiet, Incoming, Outgoing, Parting}
use Rattle.xa_reactor.specs.declared.limits.Terms.{Terms}

-- how long a stage may last, by the limits that are set; none if for ever: until the first byte of a message, for a
-- message from its first byte on, for a reply, and behind the last reply
abbrev pub limit_in : Option ℕ → Option ℕ → Stage → Option ℕ
limit_in idle message Quiet = idle
limit_in idle message Incoming = message
limit_in idle message Outgoing = Some 120_000_000_000
limit_in idle message Parting = Some 2_000_000_000

-- how much is left of a limit
abbrev pub left_of : ℕ → ℕ → ℕ → ℕ
left_of limit since now = limit - (now - since)

-- a limit has passed
abbrev pub HasPassed : Option ℕ → ℕ → ℕ → Type 0
HasPassed None since now = ⊥
HasPassed (Some limit) since now = limit ≤ now - since

-- a connection was waited for as long as its stage may last, or for ten seconds in which less than 65,536 bytes of a
-- reply were taken, when the turn began
abbrev pub IsLate : Terms → Lane → Type 0
IsLate terms lane =
    HasPassed
    (limit_in (option_map as_nanos terms.limits.idle) (option_map as_nanos terms.limits.message) lane.stage)
    (as_nanos lane.since) (as_nanos terms.began)
    ⊎ ((lane.stage ≡ Outgoing) × (10_000_000_000 ≤ as_nanos terms.began - as_nanos lane.mark))

-- if a connection was parted with, it isn't late
abbrev pub IsParted : Terms → Lane → Type 0
IsParted terms lane = lane.stage ≡ Parting → IsLate terms lane → ⊥

-- a connection that nothing has come on since then
abbrev pub IsFresh : ℕ → Lane → Type 0
IsFresh now lane = (lane.outgoing.left ≡ []) × (lane.stage ≡ Quiet) × (as_nanos lane.since ≡ now)

-- What a connection is waited for, and since when, changes in a share only so: it was answered; its reply was sent
-- whole, and something else is waited for; or a message begins. It is counted from the time of that.
abbrev pub KeepsTime : ℕ → Option Answer → Lane → Lane → Type 0
KeepsTime at answer old new =
    ((new.stage ≡ old.stage) × (new.since ≡ old.since))
    ⊎ ((as_nanos new.since ≡ at) × ((answer ≢ None)
    ⊎ (((old.stage ≡ Outgoing) × (new.stage ≢ Outgoing) × (new.outgoing.left ≡ []))
    ⊎ ((old.stage ≡ Quiet) × (new.stage ≡ Incoming)))))

-- Some bytes of a reply were taken. The ten seconds go on, and not more bytes are counted in them than were taken; or
-- they begin anew, since 65,536 bytes were taken in them, and none is counted in the new ones.
abbrev pub MarksAt : ℕ → ℕ → Lane → Lane → Type 0
MarksAt at sent old new =
    ((new.mark ≡ old.mark) × (new.moved ≤ old.moved + sent))
    ⊎ ((as_nanos new.mark ≡ at) × (65_536 ≤ old.moved + sent) × (new.moved ≡ 0))

-- the ten seconds of a reply begin with it, with no more bytes than were taken of it, and anew only by so many bytes
abbrev pub KeepsMark : ℕ → ℕ → Option Answer → Lane → Lane → Type 0
KeepsMark at sent None old new = MarksAt at sent old new
KeepsMark at sent (Some answer) old new = (as_nanos new.mark ≡ at) × (new.moved ≤ sent)
