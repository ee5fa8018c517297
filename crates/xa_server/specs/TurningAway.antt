-- Messages that are turned away: a connection's message is cut off and answered by the 503, and no server is asked.
use Rattle.std.specs.Prelude.{◌≡◌, ℕ, ℤ, true, false, List, [], ◌∷◌, ◌++◌, Option, Some, None, Result, Ok, Err}
use Rattle.xa_http.specs.declared.message.Message.{Message}
use Rattle.xa_http.specs.declared.session.Next.{Next}
use Rattle.xa_http.specs.declared.session.Next.TheVariants as next
use Rattle.xa_http.specs.Changing.{asks_for_change}
use Rattle.xa_http.specs.Messages.{IsFirst}
use Rattle.xa_http.specs.Stream.{Stream}
use Rattle.xa_records.specs.DomainState.{DomainState}
use Rattle.xa_records.specs.Keeper.{Custody}
use Rattle.xa_server.specs.Alone as messages
use Rattle.xa_server.specs.Connection.{answer_after}
use Rattle.xa_server.specs.declared.connection.turning_away.TurnedAway.{TurnedAway}
use Rattle.xa_server.specs.declared.connection.Answer.{Answer}
use Rattle.xa_server.specs.declared.event.Event.{Event}
use Rattle.xa_server.specs.declared.event.Outcome.{Outcome}
use Rattle.xa_server.specs.declared.event.Outcome.TheVariants as outcome
use Rattle.xa_server.specs.declared.front.Front.{Front}
use Rattle.xa_server.specs.declared.front_error.FrontError.{FrontError}
use Rattle.xa_server.specs.declared.front_error.FrontError.TheVariants.{Memory, NoSuchConnection}
use Rattle.xa_server.specs.declared.lines.Conn.{Conn}
use Rattle.xa_server.specs.declared.replies.Reply.{Reply}
use Rattle.xa_server.specs.declared.replies.Reply.TheVariants.{Sent}
use Rattle.xa_server.specs.Front.{Plays, message_cut, reply_given}
use Rattle.xa_server.specs.Lines.{IsOpen, Lines, line_at, with_line}
use Rattle.xa_server.specs.Machine.{next_state, step}
use Rattle.xa_server.specs.Replies.{unavailable_reply}
use Rattle.xa_server.specs.Serving.{AreServed}

-- ---- one message

-- the reply to a message that is turned away: it is sent, and no refusal for want of memory or storage
abbrev pub turned_away_reply : Reply
turned_away_reply = Sent unavailable_reply

-- the first message of a stream was turned away, with that answer
abbrev pub TurnsAwayFirst : Stream → Message → Answer → Stream → Type 0
TurnsAwayFirst old message answer new = IsFirst old message new × (answer ≡ answer_after new turned_away_reply)

-- no message of a stream is whole
abbrev pub HasNoFirst : Stream → Type 0
HasNoFirst stream = (message : Message) (rest : Stream) → ¬ (IsFirst stream message rest)

-- the first message of a stream was turned away; or none is whole, and nothing was done
abbrev pub TurnsAway : Stream → Option TurnedAway → Stream → Type 0
TurnsAway old (Some turned) new = TurnsAwayFirst old turned.message turned.answer new
TurnsAway old None new = HasNoFirst old × (new ≡ old)

-- the first message of a connection was turned away, and no other connection changes; or nothing is done
abbrev pub TurnsAwayAt : Conn → Lines → Result (Option Answer) FrontError → Lines → Type 0
TurnsAwayAt conn old (Ok (Some answer)) new =
    (stream after : Stream) × (message : Message) × IsOpen conn old stream
    × TurnsAwayFirst stream message answer after × (new ≡ with_line conn (Some after) old)
TurnsAwayAt conn old (Ok None) new = (stream : Stream) × IsOpen conn old stream × HasNoFirst stream × (new ≡ old)
TurnsAwayAt conn old (Err NoSuchConnection) new = (line_at conn old ≡ None) × (new ≡ old)
TurnsAwayAt conn old (Err Memory) new = (stream : Stream) × IsOpen conn old stream × (new ≡ old)
TurnsAwayAt conn old (Err _) new = ⊥

-- ---- among others

-- how a message is answered: by the server, whatever it asks for; by the server, since it asks for no change; or it is
-- turned away, since it asks for one
pub data Handling : Type 0 where
  serves : Handling
  serves_unchanging : Handling
  turns_away : Handling

-- a call was made so; `given` is what a session gave, if one was asked
abbrev pub IsHandled : Handling → Option Next → Outcome → Type 0
IsHandled serves given told = Unit {0}
IsHandled serves_unchanging (Some (next.Message message)) told = asks_for_change message ≡ false
IsHandled serves_unchanging given told = Unit {0}
IsHandled turns_away (Some (next.Message message)) (outcome.Answered (Ok (Some answer))) =
    (asks_for_change message ≡ true) × (answer.reply ≡ turned_away_reply)
IsHandled turns_away given told = ⊥

-- each of them was
abbrev pub AreHandled : List Handling → List (Option Next) → List Outcome → Type 0
AreHandled [] [] [] = Unit {0}
AreHandled (how ∷ hows) (given ∷ nexts) (told ∷ outcomes) = IsHandled how given told × AreHandled hows nexts outcomes
AreHandled _ _ _ = ⊥

-- the message that is served by a call: none by one that turns it away
abbrev pub message_served : Handling → Event → Option Next → List messages.Event
message_served serves event given = message_cut event given
message_served serves_unchanging event given = message_cut event given
message_served turns_away event given = []

-- the messages that are served, one after another
abbrev pub messages_served : List Handling → List Event → List (Option Next) → List messages.Event
messages_served (how ∷ hows) (event ∷ events) (given ∷ nexts) =
    message_served how event given ++ messages_served hows events nexts
messages_served _ _ _ = []

-- the reply of the server by a call, if a message was served
abbrev pub reply_served : Handling → Option Next → Outcome → List Reply
reply_served serves given told = reply_given given told
reply_served serves_unchanging given told = reply_given given told
reply_served turns_away given told = []

-- the replies to the messages that are served
abbrev pub replies_served : List Handling → List (Option Next) → List Outcome → List Reply
replies_served (how ∷ hows) (given ∷ nexts) (told ∷ outcomes) =
    reply_served how given told ++ replies_served hows nexts outcomes
replies_served _ _ _ = []

-- Events were played, and messages were turned away among them, as `hows` says of each. To its connection a message
-- that is turned away is one that was answered by the 503, so it stands among the events as an answer; but that call
-- wasn't made, and the server wasn't asked. To the server it is as if it had never come: the others, of all
-- connections in order, were served one after another, and are one run of it, with its headline (`AreServed`).
pub record IsPlayedBeside {R : Type 0} (custody : R → Custody) (old new : Front R) (hows : List Handling)
    (events : List Event) (outcomes : List Outcome) : Type 0 where
  pub nexts : List (Option Next)
  pub plays : Plays events outcomes nexts old.lines new.lines
  pub handled : AreHandled hows nexts outcomes
  pub served : AreServed custody old.server new.server (messages_served hows events nexts)
      (replies_served hows nexts outcomes)

-- ---- what is served beside them

-- the law: a message that asks for no change leaves the state of its domain. So while each that asks for one is turned
-- away, none is changed
abbrev pub LeavesState : Type 0
LeavesState =
    (operator : List ℕ) (state : Option DomainState) (message : Message) (moment : ℤ)
    → asks_for_change message ≡ false → next_state (step operator state message moment) ≡ state
