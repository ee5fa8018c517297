-- Many connections over one server: what an answer is, and what one event after another does.
use Rattle.std.specs.Prelude.{◌≡◌, ℤ, false, List, [], ◌∷◌, ◌++◌, Option, Some, None, option_map, Result, Ok, Err}
use Rattle.std.specs.Prelude.{IsTrue}
use Rattle.xa_http.specs.declared.session.Next.{Next}
use Rattle.xa_http.specs.declared.session.Next.TheVariants as next
use Rattle.xa_http.specs.Messages.{IsNext}
use Rattle.xa_http.specs.Stream.{Stream}
use Rattle.xa_records.specs.Keeper.{Custody}
use Rattle.xa_server.specs.Alone as messages
use Rattle.xa_server.specs.Connection.{IsGiven, ServesNext, answer_of}
use Rattle.xa_server.specs.declared.connection.Answered.{Answered}
use Rattle.xa_server.specs.declared.connection.Answer.{Answer}
use Rattle.xa_server.specs.declared.event.Event.{Event}
use Rattle.xa_server.specs.declared.event.Event.TheVariants as event
use Rattle.xa_server.specs.declared.event.Outcome.{Outcome}
use Rattle.xa_server.specs.declared.event.Outcome.TheVariants as outcome
use Rattle.xa_server.specs.declared.front.Front.{Front}
use Rattle.xa_server.specs.declared.front_error.FrontError.{FrontError}
use Rattle.xa_server.specs.declared.front_error.FrontError.TheVariants.{Memory, NoSuchConnection}
use Rattle.xa_server.specs.declared.lines.Conn.{Conn}
use Rattle.xa_server.specs.declared.replies.Reply.{Reply}
use Rattle.xa_server.specs.Lines.{IsClosed, IsHeld, IsOpen, IsOpened, Lines, line_at, with_line}
use Rattle.xa_server.specs.Serving.{AreServed}
use Rattle.xa_server.specs.World.{ServerState, server_state}

-- what is known of a front: its server, and its connections
pub record FrontState : Type 0 where
  pub server : ServerState
  pub lines : Lines

-- the state of a front, by what its keeper keeps
abbrev pub front_state : {R : Type 0} → (R → Custody) → Front R → FrontState
front_state custody front = record { server = server_state custody front.server; lines = front.lines }

-- a front is sound if its keeper is
abbrev pub front_is_sound : {R : Type 0} → (R → Custody) → Front R → Type 0
front_is_sound custody front = (custody front.server.records).sound

-- a front is clean if its keeper is: if the disk has given back what was written
abbrev pub front_is_clean : {R : Type 0} → (R → Custody) → Front R → Type 0
front_is_clean custody front = (custody front.server.records).clean

-- a front can go on if its keeper can
abbrev pub front_is_open : {R : Type 0} → (R → Custody) → Front R → Type 0
front_is_open custody front = IsTrue (custody front.server.records).is_open

-- the reply in the result of an answer, if there is one
abbrev pub reply_in_result : Result (Option Answer) FrontError → Option Reply
reply_in_result (Ok answer) = option_map (λ answer. answer.reply) answer
reply_in_result (Err _) = None

-- a connection is answered, and no other changes; `given` is what its session gave. Or nothing is done
abbrev pub AnswersAt : Conn → Lines → Option Next → Result (Option Answer) FrontError → Lines → Type 0
AnswersAt conn old (Some given) (Ok answer) new =
    (stream after : Stream) × (answered : Answered) × IsOpen conn old stream × IsNext stream given after
    × IsGiven given after answered × (answer ≡ answer_of answered) × (new ≡ with_line conn (Some after) old)
AnswersAt conn old None (Err NoSuchConnection) new = (line_at conn old ≡ None) × (new ≡ old)
AnswersAt conn old None (Err Memory) new =
    (stream : Stream) × IsOpen conn old stream × (stream.ended ≡ false) × (new ≡ old)
AnswersAt conn old _ _ new = ⊥

-- a connection is answered by the server of a front
abbrev pub AnswersLine : {R : Type 0} → (R → Custody) → Conn → ℤ → Front R → Result (Option Answer) FrontError → Front R
    → Type 0
AnswersLine custody conn moment old result new =
    (given : Option Next) × AnswersAt conn old.lines given result new.lines
    × ServesNext custody moment old.server given (reply_in_result result) new.server

-- what an event does to the connections, and its outcome; `given` is what a session gave, if one was asked
abbrev pub Does : Event → Lines → Option Next → Outcome → Lines → Type 0
Does event.Begin old given (outcome.Begun result) new = (given ≡ None) × IsOpened old result new
Does (event.Piece conn piece) old given (outcome.Held result) new =
    (given ≡ None) × IsHeld conn piece.now old result new
Does (event.Answer conn moment) old given (outcome.Answered result) new = AnswersAt conn old given result new
Does (event.Finish conn) old given (outcome.Finished result) new = (given ≡ None) × IsClosed conn old result new
Does _ old given _ new = ⊥

-- what events do to the connections, one after another; `nexts` are what sessions gave to each
abbrev pub Plays : List Event → List Outcome → List (Option Next) → Lines → Lines → Type 0
Plays [] [] [] old new = new ≡ old
Plays (event ∷ events) (outcome ∷ outcomes) (given ∷ nexts) old new =
    (mid : Lines) × Does event old given outcome mid × Plays events outcomes nexts mid new
Plays _ _ _ old new = ⊥

-- the message that an event cuts off its stream, with its moment
abbrev pub message_cut : Event → Option Next → List messages.Event
message_cut (event.Answer conn moment) (Some (next.Message message)) = (moment, message) ∷ []
message_cut _ _ = []

-- the messages that events cut off, one after another: those of all connections
abbrev pub messages_cut : List Event → List (Option Next) → List messages.Event
messages_cut (event ∷ events) (given ∷ nexts) = message_cut event given ++ messages_cut events nexts
messages_cut _ _ = []

-- the reply to a message that was cut off
abbrev pub reply_given : Option Next → Outcome → List Reply
reply_given (Some (next.Message message)) (outcome.Answered (Ok (Some answer))) = answer.reply ∷ []
reply_given _ _ = []

-- the replies to the messages that events cut off
abbrev pub replies_given : List (Option Next) → List Outcome → List Reply
replies_given (given ∷ nexts) (outcome ∷ outcomes) = reply_given given outcome ++ replies_given nexts outcomes
replies_given _ _ = []

-- Events were played: each did what it does, one after another. The messages that they cut off, of all connections in
-- order, were served one after another: they are one run of the server, in which each domain's replies are those of its
-- own machine, used by it alone, whatever comes on which connection and in which pieces.
pub record IsPlayed {R : Type 0} (custody : R → Custody) (old new : Front R) (events : List Event)
    (outcomes : List Outcome) : Type 0 where
  pub nexts : List (Option Next)
  pub plays : Plays events outcomes nexts old.lines new.lines
  pub served : AreServed custody old.server new.server (messages_cut events nexts) (replies_given nexts outcomes)
