-- Laws of a front: the messages of a connection are those of its own bytes, however the pieces of all connections are
-- cut and mixed; and what is played is made by one call after another.
use Rattle.std.specs.Prelude.{◌≢◌, List, [], ◌∷◌, ◌++◌, Option, Some, Ok, map, nat_eq, if◌then◌else◌}
use Rattle.xa_http.specs.declared.message.Message.{Message}
use Rattle.xa_http.specs.declared.session.Next.{Next}
use Rattle.xa_http.specs.declared.session.Next.TheVariants as next
use Rattle.xa_http.specs.Laws.{GoesThrough, Step, StopsAt, answers, bytes_fed, feeds}
use Rattle.xa_http.specs.Messages.{Cuts}
use Rattle.xa_http.specs.Stream.{Stream, fed}
use Rattle.xa_records.specs.Keeper.{Custody}
use Rattle.xa_server.specs.declared.event.Event.{Event}
use Rattle.xa_server.specs.declared.event.Event.TheVariants as event
use Rattle.xa_server.specs.declared.event.Outcome.{Outcome}
use Rattle.xa_server.specs.declared.event.Outcome.TheVariants as outcome
use Rattle.xa_server.specs.declared.front.Front.{Front}
use Rattle.xa_server.specs.declared.lines.Conn.{Conn}
use Rattle.xa_server.specs.declared.replies.Reply.{Reply}
use Rattle.xa_server.specs.Front.{IsPlayed, Plays}
use Rattle.xa_server.specs.Lines.{IsOpen, Lines}

-- what is done to a connection's session by an event of a connection: the step, if they are the same
abbrev pub own_step : Conn → Conn → Step → List Step
own_step conn other step = if nat_eq other.number conn.number then step ∷ [] else []

-- what an event does to the connection's session: a piece that was taken is fed, and an answer asks it
abbrev pub step_on : Conn → Event → Option Next → Outcome → List Step
step_on conn (event.Piece other piece) given (outcome.Held (Ok _)) = own_step conn other (feeds piece.now)
step_on conn (event.Answer other moment) (Some given) result = own_step conn other (answers given)
step_on conn _ given result = []

-- what events do to the connection's session, one after another
abbrev pub steps_on : Conn → List Event → List (Option Next) → List Outcome → List Step
steps_on conn (event ∷ events) (given ∷ nexts) (outcome ∷ outcomes) =
    step_on conn event given outcome ++ steps_on conn events nexts outcomes
steps_on conn _ nexts outcomes = []

-- the message that an event cuts off the connection, with its reply
abbrev pub exchange_on : Conn → Event → Option Next → Outcome → List (Message × Reply)
exchange_on conn (event.Answer other moment) (Some (next.Message message)) (outcome.Answered (Ok (Some answer))) =
    if nat_eq other.number conn.number then (message, answer.reply) ∷ [] else []
exchange_on conn _ given result = []

-- the messages that events cut off the connection, each with its reply
abbrev pub exchanges_on : Conn → List Event → List (Option Next) → List Outcome → List (Message × Reply)
exchanges_on conn (event ∷ events) (given ∷ nexts) (outcome ∷ outcomes) =
    exchange_on conn event given outcome ++ exchanges_on conn events nexts outcomes
exchanges_on conn _ nexts outcomes = []

-- an event doesn't close the connection
abbrev pub LeavesOpen : Conn → Event → Type 0
LeavesOpen conn (event.Finish other) = other.number ≢ conn.number
LeavesOpen conn _ = Unit {0}

-- no event closes the connection
abbrev pub LeaveOpen : Conn → List Event → Type 0
LeaveOpen conn [] = Unit {0}
LeaveOpen conn (event ∷ events) = LeavesOpen conn event × LeaveOpen conn events

-- the law: while a connection is open, the messages that are answered on it are the first of all the bytes that
-- it has, and takes, so that its k-th reply is that to the k-th message of its stream; and it holds the rest. Events
-- of other connections in between make no difference
abbrev pub LinesAreStreams : Type 0
LinesAreStreams =
    (conn : Conn) (events : List Event) (outcomes : List Outcome) (nexts : List (Option Next)) (old new : Lines)
    (stream : Stream)
    → Plays events outcomes nexts old new → IsOpen conn old stream → LeaveOpen conn events
    → (after rest : Stream) × IsOpen conn new after
    × GoesThrough stream (steps_on conn events nexts outcomes) after
    × Cuts (fed stream (bytes_fed (steps_on conn events nexts outcomes)))
    (map (λ exchange. exchange.0) (exchanges_on conn events nexts outcomes)) rest
    × StopsAt rest after

-- the law: if nothing was done, no event was played; and events that were played, and then others, were played
-- together. So calls that were made one after another, each the play of one event, were played
abbrev pub PlaysGoOn : {R : Type 0} → (R → Custody) → Type 0
PlaysGoOn {R} custody =
    ((front : Front R) → IsPlayed custody front front [] [])
    × ((old mid new : Front R) (events others : List Event) (outcomes rest : List Outcome)
    → IsPlayed custody old mid events outcomes → IsPlayed custody mid new others rest
    → IsPlayed custody old new (events ++ others) (outcomes ++ rest))
