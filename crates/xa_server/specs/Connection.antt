-- A connection: what it takes and what it is answered, once and several times.
use Rattle.std.specs.Prelude.{◌≡◌, ◌≢◌, ◌+◌, ◌<◌, ◌≤◌, ◌⊎◌, ℕ, ℤ, true, false, List, [], ◌∷◌, ◌++◌, length, map}
use Rattle.std.specs.Prelude.{Option, Some, None, option_map, Result, Ok, Err}
use Rattle.std.specs.declared.alloc.AllocError.{AllocError}
use Rattle.xa_http.specs.declared.fault.SessionFault.{SessionFault}
use Rattle.xa_http.specs.declared.message.Message.{Message}
use Rattle.xa_http.specs.declared.session.Look.TheVariants as look
use Rattle.xa_http.specs.declared.session.Next.{Next}
use Rattle.xa_http.specs.declared.session.Next.TheVariants as next
use Rattle.xa_http.specs.Messages.{Cuts, IsLook, IsNext}
use Rattle.xa_http.specs.Stream.{Stream, fed}
use Rattle.xa_records.specs.Keeper.{Custody}
use Rattle.xa_server.specs.Alone.{Event, message_of}
use Rattle.xa_server.specs.declared.connection.Answered.{Answered}
use Rattle.xa_server.specs.declared.connection.Answered.TheVariants as answered
use Rattle.xa_server.specs.declared.drive_end.DriveEnd.{DriveEnd}
use Rattle.xa_server.specs.declared.drive_end.DriveEnd.TheVariants as end
use Rattle.xa_server.specs.declared.drive_end.DriveEnd.TheVariants.{NoClock}
use Rattle.xa_server.specs.declared.connection.Answer.{Answer}
use Rattle.xa_server.specs.declared.holding.Holding.{Holding}
use Rattle.xa_server.specs.declared.holding.Holding.TheVariants as holding
use Rattle.xa_server.specs.declared.replies.Reply.{Reply}
use Rattle.xa_server.specs.declared.replies.Reply.TheVariants.{Sent}
use Rattle.xa_server.specs.declared.connection.TakeError.{TakeError}
use Rattle.xa_server.specs.declared.connection.TakeError.TheVariants.{Memory, Full}
use Rattle.xa_server.specs.ErrorCode.{code_of_session_fault, error_reply}
use Rattle.xa_server.specs.Interruption.{ServesMessage}
use Rattle.xa_server.specs.Replies.{bytes_of}
use Rattle.xa_server.specs.Transfers.{Grows}
use Rattle.xa_server.specs.World.{ServerModel}

-- ---- one piece

-- a stream of which nothing has come
abbrev pub empty_stream : Stream
empty_stream = record { held = []; ended = false }

-- a connection takes a piece: whole, if it then holds at most 1,048,576 bytes; or nothing of it
abbrev pub TakesPiece : List ℕ → Stream → Result (Unit {0}) TakeError → Stream → Type 0
TakesPiece piece old (Ok _) new = (length old.held + length piece ≤ 1_048_576) × (new ≡ fed old piece)
TakesPiece piece old (Err Full) new = (1_048_576 < length old.held + length piece) × (new ≡ old)
TakesPiece piece old (Err Memory) new = (length old.held + length piece ≤ 1_048_576) × (new ≡ old)

-- ---- what is held

-- what a connection holds, before anything of it is answered
abbrev pub IsHolding : Stream → Holding → Type 0
IsHolding stream holding.Nothing = IsLook stream look.More × (stream.held ≡ [])
IsHolding stream holding.Part = IsLook stream look.More × (stream.held ≢ [])
IsHolding stream holding.Whole =
    IsLook stream look.Message ⊎ ((fault : SessionFault) × IsLook stream (look.Fault fault))
IsHolding stream holding.Ended = stream.ended ≡ true

-- ---- one answer

-- the answer to a message; it is the last if the session has ended with it
abbrev pub answer_after : Stream → Reply → Answer
answer_after after reply = record { reply = reply; last = after.ended }

-- the answer to the fault by which a stream ends
abbrev pub fault_answer : SessionFault → Answer
fault_answer fault = record { reply = Sent (error_reply (code_of_session_fault fault)); last = true }

-- the answer, if there is one
abbrev pub answer_of : Answered → Option Answer
answer_of (answered.Reply answer) = Some answer
answer_of answered.Waits = None
answer_of answered.Ended = None

-- the reply that a connection is answered, if it is one
abbrev pub reply_of : Answered → Option Reply
reply_of answered = option_map (λ answer. answer.reply) (answer_of answered)

-- what a connection is answered, by what its session gives next; `after` is the rest of its stream
abbrev pub IsGiven : Next → Stream → Answered → Type 0
IsGiven (next.Message message) after given = (reply : Reply) × (given ≡ answered.Reply (answer_after after reply))
IsGiven (next.Fault fault) after given = given ≡ answered.Reply (fault_answer fault)
IsGiven next.More after given = given ≡ answered.Waits
IsGiven next.Ended after given = given ≡ answered.Ended

-- what the server does by what a session gives: it serves a message, with that reply, and else does nothing
abbrev pub ServesNext : {R : Type 0} → (R → Custody) → ℤ → ServerModel R → Option Next → Option Reply → ServerModel R
    → Type 0
ServesNext custody moment old (Some (next.Message message)) (Some reply) new =
    ServesMessage custody old new (moment, message) reply
ServesNext custody moment old _ reply new = new ≡ old

-- the next of a connection was answered, by what its session gave; or there was no memory, and nothing was done
abbrev pub AnswersNext : {R : Type 0} → (R → Custody) → ℤ → ServerModel R → Stream → Result Answered AllocError
    → ServerModel R → Stream → Type 0
AnswersNext custody moment old stream (Ok answered) new after =
    (given : Next) × IsNext stream given after × IsGiven given after answered
    × ServesNext custody moment old (Some given) (reply_of answered) new
AnswersNext custody moment old stream (Err _) new after = (stream.ended ≡ false) × (new ≡ old) × (after ≡ stream)

-- what a clock tells for what a session gives: a moment for a message, and it isn't asked for anything else
abbrev pub TellsFor : Next → ℤ → Option (List (Option ℤ)) → Option (List (Option ℤ)) → Type 0
TellsFor (next.Message message) moment old new = Grows old new (Some moment ∷ [])
TellsFor _ moment old new = new ≡ old

-- the next of a connection was answered, a message at the moment that the clock told for it; or there was no moment for
-- a message, or no memory, and nothing was done
abbrev pub AnswersNow : {R : Type 0} → (R → Custody) → Option (List (Option ℤ)) → Option (List (Option ℤ))
    → ServerModel R → Stream → Result Answered DriveEnd → ServerModel R → Stream → Type 0
AnswersNow custody told told_new old stream (Ok answered) new after =
    (moment : ℤ) × (is : AnswersNext custody moment old stream (Ok answered) new after)
    × TellsFor is.0 moment told told_new
AnswersNow custody told told_new old stream (Err NoClock) new after =
    IsLook stream look.Message × Grows told told_new (None ∷ []) × (new ≡ old) × (after ≡ stream)
AnswersNow custody told told_new old stream (Err end.Memory) new after =
    (new ≡ old) × (after ≡ stream)
    × ((told_new ≡ told) ⊎ ((moment : ℤ) × IsLook stream look.Message × Grows told told_new (Some moment ∷ [])))
AnswersNow custody told told_new old stream (Err _) new after = ⊥

-- the session has ended by the fault that stands first
abbrev pub EndsBy : SessionFault → Stream → Answer → Stream → Type 0
EndsBy fault old answer new = IsNext old (next.Fault fault) new × (answer ≡ fault_answer fault)

-- ---- one answer after another

-- the messages of events
abbrev pub messages_of : List Event → List Message
messages_of events = map message_of events

-- what a session answers after the last whole message: the fault by which it ends, or that it wants more bytes, or
-- that it has ended with that message
abbrev pub StopsBy : Option SessionFault → Stream → Stream → Type 0
StopsBy (Some fault) last new = IsNext last (next.Fault fault) new
StopsBy None last new = IsNext last next.More new ⊎ IsNext last next.Ended new

-- the whole messages that a stream holds, after which it stops as `StopsBy` says
abbrev pub HasMessages : Stream → List Message → Option SessionFault → Stream → Type 0
HasMessages old messages fault new = (last : Stream) × Cuts old messages last × StopsBy fault last new

-- the reply to the fault by which a stream ends, if it ends by one
abbrev pub fault_replies : Option SessionFault → List (List ℕ)
fault_replies None = []
fault_replies (Some fault) = error_reply (code_of_session_fault fault) ∷ []

-- the replies to messages, and after them the reply to the fault by which the stream ends, if it does
abbrev pub all_replies : List Reply → Option SessionFault → List (List ℕ)
all_replies run fault = map bytes_of run ++ fault_replies fault
