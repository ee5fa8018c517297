-- Laws of the messages of a stream: however it is cut into pieces, the messages at its front are the same.
use Rattle.std.specs.Prelude.{◌≡◌, ℕ, List, [], ◌∷◌, ◌++◌, ◌⊎◌, false, true}
use Rattle.xa_http.specs.declared.message.Message.{Message}
use Rattle.xa_http.specs.declared.fault.SessionFault.{SessionFault}
use Rattle.xa_http.specs.declared.session.Next.{Next}
use Rattle.xa_http.specs.declared.session.Next.TheVariants as next
use Rattle.xa_http.specs.Stream.{Stream, fed}
use Rattle.xa_http.specs.Messages.{BeginsWithMessage, Cuts, IsFaulty, IsFirst, IsNext}

-- law: bytes that follow leave the message at the front as it was
abbrev pub KeepsMessages : Type 0
KeepsMessages =
    (held more : List ℕ) (message : Message) (rest : List ℕ)
    → BeginsWithMessage held message rest → BeginsWithMessage (held ++ more) message (rest ++ more)

-- law: bytes that follow leave the fault at the front as it was
abbrev pub KeepsFaults : Type 0
KeepsFaults = (held more : List ℕ) (fault : SessionFault) → IsFaulty held fault → IsFaulty (held ++ more) fault

-- law: no bytes that follow what is faulty make a message of it
abbrev pub FaultsAreFinal : Type 0
FaultsAreFinal =
    (held more : List ℕ) (fault : SessionFault) (message : Message) (rest : List ℕ)
    → IsFaulty held fault → ¬ (BeginsWithMessage (held ++ more) message rest)

-- law: if a stream has a first message, it is the only answer, and the stream goes on after it
abbrev pub AnswersMessages : Type 0
AnswersMessages =
    (old : Stream) (message : Message) (rest : Stream) (answer : Next) (new : Stream)
    → IsFirst old message rest → IsNext old answer new → (answer ≡ next.Message message) × (new ≡ rest)

-- the stream has no message
abbrev pub IsCutOff : Stream → Type 0
IsCutOff stream = (message : Message) (rest : Stream) → ¬ (IsFirst stream message rest)

-- law: a piece that is fed leaves the messages that were taken, and comes to what is held
abbrev pub FeedsOn : Type 0
FeedsOn =
    (first : Stream) (taken : List Message) (now : Stream) (piece : List ℕ) → Cuts first taken now
    → Cuts (fed first piece) taken (fed now piece)

-- law: a message that is taken joins those that were taken before
abbrev pub TakesOn : Type 0
TakesOn =
    (first : Stream) (taken : List Message) (now : Stream) (message : Message) (rest : Stream)
    → Cuts first taken now → IsFirst now message rest → Cuts first (taken ++ message ∷ []) rest

-- law: the whole messages of a stream are one list and no other, and what is left behind them is one stream
abbrev pub HasOneCut : Type 0
HasOneCut =
    (stream : Stream) (messages others : List Message) (rest last : Stream)
    → Cuts stream messages rest → IsCutOff rest → Cuts stream others last → IsCutOff last
    → (messages ≡ others) × (rest ≡ last)

-- what is done to a session: a piece is fed, or it is asked for the next message, and answers
pub data Step : Type 0 where
  feeds : List ℕ → Step
  answers : Next → Step

-- the session went through these steps
abbrev pub GoesThrough : Stream → List Step → Stream → Type 0
GoesThrough old [] new = old ≡ new
GoesThrough old (feeds piece ∷ steps) new = GoesThrough (fed old piece) steps new
GoesThrough old (answers answer ∷ steps) new = (mid : Stream) × IsNext old answer mid × GoesThrough mid steps new

-- all the bytes that were fed
abbrev pub bytes_fed : List Step → List ℕ
bytes_fed [] = []
bytes_fed (feeds piece ∷ steps) = piece ++ bytes_fed steps
bytes_fed (answers _ ∷ steps) = bytes_fed steps

-- an answer, before those that follow, if it is a message
abbrev pub with_answer : Next → List Message → List Message
with_answer (next.Message message) messages = message ∷ messages
with_answer next.More messages = messages
with_answer (next.Fault _) messages = messages
with_answer next.Ended messages = messages

-- the messages that were answered
abbrev pub messages_answered : List Step → List Message
messages_answered [] = []
messages_answered (feeds _ ∷ steps) = messages_answered steps
messages_answered (answers answer ∷ steps) = with_answer answer (messages_answered steps)

-- the session is where the messages leave the stream, or has ended there by a fault
abbrev pub StopsAt : Stream → Stream → Type 0
StopsAt rest new =
    (rest ≡ new)
    ⊎ ((fault : SessionFault) × (rest.ended ≡ false) × IsFaulty rest.held fault × (new ≡ record rest { ended = true }))

-- law: however a stream is cut into pieces, and whenever a session is asked, what it answers are the first messages of
-- the whole stream
abbrev pub AnswersFirstMessages : Type 0
AnswersFirstMessages =
    (stream : Stream) (steps : List Step) (new : Stream) → GoesThrough stream steps new
    → (rest : Stream) × Cuts (fed stream (bytes_fed steps)) (messages_answered steps) rest × StopsAt rest new
