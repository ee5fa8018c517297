-- The messages of a stream (RFC 9112, section 2), and what a session answers when it is asked for the next.
use Rattle.std.specs.Prelude.{◌≡◌, ℕ, ◌<◌, ◌≤◌, ◌⊎◌, true, false, List, ◌++◌, length, map, take, Ok, Err, [], ◌∷◌}
use Rattle.httparse.specs.Grammar.{RequestHead, print_request, ReadsRequest, HasNoRequest}
use Rattle.httparse.specs.Grammar.{NeverHasRequest, MayBecomeRequest, field_value}
use Rattle.httparse.specs.Grammar as grammar
use Rattle.xa_http.specs.declared.message.Field.{Field}
use Rattle.xa_http.specs.declared.message.Message.{Message}
use Rattle.xa_http.specs.declared.fault.SessionFault.{SessionFault}
use Rattle.xa_http.specs.declared.fault.SessionFault.TheVariants.{BadHead, HeadTooLarge}
use Rattle.xa_http.specs.declared.session.Look.{Look}
use Rattle.xa_http.specs.declared.session.Look.TheVariants as look
use Rattle.xa_http.specs.declared.session.Next.{Next}
use Rattle.xa_http.specs.declared.session.Next.TheVariants as next
use Rattle.xa_http.specs.Length.{body_length}
use Rattle.xa_http.specs.Closing.{closes}
use Rattle.xa_http.specs.Stream.{Stream}

-- a field line's name, and its value without the white space around it
abbrev pub field_of : grammar.Field → Field
field_of f = record { name = f.name; value = field_value f }

-- the fields of a head
abbrev pub fields_of : RequestHead → List Field
fields_of h = map field_of h.fields

-- the message of that head and that body
abbrev pub message_of : RequestHead → List ℕ → Message
message_of h body = record {
  method = h.method;
  target = h.target;
  fields = fields_of h;
  body = body;
  close = closes h.minor (fields_of h);
}

-- the bytes in which a head is looked for: it has at most 16,384
unfoldable pub window : List ℕ → List ℕ
window held = take 16_384 held

-- the bytes begin with the head h, of no more bytes than a head may have, and after is what follows it
abbrev pub BeginsWithHead : List ℕ → RequestHead → List ℕ → Type 0
BeginsWithHead held h after = ReadsRequest held h after × (length (print_request h) ≤ 16_384)

-- the bytes begin with that message, and rest is what follows it
unfoldable pub BeginsWithMessage : List ℕ → Message → List ℕ → Type 0
BeginsWithMessage held message rest =
    (h : RequestHead) × BeginsWithHead held h (message.body ++ rest)
    × (body_length (fields_of h) ≡ Ok (length message.body)) × (message ≡ message_of h message.body)

-- the bytes begin with a message
abbrev pub BeginsWithSome : List ℕ → Type 0
BeginsWithSome held = (message : Message) × (rest : List ℕ) × BeginsWithMessage held message rest

-- the message is the first of the stream: none is of a stream that has ended, and a message that closes it ends it
abbrev pub IsFirst : Stream → Message → Stream → Type 0
IsFirst old message new =
    (old.ended ≡ false) × BeginsWithMessage old.held message new.held × (new.ended ≡ message.close)

-- these messages are the first of the stream, one after another
abbrev pub Cuts : Stream → List Message → Stream → Type 0
Cuts old [] new = old ≡ new
Cuts old (message ∷ messages) new = (after : Stream) × IsFirst old message after × Cuts after messages new

-- neither is a head whole in the window, nor is it certain that none begins there
abbrev pub IsHeadOpen : List ℕ → Type 0
IsHeadOpen held = HasNoRequest (window held) × MayBecomeRequest (window held)

-- a head is whole, and more bytes of its body are wanted
abbrev pub IsBodyOpen : List ℕ → Type 0
IsBodyOpen held =
    (h : RequestHead) × (after : List ℕ) × (n : ℕ)
    × BeginsWithHead held h after × (body_length (fields_of h) ≡ Ok n) × (length after < n)

-- more bytes may make a message of what is held
unfoldable pub IsUnfinished : List ℕ → Type 0
IsUnfinished held = (IsHeadOpen held × (length held < 16_384)) ⊎ IsBodyOpen held

-- no head is whole, and none can be of what is held: none begins like that, or it has more bytes than a head may have
abbrev pub IsOpeningFaulty : List ℕ → SessionFault → Type 0
IsOpeningFaulty held BadHead = NeverHasRequest (window held)
IsOpeningFaulty held HeadTooLarge = IsHeadOpen held × (16_384 ≤ length held)
IsOpeningFaulty held fault = ⊥

-- a head is whole, and it has too many fields, or the body that it announces is not taken
abbrev pub IsHeadFaulty : List ℕ → SessionFault → Type 0
IsHeadFaulty held fault =
    (h : RequestHead) × (after : List ℕ) × BeginsWithHead held h after × (body_length (fields_of h) ≡ Err fault)

-- no message that is taken stands at the front of what is held, however it goes on, and the fault says why
unfoldable pub IsFaulty : List ℕ → SessionFault → Type 0
IsFaulty held fault = IsOpeningFaulty held fault ⊎ IsHeadFaulty held fault

-- what stands at the front of the bytes of a stream that goes on
abbrev pub StandsAtFront : List ℕ → Look → Type 0
StandsAtFront held look.Message = BeginsWithSome held
StandsAtFront held look.More = IsUnfinished held
StandsAtFront held (look.Fault fault) = IsFaulty held fault
StandsAtFront held look.Ended = ⊥

-- what a session would answer if it were asked
abbrev pub IsLook : Stream → Look → Type 0
IsLook stream look.Ended = stream.ended ≡ true
IsLook stream look = (stream.ended ≡ false) × StandsAtFront stream.held look

-- what a session answers to the bytes that it holds, and what it holds then
abbrev pub IsNext : Stream → Next → Stream → Type 0
IsNext old (next.Message message) new = IsFirst old message new
IsNext old next.More new = (old.ended ≡ false) × IsUnfinished old.held × (new ≡ old)
IsNext old (next.Fault fault) new =
    (old.ended ≡ false) × IsFaulty old.held fault × (new ≡ record old { ended = true })
IsNext old next.Ended new = (old.ended ≡ true) × (new ≡ old)

-- what a session that was asked gives, and what it holds then, before a fault has ended it
abbrev pub IsCut : Stream → Next → Stream → Type 0
IsCut old (next.Fault fault) new = IsLook old (look.Fault fault) × (new ≡ old)
IsCut old given new = IsNext old given new
