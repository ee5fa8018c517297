-- The machine of one domain, used by that domain alone.
use Rattle.std.specs.Prelude.{ℕ, ℤ, Bool, false, List, [], ◌∷◌, filter, Option, Some, None, bytes_eq}
use Rattle.xa_http.specs.declared.message.Message.{Message}
use Rattle.xa_records.specs.DomainState.{DomainState}
use Rattle.xa_server.specs.Machine.{next_state, reply_of, step}
use Rattle.xa_server.specs.Owner.{owner}

-- an event: a message, after the moment at which it is answered
abbrev pub Event : Type 0
Event = ℤ × Message

-- the moment of an event
abbrev pub moment_of : Event → ℤ
moment_of event = event.0

-- the message of an event
abbrev pub message_of : Event → Message
message_of event = event.1

-- whether a name, if there is one, is that of the domain
abbrev pub is_owner : List ℕ → Option (List ℕ) → Bool
is_owner domain None = false
is_owner domain (Some name) = bytes_eq name domain

-- whether the message of an event is the domain's own
abbrev pub is_own : List ℕ → Event → Bool
is_own domain event = is_owner domain (owner (message_of event))

-- the events of a domain: its own messages with their moments, in order
abbrev pub own_events : List ℕ → List Event → List Event
own_events domain events = filter (is_own domain) events

-- the replies of a domain's machine to messages, from a state of the domain
abbrev pub replies_alone : List ℕ → Option DomainState → List Event → List (List ℕ)
replies_alone operator state [] = []
replies_alone operator state (event ∷ events) =
    let next = step operator state (message_of event) (moment_of event) in
    reply_of next ∷ replies_alone operator (next_state next) events

-- the state of a domain after its machine has answered messages, from a state of the domain
abbrev pub state_after : List ℕ → Option DomainState → List Event → Option DomainState
state_after operator state [] = state
state_after operator state (event ∷ events) =
    state_after operator (next_state (step operator state (message_of event) (moment_of event))) events
