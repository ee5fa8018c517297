-- The headline: whatever the other domains do, each domain's replies are those of its own machine, used by it alone.
use Rattle.std.specs.Prelude.{◌≡◌, ℕ, List, [], ◌∷◌, map, if◌then◌else◌}
use Rattle.xa_server.specs.declared.replies.Reply.{Reply}
use Rattle.xa_server.specs.declared.replies.Reply.TheVariants.{Sent, Refused}
use Rattle.xa_server.specs.Alone.{Event, is_own, own_events, replies_alone, state_after}
use Rattle.xa_server.specs.Served.{IsRun, state}
use Rattle.xa_server.specs.World.{World}

-- no message was refused
abbrev pub AllSent : List Reply → Type 0
AllSent [] = Unit {0}
AllSent (Sent _ ∷ replies) = AllSent replies
AllSent (Refused _ ∷ replies) = ⊥

-- the replies at the places of the domain's own messages, in order
abbrev pub replies_to : List ℕ → List Event → List Reply → List Reply
replies_to domain [] replies = []
replies_to domain (event ∷ events) [] = []
replies_to domain (event ∷ events) (reply ∷ replies) =
    if is_own domain event then reply ∷ replies_to domain events replies else replies_to domain events replies

-- the domain was told what its own machine, used by it alone, tells it, and is left in the state in which that leaves
-- it
pub record IsAlone (old new : World) (events : List Event) (replies : List Reply) (domain : List ℕ) : Type 0 where
  pub told : replies_to domain events replies ≡ map Sent
      (replies_alone old.operator (state domain old) (own_events domain events))
  pub left : state domain new ≡ state_after old.operator (state domain old) (own_events domain events)

-- the headline, of a run of which no message was refused
abbrev pub IsIsolated : World → World → List Event → List Reply → Type 0
IsIsolated old new events replies = AllSent replies → (domain : List ℕ) → IsAlone old new events replies domain

-- the messages that were not refused
abbrev pub answered_events : List Event → List Reply → List Event
answered_events [] replies = []
answered_events (event ∷ events) [] = []
answered_events (event ∷ events) (Sent _ ∷ replies) = event ∷ answered_events events replies
answered_events (event ∷ events) (Refused _ ∷ replies) = answered_events events replies

-- the replies that were not refused
abbrev pub sent_replies : List Reply → List Reply
sent_replies [] = []
sent_replies (Sent bytes ∷ replies) = Sent bytes ∷ sent_replies replies
sent_replies (Refused _ ∷ replies) = sent_replies replies

-- the headline, of a run with refusals: as if the refused messages had never come
abbrev pub IsIsolatedBesideRefusals : World → World → List Event → List Reply → Type 0
IsIsolatedBesideRefusals old new events replies =
    (domain : List ℕ) → IsAlone old new (answered_events events replies) (sent_replies replies) domain

-- two runs agree on a domain: one operator, one state of the domain as they begin, and its own messages the same
pub record AgreeOn (domain : List ℕ) (first second : World) (first_events second_events : List Event) : Type 0 where
  pub operator : first.operator ≡ second.operator
  pub state : state domain first ≡ state domain second
  pub messages : own_events domain first_events ≡ own_events domain second_events

-- the consequence of the headline, in two worlds: however the other domains differ, the domain is told the same and is
-- left in one state
abbrev pub TwoWorldsAgree : Type 0
TwoWorldsAgree =
    (first first_after second second_after : World) (first_events second_events : List Event)
    (first_replies second_replies : List Reply) (domain : List ℕ)
    → IsRun first first_events first_replies first_after → AllSent first_replies
    → IsRun second second_events second_replies second_after → AllSent second_replies
    → AgreeOn domain first second first_events second_events
    → (replies_to domain first_events first_replies ≡ replies_to domain second_events second_replies)
    × (state domain first_after ≡ state domain second_after)

-- the consequence for runs with refusals: they agree on the messages that were answered, and the replies to these are
-- the same
abbrev pub TwoWorldsAgreeBesideRefusals : Type 0
TwoWorldsAgreeBesideRefusals =
    (first first_after second second_after : World) (first_events second_events : List Event)
    (first_replies second_replies : List Reply) (domain : List ℕ)
    → IsRun first first_events first_replies first_after → IsRun second second_events second_replies second_after
    → AgreeOn domain first second (answered_events first_events first_replies)
    (answered_events second_events second_replies)
    → (replies_to domain (answered_events first_events first_replies) (sent_replies first_replies)
    ≡ replies_to domain (answered_events second_events second_replies) (sent_replies second_replies))
    × (state domain first_after ≡ state domain second_after)
