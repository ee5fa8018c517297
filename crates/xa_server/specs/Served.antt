-- What serving does to a world: one message, and one after another.
use Rattle.std.specs.Prelude.{◌≡◌, ℕ, ℤ, Bool, true, List, [], ◌∷◌, OnErr, Option, Some, None}
use Rattle.xa_http.specs.declared.message.Message.{Message}
use Rattle.xa_records.specs.DomainState.{DomainState}
use Rattle.xa_records.specs.declared.refusal.Failure.TheVariants.{Memory, Store}
use Rattle.xa_records.specs.Keeper.{IsOneMore}
use Rattle.xa_records.specs.Kept.{IsChanged, names_of, state_of}
use Rattle.xa_server.specs.declared.replies.Reply.{Reply}
use Rattle.xa_server.specs.declared.replies.Reply.TheVariants.{Sent, Refused}
use Rattle.xa_server.specs.Alone.{Event, message_of, moment_of}
use Rattle.xa_server.specs.Machine.{answer, general_reply, next_state, reply_of, step}
use Rattle.xa_server.specs.Owner.{owner}
use Rattle.xa_server.specs.World.{World}

-- the state of a domain in a world
abbrev pub state : List ℕ → World → Option DomainState
state domain world = state_of domain world.kept

-- a domain's message was answered by its machine, and the domain has gone over into the state that this gives, with
-- the number and the epoch that belong to it; no other domain has changed in anything, and by an error answer nothing
-- has
pub record IsStep (old new : World) (domain : List ℕ) (moment : ℤ) (message : Message) (bytes : List ℕ) : Type 0 where
  pub reply : bytes ≡ reply_of (step old.operator (state domain old) message moment)
  pub next : IsChanged old.kept new.kept domain (next_state (step old.operator (state domain old) message moment))
  pub error_answer : OnErr (answer old.operator (state domain old) message moment) (new ≡ old)
  pub operator : new.operator ≡ old.operator

-- a message without an owner was answered, and nothing has changed
pub record IsGeneral (old new : World) (message : Message) (bytes : List ℕ) : Type 0 where
  pub reply : bytes ≡ general_reply old.operator (names_of old.kept) message
  pub same : new ≡ old

-- a message was answered, by whose it is
abbrev pub IsSent : World → World → ℤ → Message → List ℕ → Option (List ℕ) → Type 0
IsSent old new moment message bytes None = IsGeneral old new message bytes
IsSent old new moment message bytes (Some domain) = IsStep old new domain moment message bytes

-- what the server did with a message: a refused one has changed nothing
abbrev pub IsServed : World → World → ℤ → Message → Reply → Type 0
IsServed old new moment message (Sent bytes) = IsSent old new moment message bytes (owner message)
IsServed old new moment message (Refused _) = new ≡ old

-- how often the keeper has failed by a reply: once more if the message was refused for want of storage, and else no
-- more
abbrev pub CountsReply : ℕ → ℕ → Reply → Type 0
CountsReply old new (Sent bytes) = new ≡ old
CountsReply old new (Refused Memory) = new ≡ old
CountsReply old new (Refused Store) = IsOneMore old new

-- whether what follows a reply can go on: after any but a refusal for want of storage, and after that if the keeper is
-- open then
abbrev pub may_go_on : Reply → Bool → Bool
may_go_on (Refused Store) is_open = is_open
may_go_on _ is_open = true

-- the server did these things with the messages of these events, one after another
abbrev pub IsRun : World → List Event → List Reply → World → Type 0
IsRun old [] [] new = new ≡ old
IsRun old (event ∷ events) (reply ∷ replies) new =
    (mid : World) × IsServed old mid (moment_of event) (message_of event) reply × IsRun mid events replies new
IsRun old [] (_ ∷ _) new = ⊥
IsRun old (_ ∷ _) [] new = ⊥
