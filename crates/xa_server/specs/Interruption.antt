-- A list of messages that a crash interrupts: what of it is found when the server begins again.
use Rattle.std.specs.Prelude.{◌≡◌, ◌≤◌, ℕ, true, List, [], ◌∷◌, ◌++◌, length, take, IsTrue}
use Rattle.xa_records.specs.declared.refusal.Failure.TheVariants.{Store}
use Rattle.xa_records.specs.Keeper.{Custody}
use Rattle.xa_records.specs.Kept.{Kept, state_of}
use Rattle.xa_server.specs.Alone.{Event, message_of, moment_of, own_events, state_after}
use Rattle.xa_server.specs.Crash.{LeavesStep}
use Rattle.xa_server.specs.declared.replies.Reply.{Reply}
use Rattle.xa_server.specs.declared.replies.Reply.TheVariants.{Refused}
use Rattle.xa_server.specs.Isolation.{answered_events}
use Rattle.xa_server.specs.Served.{CountsReply, IsServed, may_go_on, state}
use Rattle.xa_server.specs.Work.{IsWork}
use Rattle.xa_server.specs.World.{ServerModel, World, world}

-- each domain is in the state in which its own machine, used by it alone, leaves it after these messages
abbrev pub AreStatesAfter : World → List Event → Kept → Type 0
AreStatesAfter old events left =
    (domain : List ℕ) → state_of domain left ≡ state_after old.operator (state domain old) (own_events domain events)

module _ {R : Type 0} (custody : R → Custody) where
  -- a message was served: these are clauses of `Server::serve`
  pub record Serves (old new : ServerModel R) (event : Event) (reply : Reply) : Type 0 where
    pub served : (custody new.records).sound
        → IsServed (world custody old) (world custody new) (moment_of event) (message_of event) reply
    pub clean : (custody new.records).clean → (custody old.records).clean
    pub stays : (custody new.records).clean → (custody old.records).sound → IsTrue (custody new.records).is_open
        → (custody new.records).sound
    pub stays_open : ¬ (reply ≡ Refused Store) → IsTrue (custody old.records).is_open
        → IsTrue (custody new.records).is_open
    pub crash : (custody new.records).clean → (custody old.records).sound
        → LeavesStep (custody old.records).may_leave (custody new.records).may_leave (world custody old)
        (moment_of event) (message_of event)

  -- a message was served: `Serves`, and the other clauses of `Server::serve`
  pub record ServesMessage (old new : ServerModel R) (event : Event) (reply : Reply) : Type 0 where
    pub serves : Serves old new event reply
    pub sound : (custody new.records).sound → (custody old.records).sound
    pub was_open : IsTrue (custody new.records).is_open → IsTrue (custody old.records).is_open
    pub counts : CountsReply (custody old.records).faults (custody new.records).faults reply
    pub work : (custody new.records).sound
        → IsWork (custody old.records).kept (moment_of event) (message_of event) reply old.decisions new.decisions

  -- messages were served one after another, and after each of them the keeper could go on: that is asked after a
  -- refusal for want of storage, and is so after any other reply
  abbrev pub ServesAll : ServerModel R → List Event → List Reply → ServerModel R → Type 0
  ServesAll old [] [] new = new ≡ old
  ServesAll old (event ∷ events) (reply ∷ replies) new =
      (mid : ServerModel R) × Serves old mid event reply × (may_go_on reply (custody mid.records).is_open ≡ true)
      × ServesAll mid events replies new
  ServesAll old [] (_ ∷ _) new = ⊥
  ServesAll old (_ ∷ _) [] new = ⊥

  -- messages were served, and then one more, whatever its reply: in it, or after it, the server crashes
  pub record IsInterrupted (old new : ServerModel R) (events : List Event) (replies : List Reply) (last : Event)
      (reply : Reply) : Type 0 where
    pub sound : (custody old.records).sound
    pub mid : ServerModel R
    pub before : ServesAll old events replies mid
    pub stopped : Serves mid new last reply
    pub clean : (custody new.records).clean

  -- what a crash leaves of messages of which so many were answered
  pub record LeavesFirst (old new : ServerModel R) (messages : List Event) (answered : ℕ) : Type 0 where
    -- a crash leaves the states after the first k messages, for some k: those that were answered are among them
    pub states : (left : Kept) → (custody new.records).may_leave left
        → (k : ℕ) × (answered ≤ k) × AreStatesAfter (world custody old) (take k messages) left
    -- a crash doesn't leave just anything
    pub some : (other : Kept) × ¬ (custody new.records).may_leave other

  -- wherever a list of messages is interrupted: those before the last that were refused are as if they had never come
  abbrev pub KeepsAnswered : ServerModel R → Type 0
  KeepsAnswered old =
      (new : ServerModel R) (events : List Event) (replies : List Reply) (last : Event) (reply : Reply)
      → IsInterrupted old new events replies last reply
      → LeavesFirst old new (answered_events events replies ++ last ∷ [])
      (length (answered_events (events ++ last ∷ []) (replies ++ reply ∷ [])))
