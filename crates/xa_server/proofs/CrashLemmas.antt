-- What a crash may leave, from what a message asks for to the message itself.
use Rattle.std.proofs.Common.{◌≡◌, ℕ, ℤ, List, Option, Some, None, Result, Ok, Err, inl, inr, refl, ap, sym, subst}
use Rattle.std.specs.Prelude.{◌⊎◌, IsErrOf}
use Rattle.xa_value.specs.declared.or_memory.OrMemory.{OrMemory}
use Rattle.xa_value.specs.declared.or_memory.OrMemory.TheVariants as or_memory
use Rattle.xa_http.specs.declared.message.Message.{Message}
use Rattle.xa_http.specs.declared.route.Route.{Route}
use Rattle.xa_http.specs.declared.route.RouteFault.{RouteFault}
use Rattle.xa_http.specs.Routes.{route_of}
use Rattle.xa_records.specs.declared.refusal.Failure.TheVariants.{Memory, Store}
use Rattle.xa_records.specs.Kept.{IsChanged, Kept}
use Rattle.xa_server.specs.Crash.{IsStepMade}
use Rattle.xa_server.specs.declared.cause.Cause.TheVariants as cause
use Rattle.xa_server.specs.declared.cause.Cause.TheVariants.{Wanting}
use Rattle.xa_server.specs.declared.received_message.ReceivedMessage.{ReceivedMessage}
use Rattle.xa_server.specs.declared.replies.Reply.{Reply}
use Rattle.xa_server.specs.declared.replies.Reply.TheVariants.{Refused}
use Rattle.xa_server.specs.declared.handling_error.HandlingError.{HandlingError}
use Rattle.xa_server.specs.declared.handling_error.HandlingError.TheVariants.{Error, Failed}
use Rattle.xa_server.specs.handling.Replying.{Counts, IsAnswerMade, IsReplyOf, LeavesMessage, LeavesNoMore, LeavesRoute}
use Rattle.xa_server.specs.Machine.{MachineAnswer, answer, reply_and_state, step}
use Rattle.xa_server.specs.Served.{state}
use Rattle.xa_server.specs.handling.HandlingError.{error_of_route}
use Rattle.xa_server.specs.World.{World}
use Rattle.xa_server.proofs.ServedLemmas.{world_of}

module _ (before after : Kept → Type 0) where
  -- a message that makes no change, whichever domain it is of
  pub no_more_route : (received : ReceivedMessage) (old : Kept) (named : Option (List ℕ)) (route : Route) → LeavesNoMore before after → LeavesRoute before after received old named route
  no_more_route received old None route less = less
  no_more_route received old (Some name) route less = λ left may. inl (less left may)

  pub no_more : (received : ReceivedMessage) (old : Kept) (named : Option (List ℕ)) → LeavesNoMore before after → LeavesMessage before after received old named
  no_more received old None less = less
  no_more received old (Some name) less = λ left may. inl (less left may)

  -- what the message asks for
  pub asked_left : (received : ReceivedMessage) (old : Kept) (named : Option (List ℕ)) (route : Route) → route_of received.message.now ≡ Ok route
      → LeavesRoute before after received old named route → LeavesMessage before after received old named
  unfolding answer
  asked_left received old None route asks leaves = leaves
  asked_left received old (Some name) route asks leaves = rw asks leaves

-- what the answer changes is the machine's step
step_made : (old : World) (left : Kept) (name : List ℕ) (message : Message) (moment : ℤ) (meant : MachineAnswer) → answer old.operator (state name old) message moment ≡ meant
    → IsAnswerMade old.kept left name meant → IsStepMade old left moment message (Some name)
unfolding step
step_made old left name message moment (Ok (bytes, after)) is made = subst (IsChanged old.kept left name) (sym (ap (λ a. (reply_and_state (state name old) a).1) is)) made
step_made old left name message moment (Err code) is made = absurd made

-- what a message leaves is what its step leaves
pub step_left : (before after : Kept → Type 0) (received : ReceivedMessage) (kept : Kept) (named : Option (List ℕ)) → LeavesMessage before after received kept named
    → (left : Kept) → after left → before left ⊎ IsStepMade (world_of received kept) left received.moment received.message.now named
step_left before after received kept None leaves left may = inl (leaves left may)
step_left before after received kept (Some name) leaves left may = elim (leaves left may) [
  | inl less ↦ inl less
  | inr made ↦ inr (
      step_made (world_of received kept) left name received.message.now received.moment
      (answer received.operator (state name (world_of received kept)) received.message.now received.moment) refl made)
]

-- only a message that failed for want of storage is refused so
pub refused_so : (result : Result (List ℕ) HandlingError) (reply : Reply) → IsReplyOf result reply → ¬ (reply ≡ Refused Store) → ¬ IsErrOf result (Failed (Wanting Store))
refused_so (Ok bytes) reply is other failed = absurd cc
refused_so (Err (Failed (Wanting Memory))) reply is other failed = absurd cc
refused_so (Err (Failed (cause.OverLimit over))) reply is other failed = absurd cc
refused_so (Err (Failed (Wanting Store))) reply is other failed = other is
refused_so (Err (Error code)) reply is other failed = absurd cc

-- a message that asks for nothing that is served, or of which that wasn't found out, isn't counted
pub unasked_counts : (error : OrMemory RouteFault) (faults : ℕ) → Counts {X = List ℕ} faults faults (Err (error_of_route error))
unasked_counts or_memory.Memory faults = refl
unasked_counts (or_memory.Error fault) faults = refl
