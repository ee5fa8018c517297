-- What one message does, by its owner.
use Rattle.std.proofs.Common.{◌≡◌, ℕ, List, [], ◌∷◌, ◌++◌, Option, Some, None, Result, Ok, Err, inl, inr, refl, ap, sym, ◌∙◌, subst}
use Rattle.std.specs.Prelude.{OnErr}
use Rattle.xa_records.specs.declared.refusal.Failure.TheVariants.{Memory, Store}
use Rattle.xa_records.specs.Kept.{IsChanged, Kept, state_of}
use Rattle.xa_server.specs.Alone.{Event}
use Rattle.xa_server.specs.declared.cause.Cause.TheVariants as cause
use Rattle.xa_server.specs.declared.cause.Cause.TheVariants.{Wanting}
use Rattle.xa_server.specs.declared.error_code.ErrorCode.{ErrorCode}
use Rattle.xa_server.specs.declared.received_message.ReceivedMessage.{ReceivedMessage}
use Rattle.xa_server.specs.declared.replies.Reply.{Reply}
use Rattle.xa_server.specs.declared.handling_error.HandlingError.{HandlingError}
use Rattle.xa_server.specs.declared.handling_error.HandlingError.TheVariants.{Error, Failed}
use Rattle.xa_server.specs.ErrorCode.{error_reply}
use Rattle.xa_server.specs.handling.Replying.{AnswersMessage, Counts, IsReplyOf}
use Rattle.xa_server.specs.Machine.{MachineAnswer, general_reply, reply_and_state, reply_or_error, step}
use Rattle.xa_server.specs.Owner.{owner}
use Rattle.xa_server.specs.Served.{CountsReply, IsRun, IsSent, IsServed}
use Rattle.xa_server.specs.World.{World}
use Rattle.xa_server.proofs.GrowthLemmas.{stays}

abbrev over : List ℕ → Kept → World
over operator kept = record { operator = operator; kept = kept }

-- nothing that is kept has changed, nor the operator
unmoved : (old new : World) → new.kept ≡ old.kept → new.operator ≡ old.operator → new ≡ old
unmoved old new kept operator = ap (over new.operator) kept ∙ ap (λ (o : List ℕ). over o old.kept) operator

-- the domains at which a message was received, with the operator
abbrev pub world_of : ReceivedMessage → Kept → World
world_of received kept = over received.operator kept

-- a message that was answered with success, by its owner
sent : (received : ReceivedMessage) (old : Kept) (new : World) (named : Option (List ℕ)) (bytes : List ℕ)
    → AnswersMessage received old new.kept named (Ok bytes) → new.operator ≡ received.operator → IsSent (world_of received old) new received.moment received.message.now bytes named
unfolding general_reply step
sent received old new None bytes answered operator =
    record { reply = sym (ap reply_or_error answered.0); same = unmoved (world_of received old) new answered.1 operator }
sent received old new (Some name) bytes (after, meant, changed) operator = record {
  reply = sym (ap (λ a. (reply_and_state (state_of name old) a).0) meant);
  next = subst (IsChanged old new.kept name) (sym (ap (λ a. (reply_and_state (state_of name old) a).1) meant)) changed;
  error_answer = subst (λ (a : MachineAnswer). OnErr a (new ≡ world_of received old)) (sym meant) tt;
  operator = operator;
}

-- by an error answer
turned_away : (received : ReceivedMessage) (old : Kept) (new : World) (named : Option (List ℕ)) (code : ErrorCode)
    → AnswersMessage received old new.kept named (Err (Error code)) → new.operator ≡ received.operator
    → IsSent (world_of received old) new received.moment received.message.now (error_reply code) named
unfolding general_reply step
turned_away received old new None code answered operator =
    record { reply = sym (ap reply_or_error answered.0); same = unmoved (world_of received old) new answered.1 operator }
turned_away received old new (Some name) code answered operator = record {
  reply = sym (ap (λ a. (reply_and_state (state_of name old) a).0) answered.0);
  next = subst (IsChanged old new.kept name) (sym (ap (λ a. (reply_and_state (state_of name old) a).1) answered.0)) (stays old new.kept name answered.1);
  error_answer = subst (λ (a : MachineAnswer). OnErr a (new ≡ world_of received old)) (sym answered.0) (unmoved (world_of received old) new answered.1 operator);
  operator = operator;
}

-- without success nothing has changed
kept_so : (received : ReceivedMessage) (old new : Kept) (named : Option (List ℕ)) (handling_error : HandlingError) → AnswersMessage received old new named (Err handling_error) → new ≡ old
kept_so received old new None (Error code) answered = answered.1
kept_so received old new None (Failed failure) answered = answered
kept_so received old new (Some name) (Error code) answered = answered.1
kept_so received old new (Some name) (Failed failure) answered = answered

-- what goes back for a message is what serving it gives
pub served : (received : ReceivedMessage) (old : Kept) (new : World) (result : Result (List ℕ) HandlingError) (reply : Reply)
    → AnswersMessage received old new.kept (owner received.message.now) result → IsReplyOf result reply
    → new.operator ≡ received.operator → IsServed (world_of received old) new received.moment received.message.now reply
served received old new (Ok bytes) reply answered is operator =
    subst (λ r. IsServed (world_of received old) new received.moment received.message.now r) (sym is)
    (sent received old new (owner received.message.now) bytes answered operator)
served received old new (Err (Failed failure)) reply answered is operator =
    subst (λ r. IsServed (world_of received old) new received.moment received.message.now r) (sym is)
    (unmoved (world_of received old) new (kept_so received old new.kept (owner received.message.now) (Failed failure) answered) operator)
served received old new (Err (Error code)) reply answered (inl is) operator =
    subst (λ r. IsServed (world_of received old) new received.moment received.message.now r) (sym is)
    (turned_away received old new (owner received.message.now) code answered operator)
served received old new (Err (Error code)) reply answered (inr is) operator =
    subst (λ r. IsServed (world_of received old) new received.moment received.message.now r) (sym is)
    (unmoved (world_of received old) new (kept_so received old new.kept (owner received.message.now) (Error code) answered) operator)

-- the keeper's count, by what goes back
pub counted : (old new : ℕ) (result : Result (List ℕ) HandlingError) (reply : Reply) → Counts old new result → IsReplyOf result reply → CountsReply old new reply
counted old new (Ok bytes) reply counts is = subst (CountsReply old new) (sym is) counts
counted old new (Err (Failed (Wanting Memory))) reply counts is = subst (CountsReply old new) (sym is) counts
counted old new (Err (Failed (Wanting Store))) reply counts is = subst (CountsReply old new) (sym is) counts
counted old new (Err (Failed (cause.OverLimit over))) reply counts is = subst (CountsReply old new) (sym is) counts
counted old new (Err (Error code)) reply counts (inl is) = subst (CountsReply old new) (sym is) counts
counted old new (Err (Error code)) reply counts (inr is) = subst (CountsReply old new) (sym is) counts

-- a run goes on by one message
pub run_more : (old mid new : World) (events : List Event) (replies : List Reply) (event : Event) (reply : Reply)
    → IsRun old events replies mid → IsServed mid new event.0 event.1 reply
    → IsRun old (events ++ event ∷ []) (replies ++ reply ∷ []) new
run_more old mid new [] [] event reply run served =
    (new, subst (λ (w : World). IsServed w new event.0 event.1 reply) run served, refl)
run_more old mid new (e ∷ events) (r ∷ replies) event reply run served =
    (run.0, run.1, run_more run.0 mid new events replies event reply run.2 served)
run_more old mid new [] (r ∷ replies) event reply run served = elim run [ ]
run_more old mid new (e ∷ events) [] event reply run served = elim run [ ]
