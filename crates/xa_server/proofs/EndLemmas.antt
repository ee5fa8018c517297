-- What a connection's next comes to: a message was answered, or a fault, or nothing was.
use Rattle.std.proofs.Common.{◌≡◌, ℕ, ◌<◌, arith, ap, Bool, true, false, List, [], ◌∷◌, length, refl, sym, subst, ◌∙◌}
use Rattle.std.proofs.Common.{Option, Some, Result, Ok, Err, inl, inr}
use Rattle.std.specs.Prelude.{ℤ}
use Rattle.std.proofs.lemmas.Bool.{false≢true}
use Rattle.std.proofs.KnownBytes.{Consumes-nil}
use Rattle.std.proofs.lemmas.List.Elements.{All-nil}
use Rattle.xa_http.specs.declared.fault.SessionFault.{SessionFault}
use Rattle.xa_http.specs.declared.message.Message.{Message}
use Rattle.xa_http.specs.declared.session.Next.TheVariants as next
use Rattle.xa_http.specs.Messages.{Cuts, IsFirst, IsNext}
use Rattle.xa_http.specs.Stream.{Stream}
use Rattle.xa_http.proofs.SizeLemmas.{first_shrinks}
use Rattle.xa_records.specs.declared.refusal.Failure.TheVariants as failure
use Rattle.xa_records.specs.Keeper.{Custody}
use Rattle.xa_server.specs.declared.drive_end.DriveEnd.{DriveEnd}
use Rattle.xa_server.specs.declared.drive_end.DriveEnd.TheVariants.{Ended, WriteFault, NoClock, Memory, Shut}
use Rattle.xa_server.specs.declared.connection.Answer.{Answer}
use Rattle.xa_server.specs.declared.replies.Reply.{Reply}
use Rattle.xa_server.specs.declared.replies.Reply.TheVariants.{Refused}
use Rattle.xa_server.specs.Alone.{Event}
use Rattle.xa_server.specs.Connection.{AnswersNow, fault_answer, messages_of}
use Rattle.xa_server.specs.declared.connection.Answered.{Answered}
use Rattle.xa_server.specs.declared.connection.Answered.TheVariants as answered
use Rattle.xa_server.specs.Driven.{Ends, FaultLast, HasAnswered, MessageLast, Situation}
use Rattle.xa_server.specs.handling.Driving.{IsNextAnswered, IsSentAs}
use Rattle.xa_server.specs.Interruption.{ServesMessage}
use Rattle.xa_server.specs.Replies.{bytes_of}
use Rattle.xa_server.specs.Served.{may_go_on}
use Rattle.xa_server.specs.Serving.{HaveServed}
use Rattle.xa_server.specs.Transfers.{Grows, IsReadOn, IsWritten, WriteEnd}
use Rattle.xa_server.specs.World.{ServerModel}
use Rattle.xa_server.proofs.ConnectionLemmas.{fed_nothing}
use Rattle.xa_server.proofs.DrivingLemmas.{idle, none_gone}
use Rattle.xa_server.proofs.TransferLemmas.{grows_none, one_sent}

-- what the next comes to, by whether the reply to it was sent, and the connection goes on
abbrev goes_after : Result (Unit {0}) DriveEnd → Result Bool DriveEnd
goes_after (Ok _) = Ok true
goes_after (Err end) = Err end

shut_refused : (reply : Reply) (open_now : Bool) → may_go_on reply open_now ≡ false
    → (reply ≡ Refused failure.Store) × (open_now ≡ false)
shut_refused (Refused failure.Store) open_now shut = (refl, shut)
shut_refused _ open_now shut = absurd (false≢true (sym shut))

-- a connection has ended, and no message was answered
ended : {R : Type 0} (custody : R → Custody) (end : DriveEnd) (a b : Situation R) → b.server ≡ a.server
    → ((spare : ℕ) → Ends custody end spare a b [] []) → IsNextAnswered custody (Err end) a b
ended custody end a b same ends = (a, none_gone custody a, λ spare. idle custody spare end a b same (ends spare))

module _ {R : Type 0} (custody : R → Custody) (a : Situation R) (new : ServerModel R) (t : Stream)
    (j : Option (List (Option ℤ))) (d : Option (List ℕ)) (v : Option (List WriteEnd)) where
  -- a connection after an answer
  abbrev b : Situation R
  b = record { server = new; stream = t; known = record a.known { told = j; contents = d; writes = v } }

  -- a reply was written, whole or in part
  abbrev Writes : Reply → Bool → Type 0
  Writes reply whole = IsWritten whole (bytes_of reply) a.known.contents d a.known.writes v

  abbrev may_go : Reply → Bool
  may_go reply = may_go_on reply (custody new.records).is_open

  -- ---- a fault was answered

  module _ (fault : SessionFault) (same : new ≡ a.server) (unasked : j ≡ a.known.told)
      (is : IsNext a.stream (next.Fault fault) t) where
    fault_last : (whole : Bool) → Writes (fault_answer fault).reply whole → FaultLast whole a b
    fault_last whole written = record { fault = fault; is_next = is; written = written; same = rw (same, unasked) refl }

    fault_next : (sent : Result (Unit {0}) DriveEnd) → IsSentAs (Writes (fault_answer fault).reply) true true sent
        → IsNextAnswered custody (goes_after sent) a b
    fault_next (Err Ended) (written, on, over) =
        ended custody Ended a b same (λ spare. inr (inl (fault_last true written)))
    fault_next (Err WriteFault) written = ended custody WriteFault a b same (λ spare. fault_last false written)
    fault_next (Err Shut) (written, shut) = absurd (false≢true (sym shut))
    fault_next (Ok done) (written, on, over) = absurd (false≢true (sym over))
    fault_next _ none = absurd none

  -- ---- a message was answered

  module _ (moment : ℤ) (message : Message) (reply : Reply) (first : IsFirst a.stream message t)
      (serves : ServesMessage custody a.server new (moment, message) reply)
      (told : Grows a.known.told j (Some moment ∷ [])) where
    abbrev events : List Event
    events = (moment, message) ∷ []

    abbrev served : HaveServed custody a.server events (reply ∷ []) new
    served = (new ∷ [], (serves, refl))

    -- the connection goes on after it
    goes : Writes reply true → may_go reply ≡ true → HasAnswered custody 0 a b
    goes written on = record {
      calls = record { reads = []; writes = written.writes; told = Some moment ∷ [] };
      events = events;
      run = reply ∷ [];
      made = record {
        left = Consumes-nil a.known.left;
        reads = grows_none a.known.reads;
        contents = written.appends;
        writes = written.grows;
        told = told;
      };
      messages = subst (λ (s : Stream). Cuts s (messages_of events) t) (sym (fed_nothing a.stream)) (t, first, refl);
      served = served;
      read = All-nil IsReadOn;
      counted = refl;
      told = refl;
      written = one_sent (bytes_of reply) written.writes written.taken;
      went_on = (on, tt);
    }

    -- or it has ended
    ends_with : (whole : Bool) (end : DriveEnd) → Writes reply whole → (MessageLast custody whole a b (moment, message) reply
        → (spare : ℕ) → Ends custody end spare a b events (reply ∷ [])) → IsNextAnswered custody (Err end) a b
    ends_with whole end written ends =
        let last : MessageLast custody whole a b (moment, message) reply =
        record { first = first; serves = serves; told = told; written = written; left = refl; reads = refl } in
        (a, none_gone custody a, λ spare. record { events = events; replies = reply ∷ []; ends = ends last spare; served = served })

    message_next : (sent : Result (Unit {0}) DriveEnd) → IsSentAs (Writes reply) (may_go reply) t.ended sent
        → IsNextAnswered custody (goes_after sent) a b
    message_next (Ok done) (written, on, more) = goes written on
    message_next (Err Ended) (written, on, last) =
        (b, goes written on, λ spare. idle custody spare Ended b b refl (inl (refl, last)))
    message_next (Err WriteFault) written = ends_with false WriteFault written (λ last spare. last)
    message_next (Err Shut) (written, shut) =
        let refused = shut_refused reply (custody new.records).is_open shut in
        ends_with true Shut written (λ last spare. (last, refused.0, refused.1))
    message_next _ none = absurd none

  -- ---- what a connection was answered

  -- nothing was written, and that is what it has come to
  abbrev Unwritten : Result Bool DriveEnd → Result Bool DriveEnd → Type 0
  Unwritten given result = (result ≡ given) × (d ≡ a.known.contents) × (v ≡ a.known.writes)

  -- what follows an answer: its reply is sent, if it is one
  abbrev Follows : Result Answered DriveEnd → Result Bool DriveEnd → Type 0
  Follows (Ok (answered.Reply answer)) result =
      (sent : Result (Unit {0}) DriveEnd) × IsSentAs (Writes answer.reply) (may_go answer.reply) answer.last sent
      × (result ≡ goes_after sent)
  Follows (Ok answered.Waits) result = Unwritten (Ok false) result
  Follows (Ok answered.Ended) result = Unwritten (Err Ended) result
  Follows (Err end) result = Unwritten (Err end) result

  pub next_answered : (came : Result Answered DriveEnd) (result : Result Bool DriveEnd)
      → AnswersNow custody a.known.told j a.server a.stream came new t → Follows came result
      → IsNextAnswered custody result a b
  next_answered (Err NoClock) result ((on, (message, rest, begins)), tells, same, still) (is, none, kept) =
      let after : Stream = record { held = rest; ended = message.close } in
      rw (is, same, still, none, kept)
      (ended custody NoClock a _ refl
      (λ spare. (message, after, (on, begins, refl), record { grows = tells; same = refl })))
  next_answered (Err Memory) result (same, still, inl unasked) (is, none, kept) =
      rw (is, same, still, unasked, none, kept) (ended custody Memory a a refl (λ spare. inl refl))
  next_answered (Err Memory) result (same, still, inr (moment, stands, tells)) (is, none, kept) =
      rw (is, same, still, none, kept)
      (ended custody Memory a _ refl (λ spare. inr (inl (moment, record { grows = tells; same = refl }))))
  next_answered (Err _) result none follows = absurd none
  next_answered (Ok came) result (moment, (next.Message message, is, (reply, gives), serves), tells) follows =
      let (sent, sends, comes) = rw gives at follows in
      rw comes (message_next moment message reply is (rw gives at serves) tells sent sends)
  next_answered (Ok came) result (moment, (next.Fault fault, is, gives, same), unasked) follows =
      let (sent, sends, comes) = rw gives at follows in
      rw comes (fault_next fault same unasked is sent sends)
  next_answered (Ok came) result (moment, (next.More, (on, more, still), gives, same), unasked) follows =
      let waits = rw gives at follows in
      rw (waits.0, waits.1, waits.2, same, still, unasked) (refl, (on, more, refl))
  next_answered (Ok came) result (moment, (next.Ended, (over, still), gives, same), unasked) follows =
      let ends = rw gives at follows in
      rw (ends.0, ends.1, ends.2, same, still, unasked) (ended custody Ended a a refl (λ spare. inl (refl, over)))

-- after a message that goes on it holds less
pub holds_less : {R : Type 0} (custody : R → Custody) (old new : ServerModel R) (s t : Stream)
    (x y : Option (List (Option ℤ))) (answer : Answer)
    → AnswersNow custody x y old s (Ok (answered.Reply answer)) new t → answer.last ≡ false
    → length t.held < length s.held
holds_less custody old new s t x y answer (moment, (next.Message message, is, given, serves), tells) on =
    omega (arith, first_shrinks s message t is)
holds_less custody old new s t x y answer (moment, (next.Fault fault, is, given, serves), tells) on =
    let same : answer ≡ fault_answer fault = cc in
    absurd (false≢true (sym on ∙ ap (λ (a : Answer). a.last) same))
holds_less custody old new s t x y answer (moment, (next.More, is, given, serves), tells) on = absurd cc
holds_less custody old new s t x y answer (moment, (next.Ended, is, given, serves), tells) on = absurd cc
