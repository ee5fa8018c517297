-- Steps of a server or of a front, one after another, and a crash inside the next.
use Rattle.std.proofs.Common.{◌≡◌, ◌≤◌, ℤ, List, [], ◌∷◌, ◌++◌, length, Option, Some, None, IsTrue, Bool, true, refl}
use Rattle.std.proofs.Common.{arith, length-append, subst, sym}
use Rattle.std.proofs.lemmas.List.{append-nil}
use Rattle.xa_http.specs.declared.session.Next.{Next}
use Rattle.xa_http.specs.declared.session.Next.TheVariants as next
use Rattle.xa_records.specs.declared.refusal.Failure.TheVariants.{Memory, Store}
use Rattle.xa_records.specs.Keeper.{Custody}
use Rattle.xa_records.specs.Kept.{Kept}
use Rattle.xa_server.specs.Alone.{Event}
use Rattle.xa_server.specs.Connection.{ServesNext}
use Rattle.xa_server.specs.declared.event.Event.{Event as FrontEvent}
use Rattle.xa_server.specs.declared.event.Event.TheVariants as event
use Rattle.xa_server.specs.declared.replies.Reply.{Reply}
use Rattle.xa_server.specs.declared.replies.Reply.TheVariants.{Sent, Refused}
use Rattle.xa_server.specs.Front.{message_cut, messages_cut, replies_given}
use Rattle.xa_server.specs.Interruption.{LeavesFirst, Serves, ServesAll}
use Rattle.xa_server.specs.Isolation.{answered_events}
use Rattle.xa_server.specs.Served.{may_go_on}
use Rattle.xa_server.specs.Serving.{AreServed, HaveServed, ServesEach}
use Rattle.xa_server.specs.Steps.{PlaysAreKept, StepsAreKept, events_of, replies_of}
use Rattle.xa_server.specs.World.{ServerModel}
use Rattle.xa_server.proofs.InterruptionLemmas.{keeps_answered, leaves_those}
use Rattle.xa_server.proofs.ServingLemmas.{are_served, keeper_each, none_served, served_on}

-- who is open may go on after any reply
goes_on : (reply : Reply) (is_open : Bool) → IsTrue is_open → may_go_on reply is_open ≡ true
goes_on (Refused Store) is_open on = on
goes_on (Refused Memory) is_open on = refl
goes_on (Sent bytes) is_open on = refl

-- an event cuts off one message at most
cut_one : (e : FrontEvent) (given : Option Next) → length (message_cut e given) ≤ 1
cut_one (event.Answer conn moment) (Some (next.Message message)) = omega arith
cut_one _ _ = omega arith

step_cuts : (e : FrontEvent) (nexts : List (Option Next)) → length (messages_cut (e ∷ []) nexts) ≤ 1
step_cuts e [] = omega arith
step_cuts e (given ∷ nexts) = omega (arith, cut_one e given, length-append (message_cut e given) [])

module _ {R : Type 0} (custody : R → Custody) where
  -- if the keeper can go on after the last message, it could after each
  went_on : (old new : ServerModel R) (events : List Event) (replies : List Reply) (servers : List (ServerModel R))
      → ServesEach custody old events replies servers new → IsTrue (custody new.records).is_open
      → ServesAll custody old events replies new
  went_on old new [] [] [] same on = same
  went_on old new (event ∷ events) (reply ∷ replies) (mid ∷ servers) (one, each) on =
      let on_mid = (keeper_each custody mid new events replies servers each).was_open on in (
        mid,
        one.serves,
        goes_on reply (custody mid.records).is_open on_mid,
        went_on mid new events replies servers each on,
      )
  went_on old new _ _ _ none on = absurd none

  -- what an answer of a connection serves
  have_served : (moment : ℤ) (given : Option Next) (reply : Option Reply) (old new : ServerModel R)
      → ServesNext custody moment old given reply new
      → HaveServed custody old (events_of moment given reply) (replies_of given reply) new
  have_served moment (Some (next.Message message)) (Some reply) old new serves = (new ∷ [], (serves, refl))
  have_served moment (Some (next.Message message)) None old new same = ([], same)
  have_served moment (Some next.More) reply old new same = ([], same)
  have_served moment (Some (next.Fault fault)) reply old new same = ([], same)
  have_served moment (Some next.Ended) reply old new same = ([], same)
  have_served moment None reply old new same = ([], same)

  module _ (is_open : (s : R) → (custody s).sound → IsTrue (custody s).is_open)
      (settled : (s : R) → (custody s).sound → (left : Kept) → (custody s).may_leave left → left ≡ (custody s).kept)
    where
      served : (old new : ServerModel R) (events : List Event) (replies : List Reply)
          → HaveServed custody old events replies new → AreServed custody old new events replies
      served old new events replies (servers, each) = are_served custody is_open old new events replies servers each

      joined : (old mid new : ServerModel R) (events others : List Event) (replies rest : List Reply)
          → AreServed custody old mid events replies → AreServed custody mid new others rest
          → AreServed custody old new (events ++ others) (replies ++ rest)
      joined old mid new events others replies rest first later =
          served old new (events ++ others) (replies ++ rest)
          (served_on custody old mid new events others replies rest (first.servers, first.each)
          (later.servers, later.each))

      -- a crash in a step that serves one message, or none
      crash_in : (old mid new : ServerModel R) (events last : List Event) (replies rest : List Reply)
          (servers : List (ServerModel R)) → (custody old.records).sound → AreServed custody old mid events replies
          → IsTrue (custody mid.records).is_open → ServesEach custody mid last rest servers new → length last ≤ 1
          → (custody new.records).clean → LeavesFirst custody old new (answered_events events replies ++ last)
          (length (answered_events (events ++ last) (replies ++ rest)))
      crash_in old mid new events (event ∷ []) replies (reply ∷ []) (after ∷ []) sound before on (one, same) few clean =
          keeps_answered custody is_open settled old new events replies event reply (record {
            sound = sound;
            mid = mid;
            before = went_on old mid events replies before.servers before.each on;
            stopped = subst (λ (s : ServerModel R). Serves custody mid s event reply) (sym same) one.serves;
            clean = clean;
          })
      crash_in old mid new events (event ∷ []) replies (reply ∷ []) (one ∷ two ∷ servers) sound before on (_, none) few clean =
          absurd none
      crash_in old mid new events (event ∷ []) replies (reply ∷ other ∷ rest) (one ∷ servers) sound before on (_, none) few
          clean = absurd none
      crash_in old mid new events (event ∷ []) replies (reply ∷ other ∷ rest) [] sound before on none few clean =
          absurd none
      crash_in old mid new events [] replies [] [] sound before on same few clean =
          rw (append-nil events, append-nil replies, append-nil (answered_events events replies), same)
          (leaves_those custody is_open settled old mid events replies
          (went_on old mid events replies before.servers before.each on)
          (subst (λ (s : ServerModel R). (custody s.records).clean) same clean) sound)
      crash_in old mid new events (one ∷ two ∷ last) replies rest servers sound before on each few clean =
          absurd (omega (arith, few))
      crash_in old mid new events _ replies _ _ sound before on none few clean = absurd none

      pub steps_are_kept : StepsAreKept custody
      steps_are_kept = record {
        none = λ server. served server server [] [] (none_served custody server);
        step = λ moment given reply old new serves.
            served old new (events_of moment given reply) (replies_of given reply)
            (have_served moment given reply old new serves);
        on = joined;
        crash = λ old mid new events last replies rest sound before on after few clean.
            crash_in old mid new events last replies rest after.servers sound before on after.each few clean;
      }

      pub plays_are_kept : PlaysAreKept custody
      plays_are_kept = record {
        one = λ old new event outcome is. step_cuts event is.nexts;
        crash = λ old mid new events outcomes event outcome sound before on last clean.
            crash_in old.server mid.server new.server (messages_cut events before.nexts)
            (messages_cut (event ∷ []) last.nexts) (replies_given before.nexts outcomes)
            (replies_given last.nexts (outcome ∷ [])) last.served.servers sound before.served on last.served.each
            (step_cuts event last.nexts) clean;
      }
