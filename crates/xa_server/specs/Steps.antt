-- Steps of a server or of a front, one after another, and a crash inside the next: what is found when the server
-- begins again.
use Rattle.std.specs.Prelude.{◌≤◌, ℤ, List, [], ◌∷◌, ◌++◌, length, Option, Some, IsTrue}
use Rattle.xa_http.specs.declared.session.Next.{Next}
use Rattle.xa_http.specs.declared.session.Next.TheVariants as next
use Rattle.xa_records.specs.Keeper.{Custody}
use Rattle.xa_server.specs.Alone.{Event}
use Rattle.xa_server.specs.Connection.{ServesNext}
use Rattle.xa_server.specs.declared.event.Event.{Event as FrontEvent}
use Rattle.xa_server.specs.declared.event.Outcome.{Outcome}
use Rattle.xa_server.specs.declared.front.Front.{Front}
use Rattle.xa_server.specs.declared.replies.Reply.{Reply}
use Rattle.xa_server.specs.Front.{IsPlayed, front_is_clean, front_is_open, front_is_sound, messages_cut, replies_given}
use Rattle.xa_server.specs.Interruption.{LeavesFirst}
use Rattle.xa_server.specs.Isolation.{answered_events}
use Rattle.xa_server.specs.Serving.{AreServed}
use Rattle.xa_server.specs.World.{ServerModel}

-- the message that a step serves, with its moment, if it serves one
abbrev pub events_of : ℤ → Option Next → Option Reply → List Event
events_of moment (Some (next.Message message)) (Some reply) = (moment, message) ∷ []
events_of moment _ reply = []

-- the reply to it
abbrev pub replies_of : Option Next → Option Reply → List Reply
replies_of (Some (next.Message message)) (Some reply) = reply ∷ []
replies_of _ reply = []

-- The law of what is done between two messages. An answer of a connection is a step: it serves one message, or none.
-- Steps after steps are steps. And from a sound keeper any number of steps, after which it can go on, and then a crash
-- inside the next, or after it, leave the states after the first k messages, as `LeavesFirst` says
pub record StepsAreKept {R : Type 0} (custody : R → Custody) : Type 0 where
  pub none : (server : ServerModel R) → AreServed custody server server [] []
  pub step : (moment : ℤ) (given : Option Next) (reply : Option Reply) (old new : ServerModel R)
      → ServesNext custody moment old given reply new
      → AreServed custody old new (events_of moment given reply) (replies_of given reply)
  pub on : (old mid new : ServerModel R) (events others : List Event) (replies rest : List Reply)
      → AreServed custody old mid events replies → AreServed custody mid new others rest
      → AreServed custody old new (events ++ others) (replies ++ rest)
  pub crash : (old mid new : ServerModel R) (events last : List Event) (replies rest : List Reply)
      → (custody old.records).sound → AreServed custody old mid events replies → IsTrue (custody mid.records).is_open
      → AreServed custody mid new last rest → length last ≤ 1 → (custody new.records).clean
      → LeavesFirst custody old new (answered_events events replies ++ last)
      (length (answered_events (events ++ last) (replies ++ rest)))

-- The law of a front: a step cuts off one message at most, whatever its event. And from a sound keeper any number of
-- steps, after which it can go on, and then a crash inside the next, or after it, leave the states after the first k of
-- the messages that they cut off
pub record PlaysAreKept {R : Type 0} (custody : R → Custody) : Type 0 where
  pub one : (old new : Front R) (event : FrontEvent) (outcome : Outcome)
      → (is : IsPlayed custody old new (event ∷ []) (outcome ∷ [])) → length (messages_cut (event ∷ []) is.nexts) ≤ 1
  pub crash : (old mid new : Front R) (events : List FrontEvent) (outcomes : List Outcome) (event : FrontEvent)
      (outcome : Outcome) → front_is_sound custody old → (before : IsPlayed custody old mid events outcomes)
      → front_is_open custody mid → (last : IsPlayed custody mid new (event ∷ []) (outcome ∷ []))
      → front_is_clean custody new → LeavesFirst custody old.server new.server
      (answered_events (messages_cut events before.nexts) (replies_given before.nexts outcomes)
      ++ messages_cut (event ∷ []) last.nexts)
      (length (answered_events (messages_cut events before.nexts ++ messages_cut (event ∷ []) last.nexts)
      (replies_given before.nexts outcomes ++ replies_given last.nexts (outcome ∷ []))))
