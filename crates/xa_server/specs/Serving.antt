-- Messages that were served one after another: what is told of them from the beginning on, whatever the keeper has
-- come to.
use Rattle.std.specs.Prelude.{◌≡◌, ℕ, Bool, List, [], ◌∷◌, map, if◌then◌else◌, IsTrue}
use Rattle.std.specs.List.{AllByRecursion}
use Rattle.xa_records.specs.declared.refusal.Failure.TheVariants.{Store}
use Rattle.xa_records.specs.Keeper.{Custody}
use Rattle.xa_server.specs.Alone.{Event}
use Rattle.xa_server.specs.declared.replies.Reply.{Reply}
use Rattle.xa_server.specs.declared.replies.Reply.TheVariants.{Refused}
use Rattle.xa_server.specs.Interruption.{ServesMessage}
use Rattle.xa_server.specs.Isolation.{IsIsolated, IsIsolatedBesideRefusals}
use Rattle.xa_server.specs.Served.{CountsReply, IsRun, may_go_on}
use Rattle.xa_server.specs.Work.{IsWorkOfRun}
use Rattle.xa_server.specs.World.{ServerModel, ServerState, World, server_state, world}

-- messages were answered by one run of the server, with its work; and each domain's replies in it are those of its own
-- machine, used by it alone
pub record IsOneRun (old new : ServerState) (events : List Event) (replies : List Reply) : Type 0 where
  pub is_run : IsRun old.world events replies new.world
  pub work : IsWorkOfRun old.world old.decisions events replies new.world new.decisions
  pub headline : IsIsolated old.world new.world events replies
  pub beside_refusals : IsIsolatedBesideRefusals old.world new.world events replies

-- the first of these, by the replies and by whether the keeper was open after each: up to the first message that was
-- refused for want of storage and after which it was shut, with that one; all, if there is none
abbrev pub until_shut : {X : Type 0} → List Reply → List Bool → List X → List X
until_shut (reply ∷ replies) (is_open ∷ opens) (x ∷ xs) =
    x ∷ (if may_go_on reply is_open then until_shut replies opens xs else [])
until_shut _ _ _ = []

-- messages are a run from that world on, in which each domain's replies are those of its own machine, used by it alone,
-- as if the refused messages had never come
pub record IsIsolatedRun (old : World) (events : List Event) (replies : List Reply) : Type 0 where
  pub last : World
  pub run : IsRun old events replies last
  pub isolated : IsIsolatedBesideRefusals old last events replies

-- how often the keeper has failed by replies: once more for each message that was refused for want of storage
abbrev pub CountsReplies : ℕ → ℕ → List Reply → Type 0
CountsReplies old new [] = new ≡ old
CountsReplies old new (reply ∷ replies) = (mid : ℕ) × CountsReply old mid reply × CountsReplies mid new replies

-- what messages with these replies leave of a keeper, whatever it has come to
pub record LeavesKeeper (old new : Custody) (replies : List Reply) : Type 0 where
  -- if it is sound, it was; if the disk has given back what was written, it had before; and if it is open, it was
  pub sound : new.sound → old.sound
  pub clean : new.clean → old.clean
  pub was_open : IsTrue new.is_open → IsTrue old.is_open
  -- it stays sound while it can go on, if the disk has given back what was written
  pub stays : new.clean → old.sound → IsTrue new.is_open → new.sound
  -- only a message that was refused for want of storage leaves it so that it can't go on, and each such one is counted
  pub stays_open : AllByRecursion (λ reply. ¬ (reply ≡ Refused Store)) replies → IsTrue old.is_open
      → IsTrue new.is_open
  pub counts : CountsReplies old.faults new.faults replies

module _ {R : Type 0} (custody : R → Custody) where
  -- messages were served one after another, and these are the servers after each
  abbrev pub ServesEach : ServerModel R → List Event → List Reply → List (ServerModel R) → ServerModel R → Type 0
  ServesEach old [] [] [] new = new ≡ old
  ServesEach old (event ∷ events) (reply ∷ replies) (mid ∷ servers) new =
      ServesMessage custody old mid event reply × ServesEach mid events replies servers new
  ServesEach old _ _ _ new = ⊥

  -- messages were served one after another, by some servers
  abbrev pub HaveServed : ServerModel R → List Event → List Reply → ServerModel R → Type 0
  HaveServed old events replies new = (servers : List (ServerModel R)) × ServesEach old events replies servers new

  -- whether the keeper was open after each of the messages
  abbrev pub opens_in : List (ServerModel R) → List Bool
  opens_in servers = map (λ s. (custody s.records).is_open) servers

  -- Messages were served one after another, and this is what they come to. They are one run if the keeper is sound
  -- after them. If it was sound before them, and up to now the disk has given back what was written, then those up to
  -- where it was shut are a run.
  pub record AreServed (old new : ServerModel R) (events : List Event) (replies : List Reply) : Type 0 where
    pub servers : List (ServerModel R)
    pub each : ServesEach old events replies servers new
    pub keeper : LeavesKeeper (custody old.records) (custody new.records) replies
    pub run : (custody new.records).sound
        → IsOneRun (server_state custody old) (server_state custody new) events replies
    pub first : (custody new.records).clean → (custody old.records).sound
        → IsIsolatedRun (world custody old) (until_shut replies (opens_in servers) events)
        (until_shut replies (opens_in servers) replies)
