-- Messages that are one run of a server: none, one, and some after others.
use Rattle.std.proofs.Common.{◌≡◌, ℤ, List, [], ◌∷◌, ◌++◌, IsTrue, refl}
use Rattle.xa_http.specs.declared.message.Message.{Message}
use Rattle.xa_records.specs.Keeper.{Custody}
use Rattle.xa_server.specs.declared.replies.Reply.{Reply}
use Rattle.xa_server.specs.Alone.{Event}
use Rattle.xa_server.specs.Interruption.{ServesMessage}
use Rattle.xa_server.specs.Serving.{AreServed}
use Rattle.xa_server.specs.World.{ServerModel}
use Rattle.xa_server.proofs.ServingLemmas.{are_served, served_on}
use Rattle.pdpd.specs.Replay.{IsSomeRun}

module _ {R : Type 0} (custody : R → Custody) (is_open : (s : R) → (custody s).sound → IsTrue (custody s).is_open) where
  pub none_run : (a b : ServerModel R) → b ≡ a → AreServed custody a b [] []
  none_run a b same = are_served custody is_open a b [] [] [] same

  -- one message
  pub message_run : (moment : ℤ) (message : Message) (reply : Reply) (a b : ServerModel R) → ServesMessage custody a b (moment, message) reply
      → AreServed custody a b ((moment, message) ∷ []) (reply ∷ [])
  message_run moment message reply a b serves = are_served custody is_open a b ((moment, message) ∷ []) (reply ∷ []) (b ∷ []) (serves, refl)

  pub run_on : (a b c : ServerModel R) (es fs : List Event) (rs qs : List Reply) → AreServed custody a b es rs → AreServed custody b c fs qs → AreServed custody a c (es ++ fs) (rs ++ qs)
  run_on a b c es fs rs qs first later =
      let each = served_on custody a b c es fs rs qs (first.servers, first.each) (later.servers, later.each) in
      are_served custody is_open a c (es ++ fs) (rs ++ qs) each.0 each.1

  -- ---- whatever messages they are

  pub some_none : (a b : ServerModel R) → b ≡ a → IsSomeRun custody a b
  unfolding IsSomeRun
  some_none a b same = ([], [], none_run a b same)

  pub some_on : (a b c : ServerModel R) → IsSomeRun custody a b → IsSomeRun custody b c → IsSomeRun custody a c
  unfolding IsSomeRun
  some_on a b c first later = (first.0 ++ later.0, first.1 ++ later.1, run_on a b c first.0 later.0 first.1 later.1 first.2 later.2)
