-- Messages that were served one after another, from the first on.
use Rattle.std.proofs.Common.{◌≡◌, ℕ, List, [], ◌∷◌, ◌++◌, Bool, true, false, IsTrue, refl, sym, ap, subst}
use Rattle.xa_records.specs.declared.refusal.Failure.TheVariants.{Memory, Store}
use Rattle.xa_records.specs.Keeper.{Custody}
use Rattle.xa_server.specs.Alone.{Event}
use Rattle.xa_server.specs.declared.replies.Reply.{Reply}
use Rattle.xa_server.specs.declared.replies.Reply.TheVariants.{Sent, Refused}
use Rattle.xa_server.specs.Interruption.{ServesMessage}
use Rattle.xa_server.specs.Decisions.{DecisionsModel}
use Rattle.xa_server.specs.Served.{IsRun, may_go_on}
use Rattle.xa_server.specs.Serving.{AreServed, HaveServed, IsOneRun, LeavesKeeper, ServesEach, opens_in, until_shut}
use Rattle.xa_server.specs.Work.{IsWorkOfRun}
use Rattle.xa_server.specs.World.{ServerModel, ServerState, World, server_state, world}
use Rattle.xa_server.proofs.IsolationLemmas.{headline, isolated}

-- ---- one run

-- a run, without its work
without_work : (old new : World) (held left : DecisionsModel) (events : List Event) (replies : List Reply)
    → IsWorkOfRun old held events replies new left → IsRun old events replies new
without_work old new held left [] [] run = run.0
without_work old new held left (e ∷ events) (r ∷ replies) run =
    (run.0, run.2, without_work run.0 new run.1 left events replies run.4)
without_work old new held left _ _ none = absurd none

-- so the headline holds of it
one_run : (a b : ServerState) (es : List Event) (rs : List Reply)
    → IsWorkOfRun a.world a.decisions es rs b.world b.decisions → IsOneRun a b es rs
one_run a b es rs work =
    let run = without_work a.world b.world a.decisions b.decisions es rs work in
    record {
      is_run = run;
      work = work;
      headline = headline a.world b.world es rs run;
      beside_refusals = λ domain. isolated domain a.world b.world es rs run;
    }

-- ---- up to where the keeper was shut

-- after a reply after which nothing may go on, nothing has changed
refused_last : (reply : Reply) (is_open : Bool) → may_go_on reply is_open ≡ false → (old : World) (event : Event)
    → IsRun old (event ∷ []) (reply ∷ []) old
refused_last (Refused Store) is_open shut old event = (old, refl, refl)
refused_last (Refused Memory) is_open shut old event = absurd cc
refused_last (Sent bytes) is_open shut old event = absurd cc

module _ {R : Type 0} (custody : R → Custody) where
  -- ---- what they come to

  -- for the keeper
  pub keeper_each : (old new : ServerModel R) (events : List Event) (replies : List Reply) (servers : List (ServerModel R))
      → ServesEach custody old events replies servers new
      → LeavesKeeper (custody old.records) (custody new.records) replies
  keeper_each old new [] [] [] same =
      subst (λ (s : ServerModel R). LeavesKeeper (custody old.records) (custody s.records) []) (sym same) (record {
        sound = λ sound. sound;
        clean = λ clean. clean;
        was_open = λ on. on;
        stays = λ clean sound on. sound;
        stays_open = λ others on. on;
        counts = refl;
      })
  keeper_each old new (event ∷ events) (reply ∷ replies) (mid ∷ servers) (one, each) =
      let rest = keeper_each mid new events replies servers each in
      record {
        sound = λ sound. one.sound (rest.sound sound);
        clean = λ clean. one.serves.clean (rest.clean clean);
        was_open = λ on. one.was_open (rest.was_open on);
        stays = λ clean sound on. rest.stays clean (one.serves.stays (rest.clean clean) sound (rest.was_open on)) on;
        stays_open = λ others on. rest.stays_open others.1 (one.serves.stays_open others.0 on);
        counts = ((custody mid.records).faults, one.counts, rest.counts);
      }
  keeper_each old new _ _ _ none = absurd none

  -- for the world and its cached decisions, if the keeper is sound after them
  work_each : (old new : ServerModel R) (events : List Event) (replies : List Reply) (servers : List (ServerModel R))
      → ServesEach custody old events replies servers new → (custody new.records).sound
      → IsWorkOfRun (world custody old) old.decisions events replies (world custody new) new.decisions
  work_each old new [] [] [] same sound = (ap (world custody) same, ap (λ (s : ServerModel R). s.decisions) same)
  work_each old new (event ∷ events) (reply ∷ replies) (mid ∷ servers) (one, each) sound =
      let on : (custody mid.records).sound = (keeper_each mid new events replies servers each).sound sound in (
        world custody mid,
        mid.decisions,
        one.serves.served on,
        one.work on,
        work_each mid new events replies servers each sound,
      )
  work_each old new _ _ _ none sound = absurd none

  module _ (is_open : (s : R) → (custody s).sound → IsTrue (custody s).is_open) where
    open_next : (old new : ServerModel R) (event : Event) (reply : Reply) → ServesMessage custody old new event reply
        → may_go_on reply (custody new.records).is_open ≡ true → (custody old.records).sound
        → IsTrue (custody new.records).is_open
    open_next old new event (Refused Store) one on sound = on
    open_next old new event (Refused Memory) one on sound =
        one.serves.stays_open (λ is. absurd cc) (is_open old.records sound)
    open_next old new event (Sent bytes) one on sound =
        one.serves.stays_open (λ is. absurd cc) (is_open old.records sound)

    abbrev RunUntil : ServerModel R → List Event → List Reply → List (ServerModel R) → Type 0
    RunUntil old events replies servers =
        (last : World) × IsRun (world custody old) (until_shut replies (opens_in custody servers) events)
        (until_shut replies (opens_in custody servers) replies) last

    -- up to where the keeper is shut, they are a run
    run_until : (old new : ServerModel R) (events : List Event) (replies : List Reply) (servers : List (ServerModel R))
        → ServesEach custody old events replies servers new → (custody new.records).clean → (custody old.records).sound
        → RunUntil old events replies servers
    run_until old new [] [] [] same clean sound = (world custody old, refl)
    run_until old new (event ∷ events) (reply ∷ replies) (mid ∷ servers) (one, each) clean sound =
        by_reply (may_go_on reply (custody mid.records).is_open) refl
        (λ on_mid. run_until mid new events replies servers each clean on_mid)
      where
        by_reply : (b : Bool) → may_go_on reply (custody mid.records).is_open ≡ b
            → ((custody mid.records).sound → RunUntil mid events replies servers)
            → RunUntil old (event ∷ events) (reply ∷ replies) (mid ∷ servers)
        by_reply true on rest_of =
            let before : (custody mid.records).clean = (keeper_each mid new events replies servers each).clean clean in
            let on_mid : (custody mid.records).sound
            = one.serves.stays before sound (open_next old mid event reply one on sound) in
            let rest = rest_of on_mid in
            rw on (rest.0, (world custody mid, one.serves.served on_mid, rest.1))
        by_reply false shut rest_of =
            rw shut (world custody old, refused_last reply (custody mid.records).is_open shut (world custody old) event)
    run_until old new _ _ _ none clean sound = absurd none

    pub are_served : (old new : ServerModel R) (events : List Event) (replies : List Reply)
        (servers : List (ServerModel R)) → ServesEach custody old events replies servers new
        → AreServed custody old new events replies
    are_served old new events replies servers each = record {
      servers = servers;
      each = each;
      keeper = keeper_each old new events replies servers each;
      run = λ sound.
          one_run (server_state custody old) (server_state custody new) events replies
          (work_each old new events replies servers each sound);
      first = λ clean sound.
          let it = run_until old new events replies servers each clean sound in
          let cut = until_shut replies (opens_in custody servers) events in
          let told = until_shut replies (opens_in custody servers) replies in
          let isolated_in = λ (domain : List ℕ). isolated domain (world custody old) it.0 cut told it.1 in
          record { last = it.0; run = it.1; isolated = isolated_in };
    }

  -- ---- one list after another

  pub each_on : (old mid new : ServerModel R) (events others : List Event) (replies rest : List Reply)
      (servers more : List (ServerModel R)) → ServesEach custody old events replies servers mid
      → ServesEach custody mid others rest more new
      → ServesEach custody old (events ++ others) (replies ++ rest) (servers ++ more) new
  each_on old mid new [] others [] rest [] more same later =
      subst (λ (s : ServerModel R). ServesEach custody s others rest more new) same later
  each_on old mid new (event ∷ events) others (reply ∷ replies) rest (next ∷ servers) more (one, each) later =
      (one, each_on next mid new events others replies rest servers more each later)
  each_on old mid new _ others _ rest _ more none later = absurd none

  abbrev pub none_served : (old : ServerModel R) → HaveServed custody old [] [] old
  none_served old = ([], refl)

  abbrev pub served_on : (old mid new : ServerModel R) (events others : List Event) (replies rest : List Reply)
      → HaveServed custody old events replies mid → HaveServed custody mid others rest new
      → HaveServed custody old (events ++ others) (replies ++ rest) new
  served_on old mid new events others replies rest (servers, each) (more, later) =
      (servers ++ more, each_on old mid new events others replies rest servers more each later)
