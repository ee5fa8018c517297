-- The view that is found is what decides in the domain. Without one, a body that doesn't ask the policies is answered as
-- the domain answers it.
use Rattle.std.proofs.Common.{rules, ◌≡◌, Ok, Err, false, refl, sym, ap, subst}
use Rattle.xa_decide.specs.Asked.{asks_policies}
use Rattle.xa_records.specs.Kept.{state_of}
use Rattle.xa_server.specs.Resources.{AllStand, ResourcesModel}
use Rattle.xa_server.specs.handling.Viewing.{nothing_viewed}
use Rattle.xa_server.specs.Work.{key_of_revision}
use Rattle.xa_server.proofs.AskLemmas.{keeper_left, replied, unasked_reply, unasked_works, views_left, works_by}
use Rattle.xa_server.proofs.ReadyLemmas.{ready_found}
use Rattle.xa_server.proofs.ResourcesLemmas.{left_stands, promoted_stands}
use Rattle.xa_server.proofs.asks.reply_to_read.Goals as goal

pub returns-in_err-reply : goal.returns-in_err-reply
returns-in_err-reply g c =
    let custody = g.R.Records.custody c.args.records.now in
    let kept = (g.R.Records.custody c.args.records.now).kept in
    let state = state_of c.args.read.ask.now.name.now kept in
    let stopped : c.from_residual.result ≡ Err c.in_err-reply.field-0.0 = search rules in
    record {
      tells = λ opens stand sound.
          let old = subst (AllStand kept) (sym c.resources.view_is) stand in
          let told = ready_found kept c.args.read.ask.now.name.now c.args.read.ask.now.revision c.resources.inside.views.views c.in-Some.view.now opens old.views (sym c.in-Some.ensures) in
          rw stopped (replied kept kept c.args.read.ask.now.name.now c.args.read.body c.args.read.ask.now.moment c.in-Some.view.now (Err c.in_err-reply.field-0.0) told c.in_err-reply.ensures.tells refl);
      works = λ opens stand sound.
          let old = subst (AllStand kept) (sym c.resources.view_is) stand in
          let told = ready_found kept c.args.read.ask.now.name.now c.args.read.ask.now.revision c.resources.inside.views.views c.in-Some.view.now opens old.views (sym c.in-Some.ensures) in
          rw (← c.resources.view_is, stopped)
          (works_by state c.in-Some.view.now c.args.read.body c.args.read.ask.now.moment (key_of_revision c.args.read.ask.now.revision c.args.read.body) (Err c.in_err-reply.field-0.0) _ _ told c.in_err-reply.ensures.works);
      stands = λ opens stand sound.
          let old = subst (AllStand kept) (sym c.resources.view_is) stand in
          let told = ready_found kept c.args.read.ask.now.name.now c.args.read.ask.now.revision c.resources.inside.views.views c.in-Some.view.now opens old.views (sym c.in-Some.ensures) in
          let work = works_by state c.in-Some.view.now c.args.read.body c.args.read.ask.now.moment (key_of_revision c.args.read.ask.now.revision c.args.read.body) c.reply_by_view.result _ _ told c.reply_by_view.ensures.works in
          left_stands kept c.args.read.ask.now.name.now c.args.read.body c.args.read.ask.now.moment c.args.read.ask.now.revision (g.met.R.Records.numbered c.args.records.now sound) opens c.reply_by_view.result
          (record { decisions = c.resources.inside.decisions; views = c.resources.inside.views; gates = c.resources.inside.gates })
          (record { decisions = c.reply_by_view.new.decisions; views = c.resources.inside.views; gates = c.resources.inside.gates })
          work refl refl old;
      views = rw (← c.resources.view_is, stopped) refl;
      keeper = rw stopped (keeper_left custody c.in-Some.view.now c.args.read.body c.args.read.ask.now.moment (Err c.in_err-reply.field-0.0) c.in_err-reply.ensures.tells);
    }

pub returns-in-Some : goal.returns-in-Some
returns-in-Some g c =
    let custody = g.R.Records.custody c.args.records.now in
    let kept = (g.R.Records.custody c.args.records.now).kept in
    let state = state_of c.args.read.ask.now.name.now kept in
    record {
      tells = λ opens stand sound.
          let old = subst (AllStand kept) (sym c.resources.view_is) stand in
          let told = ready_found kept c.args.read.ask.now.name.now c.args.read.ask.now.revision c.resources.inside.views.views c.in-Some.view.now opens old.views (sym c.in-Some.ensures) in
          replied kept kept c.args.read.ask.now.name.now c.args.read.body c.args.read.ask.now.moment c.in-Some.view.now (Ok c.in_ok-reply.reply) told c.in_ok-reply.ensures.tells refl;
      works = λ opens stand sound.
          let old = subst (AllStand kept) (sym c.resources.view_is) stand in
          let told = ready_found kept c.args.read.ask.now.name.now c.args.read.ask.now.revision c.resources.inside.views.views c.in-Some.view.now opens old.views (sym c.in-Some.ensures) in
          rw (← c.resources.view_is)
          (works_by state c.in-Some.view.now c.args.read.body c.args.read.ask.now.moment (key_of_revision c.args.read.ask.now.revision c.args.read.body) (Ok c.in_ok-reply.reply) _ _ told c.in_ok-reply.ensures.works);
      stands = λ opens stand sound.
          let old = subst (AllStand kept) (sym c.resources.view_is) stand in
          let told = ready_found kept c.args.read.ask.now.name.now c.args.read.ask.now.revision c.resources.inside.views.views c.in-Some.view.now opens old.views (sym c.in-Some.ensures) in
          let work = works_by state c.in-Some.view.now c.args.read.body c.args.read.ask.now.moment (key_of_revision c.args.read.ask.now.revision c.args.read.body) c.reply_by_view.result _ _ told c.reply_by_view.ensures.works in
          promoted_stands kept c.args.read.ask.now.name.now c.args.read.body c.args.read.ask.now.moment c.args.read.ask.now.revision (g.met.R.Records.numbered c.args.records.now sound) opens c.reply_by_view.result
          (record { decisions = c.resources.inside.decisions; views = c.resources.inside.views; gates = c.resources.inside.gates }) (record { decisions = c.reply_by_view.new.decisions; views = c.touch.new.self; gates = c.resources.inside.gates })
          work
          c.touch.ensures refl old;
      views = tt;
      keeper = keeper_left custody c.in-Some.view.now c.args.read.body c.args.read.ask.now.moment (Ok c.in_ok-reply.reply) c.in_ok-reply.ensures.tells;
    }

-- nothing of the domain is read
pub returns : goal.returns
returns g c =
    let custody = g.R.Records.custody c.args.records.now in
    let kept = (g.R.Records.custody c.args.records.now).kept in
    let none : asks_policies c.args.read.body ≡ false = search rules in
    record {
      tells = λ opens stand sound.
          unasked_reply kept c.args.read.ask.now.name.now c.args.read.body c.args.read.ask.now.moment c.args.read.ask.now.revision opens none c.reply_without_policies.result c.reply_without_policies.ensures.tells;
      works = λ opens stand sound.
          rw (← c.resources.view_is)
          (unasked_works kept c.args.read.ask.now.name.now c.args.read.body c.args.read.ask.now.moment c.args.read.ask.now.revision opens none (key_of_revision c.args.read.ask.now.revision c.args.read.body) c.reply_without_policies.result _ _
          c.reply_without_policies.ensures.works);
      stands = λ opens stand sound.
          let old = subst (AllStand kept) (sym c.resources.view_is) stand in
          let work = unasked_works kept c.args.read.ask.now.name.now c.args.read.body c.args.read.ask.now.moment c.args.read.ask.now.revision opens none (key_of_revision c.args.read.ask.now.revision c.args.read.body) c.reply_without_policies.result _ _
          c.reply_without_policies.ensures.works in
          left_stands kept c.args.read.ask.now.name.now c.args.read.body c.args.read.ask.now.moment c.args.read.ask.now.revision (g.met.R.Records.numbered c.args.records.now sound) opens c.reply_without_policies.result
          (record { decisions = c.resources.inside.decisions; views = c.resources.inside.views; gates = c.resources.inside.gates })
          (record { decisions = c.reply_without_policies.new.decisions; views = c.resources.inside.views; gates = c.resources.inside.gates })
          work refl refl old;
      views = views_left c.reply_without_policies.result _ (ap (λ (s : ResourcesModel). s.views) c.resources.view_is);
      keeper = keeper_left custody nothing_viewed c.args.read.body c.args.read.ask.now.moment c.reply_without_policies.result c.reply_without_policies.ensures.tells;
    }
