use Rattle.std.proofs.Common.{rules, ◌≡◌, ℕ, List, Result, Err, refl, ap, sym, subst}
use Rattle.std.specs.Option.{option_and_then}
use Rattle.xa_http.specs.Routes.{named_by}
use Rattle.xa_server.specs.declared.handling_error.HandlingError.{HandlingError}
use Rattle.xa_server.specs.handling.Replying.{AnswersMessage, Counts, LeavesMessage}
use Rattle.xa_server.specs.Owner.{name_if, owner}
use Rattle.xa_server.specs.handling.HandlingError.{error_of_route}
use Rattle.xa_server.proofs.AnswerLemmas.{asked, unasked}
use Rattle.xa_server.proofs.CrashLemmas.{asked_left, no_more, unasked_counts}
use Rattle.xa_server.proofs.WorkLemmas.{asked_work, unasked_work}
use Rattle.xa_server.proofs.dispatch.reply_to_message.Goals as goal

pub returns-in_err-route-clause-answers : goal.returns-in_err-route-clause-answers
returns-in_err-route-clause-answers g c = λ stand sound.
    let stopped : c.from_residual.result ≡ Err (error_of_route c.in_err-route.field-0.0) = search rules in
    rw stopped (unasked c.args.received.now _ (owner c.args.received.now.message.now) c.in_err-route.field-0.0 c.in_err-route.ensures.route)

pub returns-in_err-route-clause-shared : goal.returns-in_err-route-clause-shared
returns-in_err-route-clause-shared g c =
    let error = c.in_err-route.field-0.0 in
    let stopped : c.from_residual.result ≡ Err (error_of_route error) = search rules in
    record {
      works = λ stand sound.
          rw stopped (unasked_work c.args.received.now (g.R.Records.custody c.args.records.now).kept error c.args.resources.now.decisions c.in_err-route.ensures.route);
      stands = λ stand sound. stand;
      views = rw stopped refl;
    }

pub returns-clause-answers : goal.returns-clause-answers
unfolding owner
returns-clause-answers g c = λ stand sound.
    let owns : option_and_then name_if (named_by c.in_ok-route.route) ≡ owner c.args.received.now.message.now = ap (option_and_then name_if) c.in_ok-route.ensures.named in
    subst (λ named. AnswersMessage c.args.received.now (g.R.Records.custody c.args.records.now).kept (g.R.Records.custody c.reply_to_route.new.records).kept named c.reply_to_route.result) owns
    (asked c.args.received.now _ _ _ c.in_ok-route.route _ c.in_ok-route.ensures.route (c.reply_to_route.ensures.answers stand sound))

pub returns-clause-shared : goal.returns-clause-shared
returns-clause-shared g c = record {
  works = λ stand sound.
      let kept = (g.R.Records.custody c.args.records.now).kept in
      let after = c.reply_to_route.new.resources.decisions in
      asked_work c.args.received.now kept c.in_ok-route.route c.reply_to_route.result c.args.resources.now.decisions after c.in_ok-route.ensures.route
      (c.reply_to_route.ensures.shared.works stand sound);
  stands = c.reply_to_route.ensures.shared.stands;
  views = c.reply_to_route.ensures.shared.views;
}

-- the keeper isn't asked
pub returns-in_err-route-clause-keeper : goal.returns-in_err-route-clause-keeper
returns-in_err-route-clause-keeper g c =
    let custody = g.R.Records.custody c.args.records.now in
    let error = c.in_err-route.field-0.0 in
    let stopped : c.from_residual.result ≡ Err (error_of_route error) = search rules in
    record {
      sound = λ sound. sound;
      clean = λ clean. clean;
      stays = λ clean sound on. sound;
      leaves = λ clean sound. no_more custody.may_leave custody.may_leave c.args.received.now _ (owner c.args.received.now.message.now) (λ left is. is);
      counts = subst (λ (r : Result (List ℕ) HandlingError). Counts custody.faults custody.faults r) (sym stopped) (unasked_counts error custody.faults);
      was_open = λ on. on;
      stays_open = λ other on. on;
    }

pub returns-clause-keeper : goal.returns-clause-keeper
unfolding owner
returns-clause-keeper g c = record {
  sound = c.reply_to_route.ensures.keeper.sound;
  clean = c.reply_to_route.ensures.keeper.clean;
  stays = c.reply_to_route.ensures.keeper.stays;
  leaves = λ clean sound.
      let before = (g.R.Records.custody c.args.records.now).may_leave in
      let after = (g.R.Records.custody c.reply_to_route.new.records).may_leave in
      let old = (g.R.Records.custody c.args.records.now).kept in
      let route = c.in_ok-route.route in
      let owns : option_and_then name_if (named_by route) ≡ owner c.args.received.now.message.now =
      ap (option_and_then name_if) c.in_ok-route.ensures.named in
      subst (λ named. LeavesMessage before after c.args.received.now old named) owns
      (asked_left before after c.args.received.now old _ route c.in_ok-route.ensures.route
      (c.reply_to_route.ensures.keeper.leaves clean sound));
  counts = c.reply_to_route.ensures.keeper.counts;
  was_open = c.reply_to_route.ensures.keeper.was_open;
  stays_open = c.reply_to_route.ensures.keeper.stays_open;
}
