-- A decision changes nothing.
use Rattle.std.specs.Option.{option_and_then}
use Rattle.xa_http.specs.Routes.{named_by}
use Rattle.xa_server.specs.Owner.{name_if}
use Rattle.xa_server.proofs.CrashLemmas.{no_more_route}
use Rattle.xa_server.proofs.dispatch.reply_to_route.Goals as goal

pub returns-in-Decide-clause-keeper : goal.returns-in-Decide-clause-keeper
returns-in-Decide-clause-keeper g c = record {
  sound = c.reply_on_decision_route.ensures.keeper.sound;
  clean = c.reply_on_decision_route.ensures.keeper.clean;
  stays = c.reply_on_decision_route.ensures.keeper.stays;
  leaves = λ clean sound.
      let before = (g.R.Records.custody c.args.records.now).may_leave in
      let after = (g.R.Records.custody c.reply_on_decision_route.new.records).may_leave in
      no_more_route before after c.args.received.now _ (option_and_then name_if (named_by c.args.route)) c.args.route
      (c.reply_on_decision_route.ensures.keeper.leaves clean sound);
  counts = c.reply_on_decision_route.ensures.keeper.counts;
  was_open = c.reply_on_decision_route.ensures.keeper.was_open;
  stays_open = c.reply_on_decision_route.ensures.keeper.stays_open;
}
