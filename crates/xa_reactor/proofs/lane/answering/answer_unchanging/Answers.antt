use Rattle.std.proofs.Common.{true, false}
use Rattle.xa_server.specs.TurningAway.{serves_unchanging, turns_away}
use Rattle.xa_reactor.specs.declared.access.Access.TheVariants as access
use Rattle.xa_reactor.specs.Step.{AreHandledBy}
use Rattle.xa_reactor.specs.handling.Going.{AreAll}
use Rattle.xa_reactor.proofs.StepLemmas.{all_by, asked_by, asked_from, asked_none, told_so}
use Rattle.xa_reactor.proofs.lane.answering.answer_unchanging.Goals as goal

-- there was no memory to tell
pub returns-in-Err : goal.returns-in-Err
returns-in-Err g c =
    rw c.asks_for_change.ensures.same (asked_none g.R.Records.custody g.met.R.Records.open_if_sound c.args.conn (AreHandledBy access.Asks) c.args.front.now tt)

pub turn_away-requires : goal.turn_away-requires
turn_away-requires g c = told_so c.args.conn _ _ _ true c.asks_for_change.ensures.same c.if-asks.true c.in-Ok.ensures.tells

pub returns-then-asks : goal.returns-then-asks
returns-then-asks g c =
    asked_by g.R.Records.custody c.args.conn (AreAll turns_away) (AreHandledBy access.Asks) _ _ _ (λ hows are. all_by access.Asks turns_away hows tt are)
    (asked_from g.R.Records.custody c.args.conn (AreAll turns_away) _ _ _ _ c.asks_for_change.ensures.same c.turn_away.ensures)

pub returns : goal.returns
returns g c =
    asked_by g.R.Records.custody c.args.conn (AreAll serves_unchanging) (AreHandledBy access.Asks) _ _ _ (λ hows are. all_by access.Asks serves_unchanging hows tt are)
    (asked_from g.R.Records.custody c.args.conn (AreAll serves_unchanging) _ _ _ _ c.asks_for_change.ensures.same
    (c.ask.ensures.unchanging (told_so c.args.conn _ _ _ false c.asks_for_change.ensures.same c.if-asks.false c.in-Ok.ensures.tells)))
