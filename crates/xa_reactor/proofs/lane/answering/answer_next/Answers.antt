use Rattle.xa_server.specs.TurningAway.{serves}
use Rattle.xa_reactor.specs.Step.{AreHandledBy}
use Rattle.xa_reactor.specs.handling.Going.{AreAll}
use Rattle.xa_reactor.proofs.StepLemmas.{all_by, asked_by, serves_by}
use Rattle.xa_reactor.proofs.lane.answering.answer_next.Goals as goal

pub returns-in-Asks : goal.returns-in-Asks
returns-in-Asks g c = rw c.in-Asks.is c.answer_unchanging.ensures

pub returns-in-All : goal.returns-in-All
returns-in-All g c =
    asked_by g.R.Records.custody c.args.share.conn (AreAll serves) (AreHandledBy c.args.share.access) _ _ _
    (λ hows are. all_by c.args.share.access serves hows (serves_by c.args.share.access c.in-All.is) are) c.ask.ensures.serves
