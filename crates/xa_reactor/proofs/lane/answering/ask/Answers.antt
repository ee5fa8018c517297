use Rattle.xa_server.specs.TurningAway.{serves, serves_unchanging}
use Rattle.xa_reactor.specs.handling.Going.{AreAll}
use Rattle.xa_reactor.proofs.StepLemmas.{asked_next, asked_none, asked_unchanging, some_and}
use Rattle.xa_reactor.proofs.lane.answering.ask.Goals as goal

-- the clock told no moment
pub returns-in_default-clause-serves : goal.returns-in_default-clause-serves
returns-in_default-clause-serves g c = asked_none g.R.Records.custody g.met.R.Records.open_if_sound c.args.conn (AreAll serves) c.args.front.now tt

pub returns-in_default-clause-unchanging : goal.returns-in_default-clause-unchanging
returns-in_default-clause-unchanging g c = λ tells. asked_none g.R.Records.custody g.met.R.Records.open_if_sound c.args.conn (AreAll serves_unchanging) c.args.front.now tt

pub returns-clause-serves : goal.returns-clause-serves
returns-clause-serves g c =
    asked_next g.R.Records.custody g.met.R.Records.open_if_sound c.args.conn c.in-Some.moment c.answer.result c.args.front.now c.answer.new.self
    c.answer.ensures.answered

pub returns-clause-unchanging : goal.returns-clause-unchanging
returns-clause-unchanging g c = λ tells.
    let it = some_and _ _ tells in
    asked_unchanging g.R.Records.custody g.met.R.Records.open_if_sound c.args.conn c.in-Some.moment c.answer.result c.args.front.now c.answer.new.self
    it.0 it.1 it.2 c.answer.ensures.answered
