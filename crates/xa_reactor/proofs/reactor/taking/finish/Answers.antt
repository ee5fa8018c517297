use Rattle.xa_reactor.proofs.TakingLemmas.{finished_makes}
use Rattle.xa_reactor.proofs.reactor.taking.finish.Goals as goal

pub returns-clause-makes : goal.returns-clause-makes
returns-clause-makes g c = λ reason.
    finished_makes g.R.Records.custody g.met.R.Records.open_if_sound c.args.conn c.close-closed.result c.args.front.now c.close-closed.new.self c.requires
    c.close-closed.ensures.closed c.close-closed.ensures.server reason
