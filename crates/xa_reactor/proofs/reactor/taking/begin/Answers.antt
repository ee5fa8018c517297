use Rattle.xa_reactor.proofs.TakingLemmas.{begun_makes}
use Rattle.xa_reactor.proofs.reactor.taking.begin.Goals as goal

pub returns-clause-makes : goal.returns-clause-makes
returns-clause-makes g c = λ access.
    begun_makes g.R.Records.custody g.met.R.Records.open_if_sound c.in-Ok.conn c.args.front.now c.open.new.self c.in-Ok.ensures.opened
    c.open.ensures.server access
