use Rattle.xa_reactor.proofs.SittingLemmas.{streams}
use Rattle.xa_reactor.proofs.reactor.streams_of_sittings.Goals as goal

pub returns : goal.returns
returns c = streams
