use Rattle.xa_reactor.proofs.RunLemmas.{go_on}
use Rattle.xa_reactor.proofs.reactor.turns_go_on.Goals as goal

pub returns : goal.returns
returns g c = go_on g.R.Records.custody g.N.Network.done g.met.R.Records.open_if_sound
