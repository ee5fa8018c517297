use Rattle.xa_server.proofs.PlayLemmas.{plays_go_on}
use Rattle.xa_server.proofs.front.Front.plays_go_on.Goals as goal

pub returns : goal.returns
returns g c = plays_go_on g.R.Records.custody g.met.R.Records.open_if_sound
