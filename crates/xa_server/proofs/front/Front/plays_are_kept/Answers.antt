use Rattle.xa_server.proofs.StepLemmas.{plays_are_kept}
use Rattle.xa_server.proofs.front.Front.plays_are_kept.Goals as goal

pub returns : goal.returns
returns g c = plays_are_kept g.R.Records.custody g.met.R.Records.open_if_sound g.met.R.Records.settled
