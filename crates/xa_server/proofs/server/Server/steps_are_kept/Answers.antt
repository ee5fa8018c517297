use Rattle.xa_server.proofs.StepLemmas.{steps_are_kept}
use Rattle.xa_server.proofs.server.Server.steps_are_kept.Goals as goal

pub returns : goal.returns
returns g c = steps_are_kept g.R.Records.custody g.met.R.Records.open_if_sound g.met.R.Records.settled
