use Rattle.xa_server.proofs.InterruptionLemmas.{keeps_answered}
use Rattle.xa_server.proofs.server.Server.keeps_what_was_answered.Goals as goal

pub returns : goal.returns
returns g c = keeps_answered g.R.Records.custody g.met.R.Records.open_if_sound g.met.R.Records.settled c.args.self.now
