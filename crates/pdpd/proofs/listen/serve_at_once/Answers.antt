use Rattle.pdpd.proofs.ListeningLemmas.{unserved_over}
use Rattle.pdpd.proofs.listen.serve_at_once.Goals as goal

pub returns-in-Err : goal.returns-in-Err
returns-in-Err g c = unserved_over g.R.Records.custody g.N.Network.done c.args.is_split g.met.R.Records.open_if_sound c.in-Err.fault c.args.front.now c.args.network.now
