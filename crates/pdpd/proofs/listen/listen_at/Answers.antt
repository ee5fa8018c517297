use Rattle.pdpd.proofs.ListeningLemmas.{unserved_at_once}
use Rattle.pdpd.proofs.listen.listen_at.Goals as goal

pub returns-in-Err : goal.returns-in-Err
returns-in-Err g c = unserved_at_once g.R.Records.custody _ g.met.R.Records.open_if_sound c.in-Err.fault c.args.front.now
