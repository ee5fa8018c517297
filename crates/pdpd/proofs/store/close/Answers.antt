use Rattle.pdpd.proofs.BeginningLemmas.{closed_as}
use Rattle.pdpd.proofs.store.close.Goals as goal

pub returns-in-Ok-clause-copied : goal.returns-in-Ok-clause-copied
returns-in-Ok-clause-copied g c = closed_as c.args.conn c.of.result c.in-Ok.files c.of.ensures c.in-Ok.ensures.copied
