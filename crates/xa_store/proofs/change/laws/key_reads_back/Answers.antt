use Rattle.xa_store.proofs.DocumentLemmas.{reads_as_version}
use Rattle.xa_store.proofs.change.laws.key_reads_back.Goals as goal

pub returns : goal.returns
returns c = reads_as_version c.args.key.now.version c.reads_back.ensures
