use Rattle.xa_store.proofs.RootPlans.{reference_back, reference_texts}
use Rattle.xa_store.proofs.change.laws.reference_reads_back.Goals as goal

pub returns : goal.returns
returns c = record {
  reads = λ number. reference_back number c.args.root.now c.pattern_reads_back.ensures.back c.version_reads_back.ensures.back c.version_reads_back-2.ensures.back;
  texts = λ number. reference_texts number c.args.root.now c.bytes_are_utf8.ensures c.pattern_reads_back.ensures.reads c.version_reads_back.ensures.reads c.version_reads_back-2.ensures.reads;
}
