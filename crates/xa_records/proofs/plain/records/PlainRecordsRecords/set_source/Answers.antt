use Rattle.xa_records.specs.Changes.{source_set, within}
use Rattle.xa_records.proofs.KeptLemmas.{numbered_after}
use Rattle.xa_records.proofs.KeyedLemmas.{documents_after, keeps_source}
use Rattle.xa_records.proofs.plain.records.PlainRecordsRecords.set_source.Goals as goal

pub invariant_of-self : goal.invariant_of-self
invariant_of-self c = record {
  numbered = numbered_after c.args.self.now.domains c.set_source-done.new.self c.set_source-done.result c.args.name.now (within (source_set c.args.rows)) c.set_source-done.ensures.does c.args.self.now.numbered;
  documented = documents_after c.args.self.now.domains c.set_source-done.new.self c.set_source-done.result c.args.name.now (within (source_set c.args.rows)) c.set_source-done.ensures.does (keeps_source c.args.rows) c.args.self.now.documented;
}
