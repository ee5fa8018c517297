use Rattle.xa_records.specs.Changes.{deleted, within}
use Rattle.xa_records.proofs.KeptLemmas.{numbered_after}
use Rattle.xa_records.proofs.KeyedLemmas.{documents_after, keeps_delete}
use Rattle.xa_records.proofs.plain.records.PlainRecordsRecords.delete.Goals as goal

pub invariant_of-self : goal.invariant_of-self
invariant_of-self c = record {
  numbered = numbered_after c.args.self.now.domains c.delete-done.new.self c.delete-done.result c.args.name.now (within (deleted c.args.key.now)) c.delete-done.ensures.does c.args.self.now.numbered;
  documented = documents_after c.args.self.now.domains c.delete-done.new.self c.delete-done.result c.args.name.now (within (deleted c.args.key.now)) c.delete-done.ensures.does (keeps_delete c.args.key.now) c.args.self.now.documented;
}
