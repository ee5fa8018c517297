use Rattle.xa_records.specs.Changes.{removed}
use Rattle.xa_records.proofs.KeptLemmas.{numbered_after}
use Rattle.xa_records.proofs.KeyedLemmas.{documents_after, keeps_removed}
use Rattle.xa_records.proofs.plain.records.PlainRecordsRecords.remove.Goals as goal

pub invariant_of-self : goal.invariant_of-self
invariant_of-self c = record {
  numbered = numbered_after c.args.self.now.domains c.remove-done.new.self c.remove-done.result c.args.name.now (removed) c.remove-done.ensures.does c.args.self.now.numbered;
  documented = documents_after c.args.self.now.domains c.remove-done.new.self c.remove-done.result c.args.name.now (removed) c.remove-done.ensures.does keeps_removed c.args.self.now.documented;
}
