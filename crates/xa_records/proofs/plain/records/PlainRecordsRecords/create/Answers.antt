use Rattle.xa_records.specs.Changes.{created}
use Rattle.xa_records.proofs.KeptLemmas.{numbered_after}
use Rattle.xa_records.proofs.KeyedLemmas.{documents_after, keeps_created}
use Rattle.xa_records.proofs.plain.records.PlainRecordsRecords.create.Goals as goal

pub invariant_of-self : goal.invariant_of-self
invariant_of-self c = record {
  numbered = numbered_after c.args.self.now.domains c.create-done.new.self c.create-done.result c.args.name.now (created) c.create-done.ensures.does c.args.self.now.numbered;
  documented = documents_after c.args.self.now.domains c.create-done.new.self c.create-done.result c.args.name.now (created) c.create-done.ensures.does keeps_created c.args.self.now.documented;
}
