use Rattle.xa_records.specs.Changes.{activity_set, within}
use Rattle.xa_records.proofs.KeptLemmas.{numbered_after}
use Rattle.xa_records.proofs.KeyedLemmas.{documents_after, keeps_activity}
use Rattle.xa_records.proofs.plain.records.PlainRecordsRecords.set_active.Goals as goal

pub invariant_of-self : goal.invariant_of-self
invariant_of-self c = record {
  numbered = numbered_after c.args.self.now.domains c.set_active-done.new.self c.set_active-done.result c.args.name.now (within (activity_set c.args.key.now c.args.active)) c.set_active-done.ensures.does c.args.self.now.numbered;
  documented = documents_after c.args.self.now.domains c.set_active-done.new.self c.set_active-done.result c.args.name.now (within (activity_set c.args.key.now c.args.active)) c.set_active-done.ensures.does (keeps_activity c.args.key.now c.args.active) c.args.self.now.documented;
}
