use Rattle.xa_records.specs.Changes.{root_set, within}
use Rattle.xa_records.proofs.KeptLemmas.{numbered_after}
use Rattle.xa_records.proofs.KeyedLemmas.{documents_after, keeps_root}
use Rattle.xa_records.proofs.plain.records.PlainRecordsRecords.set_root.Goals as goal

pub invariant_of-self : goal.invariant_of-self
invariant_of-self c = record {
  numbered = numbered_after c.args.self.now.domains c.set_root-done.new.self c.set_root-done.result c.args.name.now (within (root_set c.args.root)) c.set_root-done.ensures.does c.args.self.now.numbered;
  documented = documents_after c.args.self.now.domains c.set_root-done.new.self c.set_root-done.result c.args.name.now (within (root_set c.args.root)) c.set_root-done.ensures.does (keeps_root c.args.root) c.args.self.now.documented;
}
