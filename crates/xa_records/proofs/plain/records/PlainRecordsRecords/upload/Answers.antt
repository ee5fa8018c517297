use Rattle.xa_records.specs.Changes.{uploaded, within}
use Rattle.xa_records.proofs.KeptLemmas.{numbered_after}
use Rattle.xa_records.proofs.KeyedLemmas.{documents_after, keeps_upload}
use Rattle.xa_records.proofs.plain.records.PlainRecordsRecords.upload.Goals as goal

pub invariant_of-self : goal.invariant_of-self
invariant_of-self c = record {
  numbered = numbered_after c.args.self.now.domains c.upload-done.new.self c.upload-done.result c.args.name.now (within (uploaded c.args.key c.args.text.now)) c.upload-done.ensures.does c.args.self.now.numbered;
  documented = documents_after c.args.self.now.domains c.upload-done.new.self c.upload-done.result c.args.name.now (within (uploaded c.args.key c.args.text.now)) c.upload-done.ensures.does (keeps_upload c.args.key c.args.text.now c.requires) c.args.self.now.documented;
}
