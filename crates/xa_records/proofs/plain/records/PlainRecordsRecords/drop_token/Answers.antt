use Rattle.xa_records.specs.Changes.{token_dropped, within}
use Rattle.xa_records.proofs.KeptLemmas.{numbered_after}
use Rattle.xa_records.proofs.KeyedLemmas.{documents_after, keeps_drop_token}
use Rattle.xa_records.proofs.plain.records.PlainRecordsRecords.drop_token.Goals as goal

pub invariant_of-self : goal.invariant_of-self
invariant_of-self c = record {
  numbered = numbered_after c.args.self.now.domains c.drop_token-done.new.self c.drop_token-done.result c.args.name.now (within (token_dropped c.args.digest)) c.drop_token-done.ensures.does c.args.self.now.numbered;
  documented = documents_after c.args.self.now.domains c.drop_token-done.new.self c.drop_token-done.result c.args.name.now (within (token_dropped c.args.digest)) c.drop_token-done.ensures.does (keeps_drop_token c.args.digest) c.args.self.now.documented;
}
