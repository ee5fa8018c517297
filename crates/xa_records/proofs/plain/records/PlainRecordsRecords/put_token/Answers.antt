use Rattle.xa_records.specs.Changes.{token_put, within}
use Rattle.xa_records.proofs.KeptLemmas.{numbered_after}
use Rattle.xa_records.proofs.KeyedLemmas.{documents_after, keeps_put_token}
use Rattle.xa_records.proofs.plain.records.PlainRecordsRecords.put_token.Goals as goal

pub invariant_of-self : goal.invariant_of-self
invariant_of-self c = record {
  numbered = numbered_after c.args.self.now.domains c.put_token-done.new.self c.put_token-done.result c.args.name.now (within (token_put c.args.digest c.args.role)) c.put_token-done.ensures.does c.args.self.now.numbered;
  documented = documents_after c.args.self.now.domains c.put_token-done.new.self c.put_token-done.result c.args.name.now (within (token_put c.args.digest c.args.role)) c.put_token-done.ensures.does (keeps_put_token c.args.digest c.args.role) c.args.self.now.documented;
}
