use Rattle.std.proofs.Common.{sym, subst}
use Rattle.xa_records.specs.Kept.{IsNumbered}
use Rattle.xa_records.specs.Keyed.{KeepsDocuments}
use Rattle.xa_records.proofs.KeptLemmas.{numbered_one}
use Rattle.xa_records.proofs.KeyedLemmas.{documents_one}
use Rattle.xa_records.proofs.plain.records.PlainRecords.with_domain.Goals as goal

pub invariant_of-result : goal.invariant_of-result
invariant_of-result c = record {
  numbered = subst IsNumbered (sym c.in_ok-domains.ensures.keeps) (numbered_one c.args.name c.args.number c.args.epoch c.in_ok-domains.ensures.held.0 c.in_ok-domains.ensures.held.1);
  documented = subst KeepsDocuments (sym c.in_ok-domains.ensures.keeps) (documents_one c.args.name c.args.number c.args.epoch);
}
