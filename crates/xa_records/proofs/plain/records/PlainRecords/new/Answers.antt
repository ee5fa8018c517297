use Rattle.std.proofs.Common.{sym, subst, arith}
use Rattle.xa_records.specs.Kept.{IsNumbered}
use Rattle.xa_records.specs.Keyed.{KeepsDocuments}
use Rattle.xa_records.proofs.KeptLemmas.{numbered_new}
use Rattle.xa_records.proofs.KeyedLemmas.{documents_new}
use Rattle.xa_records.proofs.plain.records.PlainRecords.new.Goals as goal

pub invariant_of-result : goal.invariant_of-result
invariant_of-result c = record {
  numbered = subst IsNumbered (sym c.new.ensures) (numbered_new 1 (omega arith));
  documented = subst KeepsDocuments (sym c.new.ensures) (documents_new 1);
}
