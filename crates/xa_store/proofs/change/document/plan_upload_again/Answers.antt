use Rattle.std.proofs.Common.{Ok, sym, subst, ◌∙◌}
use Rattle.xa_store.specs.keeping.Plan.{IsUploadPlanned}
use Rattle.xa_store.proofs.DocumentPlans.{plan_again, plan_other}
use Rattle.xa_store.proofs.change.document.plan_upload_again.Goals as goal

pub returns-then-is_same_text : goal.returns-then-is_same_text
returns-then-is_same_text c = record {
  plans = λ name rows are up is finds.
      subst (λ steps. IsUploadPlanned c.args.key.now c.args.text.now name rows (Ok steps)) (sym c.new.ensures)
      (plan_again rows name c.args.domain are up is c.args.key.now c.key_reads_back.ensures c.args.document.now finds c.args.text.now ((rw c.as_slice.ensures at (sym c.is_same_text.ensures)) ∙ c.if-is_same_text.true));
}

pub returns : goal.returns
returns c = record {
  plans = λ name rows are up is finds.
      (plan_other rows name c.args.domain are up is c.args.key.now c.key_reads_back.ensures c.args.document.now finds c.args.text.now ((rw c.as_slice.ensures at (sym c.is_same_text.ensures)) ∙ c.if-is_same_text.false), tt);
}
