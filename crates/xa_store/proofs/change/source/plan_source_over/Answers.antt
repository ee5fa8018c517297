use Rattle.std.proofs.Common.{inl, inr, sym, subst, ◌∙◌}
use Rattle.xa_store.proofs.Common.{both_ways, source_set, within}
use Rattle.xa_store.specs.keeping.Turns.{Plans}
use Rattle.xa_store.proofs.SourcePlans.{at_most, plan_new, plan_same, too_many}
use Rattle.xa_store.proofs.change.source.plan_source_over.Goals as goal

pub source_steps-requires : goal.source_steps-requires
source_steps-requires c = at_most c.args.rows (sym c.may_be_kept.ensures ∙ c.if-not-may_be_kept.false)

pub returns-then-not-may_be_kept : goal.returns-then-not-may_be_kept
returns-then-not-may_be_kept c = record { plans = λ name rows are up found at. too_many rows name c.args.domain c.args.rows found (sym c.may_be_kept.ensures ∙ c.if-not-may_be_kept.true); steps = tt }

pub returns-then-is_same_source : goal.returns-then-is_same_source
returns-then-is_same_source c = record {
  plans = λ name rows are up found at.
      subst (λ steps. Plans steps (within (source_set c.args.rows)) name rows) (sym c.new.ensures)
      (plan_same rows name c.args.domain c.args.source_before.now c.args.rows are up found at (sym c.may_be_kept.ensures ∙ c.if-not-may_be_kept.false) (c.is_same_source.ensures.0 c.if-is_same_source.true));
  steps = inl c.new.ensures;
}

pub returns : goal.returns
returns c =
    let steps = rw c.in_ok-raised.ensures.number at c.in_ok-source_steps.ensures in
    record {
      plans = λ name rows are up found at.
          subst (λ steps. Plans steps (within (source_set c.args.rows)) name rows) (sym steps)
          (plan_new rows name c.args.domain c.args.source_before.now c.args.rows are up found at (sym c.may_be_kept.ensures ∙ c.if-not-may_be_kept.false)
          (λ same. both_ways _ c.if-is_same_source.false (c.is_same_source.ensures.1 same)) (rw c.as_slice.ensures at c.in_ok-check_rows.ensures.reads) (rw c.as_slice.ensures at c.in_ok-check_rows.ensures.texts) c.in_ok-raised.raised.epoch
          c.in_ok-raised.ensures.epoch);
      steps = inr (c.in_ok-raised.raised.epoch, steps);
    }
