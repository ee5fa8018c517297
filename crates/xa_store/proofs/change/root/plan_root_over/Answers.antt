use Rattle.std.proofs.Common.{sym, subst}
use Rattle.xa_store.proofs.Common.{both_ways, root_set, within}
use Rattle.xa_store.specs.keeping.Turns.{Plans}
use Rattle.xa_store.proofs.RootPlans.{plan_new, plan_same}
use Rattle.xa_store.proofs.change.root.plan_root_over.Goals as goal

pub returns-then-is_same_root : goal.returns-then-is_same_root
returns-then-is_same_root c = record {
  plans = λ name rows are up found at.
      subst (λ steps. Plans steps (within (root_set c.args.root)) name rows) (sym c.new.ensures)
      (plan_same rows name c.args.domain c.args.root_before.now c.args.root are up found at (c.is_same_root.ensures.0 c.if-is_same_root.true));
}

pub returns : goal.returns
returns c =
    let steps = rw c.in_ok-raised.ensures.number at c.in_ok-root_steps.ensures in
    record {
      plans = λ name rows are up found at.
          subst (λ steps. Plans steps (within (root_set c.args.root)) name rows) (sym steps)
          (plan_new rows name c.args.domain c.args.root_before.now c.args.root are up found at (λ same. both_ways _ c.if-is_same_root.false (c.is_same_root.ensures.1 same)) c.root_reads_back.ensures.reads c.root_reads_back.ensures.texts c.in_ok-raised.raised.epoch c.in_ok-raised.ensures.epoch);
    }
