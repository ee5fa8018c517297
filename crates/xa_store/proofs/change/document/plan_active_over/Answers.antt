use Rattle.std.proofs.Common.{◌≡◌, sym, subst, rules, SFits, w64}
use Rattle.xa_store.proofs.Common.{to_z-of_z, both_ways, activity_set, within}
use Rattle.xa_store.specs.keeping.Turns.{Plans}
use Rattle.xa_store.proofs.DocumentPlans.{plan_activity, plan_still}
use Rattle.xa_store.proofs.change.document.plan_active_over.Goals as goal

pub returns-then-is_same_activity : goal.returns-then-is_same_activity
returns-then-is_same_activity c = record {
  plans = λ name rows are up is finds.
      subst (λ steps. Plans steps (within (activity_set c.args.key.now c.args.active)) name rows) (sym c.new.ensures)
      (plan_still rows name c.args.domain are up is c.args.key.now c.key_reads_back.ensures c.args.document.now finds c.args.active (c.is_same_activity.ensures.0 c.if-is_same_activity.true));
}

pub returns : goal.returns
returns c =
    let low : SFits w64 c.args.domain.number = search rules in
    let copy : c.in_ok-copy.copy ≡ c.args.key.now = first_of (search rules, cc) in
    let steps = rw (to_z-of_z w64 c.args.domain.number low, c.in_ok-raised.ensures.number) at (rw copy at c.in_ok-step_and_epoch.ensures) in
    record {
      plans = λ name rows are up is finds.
          subst (λ steps. Plans steps (within (activity_set c.args.key.now c.args.active)) name rows) (sym steps)
          (plan_activity rows name c.args.domain are up is c.args.key.now c.key_reads_back.ensures c.in_ok-raised.raised.epoch c.in_ok-raised.ensures.epoch c.args.document.now finds c.args.active
          (λ same. both_ways _ c.if-is_same_activity.false (c.is_same_activity.ensures.1 same)));
    }
