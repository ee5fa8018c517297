use Rattle.std.proofs.Common.{◌≡◌, sym, subst, rules, SFits, w64}
use Rattle.xa_store.proofs.Common.{to_z-of_z, deleted, within}
use Rattle.xa_store.specs.keeping.Turns.{Plans}
use Rattle.xa_store.proofs.DocumentPlans.{plan_busy, plan_drop}
use Rattle.xa_store.proofs.change.document.plan_delete_over.Goals as goal

pub returns-then-document : goal.returns-then-document
returns-then-document c = record {
  plans = λ name rows are up is finds. plan_busy rows name c.args.domain are up is c.args.key.now c.key_reads_back.ensures c.args.document.now finds (search rules);
}

pub returns : goal.returns
returns c =
    let low : SFits w64 c.args.domain.number = search rules in
    let copy : c.in_ok-copy.copy ≡ c.args.key.now = first_of (search rules, cc) in
    let steps = rw (to_z-of_z w64 c.args.domain.number low, c.in_ok-raised.ensures.number) at (rw copy at c.in_ok-step_and_epoch.ensures) in
    record {
      plans = λ name rows are up is finds.
          subst (λ steps. Plans steps (within (deleted c.args.key.now)) name rows) (sym steps)
          (plan_drop rows name c.args.domain are up is c.args.key.now c.key_reads_back.ensures c.in_ok-raised.raised.epoch c.in_ok-raised.ensures.epoch c.args.document.now finds (search rules));
    }
