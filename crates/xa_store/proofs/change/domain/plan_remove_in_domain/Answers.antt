use Rattle.std.proofs.Common.{sym, subst, rules, SFits, w64}
use Rattle.xa_store.proofs.Common.{to_z-of_z, removed}
use Rattle.xa_store.specs.keeping.Turns.{Plans}
use Rattle.xa_store.proofs.RemovePlans.{plan_removed}
use Rattle.xa_store.proofs.change.domain.plan_remove_in_domain.Goals as goal

pub returns : goal.returns
returns c =
    let low : SFits w64 c.args.domain.number = search rules in
    let steps = rw (to_z-of_z w64 c.args.domain.number low) at c.in_ok-one_step.ensures in
    record { plans = λ name rows are up is. subst (λ steps. Plans steps removed name rows) (sym steps) (plan_removed rows name c.args.domain are up is) }
