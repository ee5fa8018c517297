use Rattle.std.proofs.Common.{sym, subst, rules, SFits, w64}
use Rattle.xa_store.proofs.Common.{to_z-of_z, created}
use Rattle.xa_store.specs.keeping.Turns.{Plans}
use Rattle.xa_store.proofs.CreatePlans.{plan_created}
use Rattle.xa_store.proofs.change.domain.plan_create_new.Goals as goal

pub returns : goal.returns
returns c =
    let low : SFits w64 c.args.number = search rules in
    let high : SFits w64 c.in_ok-next.next = search rules in
    let steps = rw (to_z-of_z w64 c.args.number low, to_z-of_z w64 c.in_ok-next.next high) at c.in_ok-create_steps.ensures in
    record {
      plans = λ rows are apart none next.
          subst (λ steps. Plans steps created c.args.name.now rows) (sym steps)
          (plan_created rows c.args.name.now c.args.number c.in_ok-next.next c.requires are apart none next (rw (to_z-of_z w64 c.args.number low) at c.in_ok-next.ensures));
    }
