use Rattle.std.proofs.Common.{sym, ◌∙◌}
use Rattle.xa_store.proofs.Common.{state, rows_of}
use Rattle.xa_store.proofs.CreatePlans.{found_exists}
use Rattle.xa_store.proofs.change.domain.plan_create.Goals as goal

pub returns-then-is_some-clause-plans : goal.returns-then-is_some-clause-plans
returns-then-is_some-clause-plans g c = λ clean ours.
    found_exists (rows_of (state g.S.Store c.args.conn.now).now.trees) c.args.name.now c.in_ok-found.found (sym c.is_some.ensures ∙ c.if-is_some.true) (c.in_ok-found.ensures.finds clean ours)
