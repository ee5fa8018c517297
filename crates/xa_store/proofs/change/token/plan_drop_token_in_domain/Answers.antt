use Rattle.std.proofs.Common.{◌≡◌, Err, sym, subst, rules, w64}
use Rattle.xa_store.proofs.Common.{to_z-of_z, state, token_dropped, within, rows_of}
use Rattle.xa_store.specs.keeping.Turns.{Plans}
use Rattle.xa_store.proofs.AbsentLemmas.{refused_plan}
use Rattle.xa_store.proofs.TokenPlans.{plan_drop, plan_no_drop}
use Rattle.xa_store.proofs.change.token.plan_drop_token_in_domain.Goals as goal

pub returns-clause-plans : goal.returns-clause-plans
returns-clause-plans g c = λ clean ours name is.
    let n = to_z-of_z w64 c.args.domain.number (search rules) in
    let rows = rows_of (state g.S.Store c.args.conn.now).now.trees in
    subst (λ steps. Plans steps (within (token_dropped c.args.digest)) name rows) (sym (rw n at c.in_ok-one_step.ensures))
    (plan_drop rows name c.args.domain ours.tables.domains.rise ours.domains is c.args.digest _ (rw n at (c.in_ok-role_to_change.ensures.finds clean ours)))

pub returns-in_err-role_to_change-clause-plans : goal.returns-in_err-role_to_change-clause-plans
returns-in_err-role_to_change-clause-plans g c = λ clean ours name is.
    let n = to_z-of_z w64 c.args.domain.number (search rules) in
    let rows = rows_of (state g.S.Store c.args.conn.now).now.trees in
    let error = c.in_err-role_to_change.field-0.0 in
    let stopped : c.from_residual.result ≡ Err error = search rules in
    let refuses = plan_no_drop rows name c.args.domain ours.tables.domains.rise ours.domains is c.args.digest in
    rw stopped (refused_plan (within (token_dropped c.args.digest)) rows name refuses error (rw n at (c.in_err-role_to_change.ensures.absent clean ours)))
