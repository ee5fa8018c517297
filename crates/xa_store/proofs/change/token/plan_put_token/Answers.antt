use Rattle.std.proofs.Common.{◌≡◌, Err, refl, rules}
use Rattle.xa_store.proofs.Common.{state, token_put, within, rows_of}
use Rattle.xa_store.proofs.AbsentLemmas.{absent_plan}
use Rattle.xa_store.proofs.change.token.plan_put_token.Goals as goal

pub returns-in_err-domain-clause-plans : goal.returns-in_err-domain-clause-plans
returns-in_err-domain-clause-plans g c = λ clean ours.
    let rows = rows_of (state g.S.Store c.args.conn.now).now.trees in
    let error = c.in_err-domain.field-0.0 in
    let stopped : c.from_residual.result ≡ Err error = search rules in
    rw stopped (absent_plan (within (token_put c.args.digest c.args.role)) rows c.args.name.now refl error (c.in_err-domain.ensures.absent clean ours))
