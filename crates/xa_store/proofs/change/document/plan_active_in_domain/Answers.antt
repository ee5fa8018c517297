use Rattle.std.proofs.Common.{◌≡◌, Err, rules, w64}
use Rattle.xa_store.proofs.Common.{to_z-of_z, state, activity_set, within, rows_of}
use Rattle.xa_store.proofs.AbsentLemmas.{refused_plan}
use Rattle.xa_store.proofs.DocumentPlans.{plan_no_activity}
use Rattle.xa_store.proofs.change.document.plan_active_in_domain.Goals as goal

pub returns-clause-plans : goal.returns-clause-plans
returns-clause-plans g c = λ clean ours name is.
    let n = to_z-of_z w64 c.args.domain.number (search rules) in
    let rows = rows_of (state g.S.Store c.args.conn.now).now.trees in
    c.plan_active_over.ensures.plans name rows ours.domains ours.tables.domains.rise is (rw n at (c.in_ok-document.ensures.finds clean ours))

pub returns-in_err-document-clause-plans : goal.returns-in_err-document-clause-plans
returns-in_err-document-clause-plans g c = λ clean ours name is.
    let n = to_z-of_z w64 c.args.domain.number (search rules) in
    let rows = rows_of (state g.S.Store c.args.conn.now).now.trees in
    let error = c.in_err-document.field-0.0 in
    let stopped : c.from_residual.result ≡ Err error = search rules in
    let refuses = plan_no_activity rows name c.args.domain ours.domains ours.tables.domains.rise is c.args.key.now c.key_reads_back.ensures c.args.active in
    rw stopped (refused_plan (within (activity_set c.args.key.now c.args.active)) rows name refuses error (rw n at (c.in_err-document.ensures.absent clean ours)))
