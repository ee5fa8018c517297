use Rattle.std.proofs.Common.{None, sym, subst, rules, w64}
use Rattle.xa_store.proofs.Common.{to_z-of_z, state, token_put, within, Rows, rows_of}
use Rattle.xa_store.specs.keeping.Lookup.{FindsRole, IsDomain}
use Rattle.xa_store.specs.keeping.Turns.{IsPlanned, Plans}
use Rattle.xa_store.proofs.QuietLemmas.{ours_between, rows_between}
use Rattle.xa_store.proofs.TokenPlans.{plan_role}
use Rattle.xa_store.proofs.change.token.plan_put_token_in_domain.Goals as goal

pub returns-in_ok-one_step-in-Some-clause-plans : goal.returns-in_ok-one_step-in-Some-clause-plans
returns-in_ok-one_step-in-Some-clause-plans g c = λ clean ours name is.
    let n = to_z-of_z w64 c.args.domain.number (search rules) in
    let rows = rows_of (state g.S.Store c.args.conn.now).now.trees in
    subst (λ steps. Plans steps (within (token_put c.args.digest c.args.role)) name rows) (sym (rw n at c.in_ok-one_step-in-Some.ensures))
    (plan_role rows name c.args.domain ours.tables.domains.rise ours.domains is c.args.digest _ c.args.role (subst (FindsRole c.args.domain.number c.args.digest rows) c.in-Some.is (rw n at (c.in_ok-role_before.ensures.finds clean ours))))

pub returns-in-None-clause-plans : goal.returns-in-None-clause-plans
returns-in-None-clause-plans g c = λ clean ours name is.
    let n = to_z-of_z w64 c.args.domain.number (search rules) in
    let old = state g.S.Store c.args.conn.now in
    let middle = state g.S.Store c.role_of.new.conn in
    let new = state g.S.Store c.plan_put_token_new.new.conn in
    let first = c.in_ok-role_before.ensures.only_reads.quiet in
    let opens = c.in_ok-role_before.ensures.only_reads.opens in
    let second = c.plan_put_token_new.ensures.only_reads.quiet in
    let between = ours_between old middle new first opens second clean ours in
    let same = rows_between old middle new first opens second clean ours in
    let finds = subst (FindsRole c.args.domain.number c.args.digest (rows_of old.now.trees)) c.in-None.is (rw n at (c.in_ok-role_before.ensures.finds (second.clean clean) ours)) in
    subst (λ (rows : Rows). IsDomain name rows c.args.domain → FindsRole c.args.domain.number c.args.digest rows None → IsPlanned (within (token_put c.args.digest c.args.role)) name rows c.plan_put_token_new.result) same
    (c.plan_put_token_new.ensures.plans clean between name) is finds
