use Rattle.std.proofs.Common.{◌≡◌, true, false, nat_lt, sym, subst, rules, w64, ◌∙◌}
use Rattle.xa_store.proofs.Common.{to_z-of_z, state, token_put, within, rows_of}
use Rattle.xa_store.specs.keeping.Turns.{Plans}
use Rattle.xa_store.proofs.TokenPlans.{plan_full, plan_token}
use Rattle.xa_store.proofs.change.token.plan_put_token_new.Goals as goal

pub returns-then-not-may_have_one_more_token-clause-plans : goal.returns-then-not-may_have_one_more_token-clause-plans
returns-then-not-may_have_one_more_token-clause-plans g c clean ours name is finds =
    let n = to_z-of_z w64 c.args.domain.number (search rules) in
    let rows = rows_of (state g.S.Store c.args.conn.now).now.trees in
    let full : nat_lt c.in_ok-count.count 32 ≡ false = sym c.may_have_one_more_token.ensures ∙ c.if-not-may_have_one_more_token.true in
    plan_full rows name c.args.domain ours.tables.domains.rise ours.domains is c.args.digest c.in_ok-count.count (rw n at (c.in_ok-count.ensures.reads clean ours)) c.args.role finds full

pub returns-clause-plans : goal.returns-clause-plans
returns-clause-plans g c clean ours name is finds =
    let n = to_z-of_z w64 c.args.domain.number (search rules) in
    let rows = rows_of (state g.S.Store c.args.conn.now).now.trees in
    let room : nat_lt c.in_ok-count.count 32 ≡ true = sym c.may_have_one_more_token.ensures ∙ c.if-not-may_have_one_more_token.false in
    subst (λ steps. Plans steps (within (token_put c.args.digest c.args.role)) name rows) (sym (rw n at c.in_ok-one_step.ensures))
    (plan_token rows name c.args.domain ours.tables.domains.rise ours.domains is c.args.digest c.in_ok-count.count (rw n at (c.in_ok-count.ensures.reads clean ours)) c.args.role c.has_all_bytes.ensures finds room)
