use Rattle.std.proofs.Common.{◌≡◌, true, false, nat_lt, Ok, sym, subst, rules, w64, ◌∙◌}
use Rattle.xa_store.proofs.Common.{to_z-of_z, state, rows_of}
use Rattle.xa_store.specs.keeping.Plan.{IsUploadPlanned}
use Rattle.xa_store.proofs.DocumentPlans.{plan_full, plan_upload}
use Rattle.xa_store.proofs.change.document.plan_upload_new.Goals as goal

pub returns-then-not-may_have_one_more_document-clause-plans : goal.returns-then-not-may_have_one_more_document-clause-plans
returns-then-not-may_have_one_more_document-clause-plans g c clean ours name is finds =
    let n = to_z-of_z w64 c.args.domain.number (search rules) in
    let rows = rows_of (state g.S.Store c.args.conn.now).now.trees in
    let full : nat_lt c.in_ok-count.count 1_024 ≡ false = sym c.may_have_one_more_document.ensures ∙ c.if-not-may_have_one_more_document.true in
    (plan_full rows name c.args.domain ours.domains ours.tables.domains.rise is c.args.key c.key_reads_back.ensures c.args.text.now c.in_ok-count.count (rw n at (c.in_ok-count.ensures.reads clean ours)) finds full, tt)

pub returns-clause-plans : goal.returns-clause-plans
returns-clause-plans g c clean ours name is finds =
    let n = to_z-of_z w64 c.args.domain.number (search rules) in
    let rows = rows_of (state g.S.Store c.args.conn.now).now.trees in
    let room : nat_lt c.in_ok-count.count 1_024 ≡ true = sym c.may_have_one_more_document.ensures ∙ c.if-not-may_have_one_more_document.false in
    let steps = rw (n, c.in_ok-raised.ensures.number) at (rw c.in_ok-copy.ensures at c.in_ok-step_and_epoch.ensures) in
    subst (λ steps. IsUploadPlanned c.args.key c.args.text.now name rows (Ok steps)) (sym steps)
    (plan_upload rows name c.args.domain ours.domains ours.tables.domains.rise is c.args.key c.key_reads_back.ensures c.in_ok-raised.raised.epoch c.in_ok-raised.ensures.epoch
    c.args.text.now c.requires c.in_ok-count.count (rw n at (c.in_ok-count.ensures.reads clean ours)) finds room)
