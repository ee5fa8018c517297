use Rattle.std.proofs.Common.{None, subst, rules, w64}
use Rattle.xa_store.proofs.Common.{to_z-of_z, state, Rows, rows_of}
use Rattle.xa_store.specs.keeping.Lookup.{FindsDocument, IsDomain}
use Rattle.xa_store.specs.keeping.Plan.{IsUploadPlanned}
use Rattle.xa_store.proofs.QuietLemmas.{ours_between, rows_between}
use Rattle.xa_store.proofs.change.document.plan_upload_in_domain.Goals as goal

pub returns-in-Some-clause-plans : goal.returns-in-Some-clause-plans
returns-in-Some-clause-plans g c clean ours name is =
    let n = to_z-of_z w64 c.args.domain.number (search rules) in
    let rows = rows_of (state g.S.Store c.args.conn.now).now.trees in
    c.plan_upload_again.ensures.plans name rows ours.domains ours.tables.domains.rise is (subst (FindsDocument c.args.domain.number c.args.key rows) c.in-Some.is (rw n at (c.in_ok-document.ensures.finds clean ours)))

pub returns-in-None-clause-plans : goal.returns-in-None-clause-plans
returns-in-None-clause-plans g c clean ours name is =
    let n = to_z-of_z w64 c.args.domain.number (search rules) in
    let old = state g.S.Store c.args.conn.now in
    let middle = state g.S.Store c.document_of.new.conn in
    let new = state g.S.Store c.plan_upload_new.new.conn in
    let first = c.in_ok-document.ensures.only_reads.quiet in
    let opens = c.in_ok-document.ensures.only_reads.opens in
    let second = c.plan_upload_new.ensures.only_reads.quiet in
    let between = ours_between old middle new first opens second clean ours in
    let same = rows_between old middle new first opens second clean ours in
    let finds = subst (FindsDocument c.args.domain.number c.args.key (rows_of old.now.trees)) c.in-None.is (rw n at (c.in_ok-document.ensures.finds (second.clean clean) ours)) in
    subst (λ (rows : Rows). IsDomain name rows c.args.domain → FindsDocument c.args.domain.number c.args.key rows None → IsUploadPlanned c.args.key c.args.text.now name rows c.plan_upload_new.result) same
    (c.plan_upload_new.ensures.plans clean between name) is finds
