use Rattle.std.proofs.Common.{List, ◌≡◌, Ok, Err, rules, ◌∙◌}
use Rattle.xa_store.proofs.Common.{state, uploaded, within}
use Rattle.xa_records.specs.declared.refusal.ChangeError.TheVariants.{Failed}
use Rattle.xa_store.specs.declared.step.Step.{Step}
use Rattle.xa_store.proofs.TurnLemmas.{told, turned, unmade}
use Rattle.xa_store.proofs.change.document.upload.Goals as goal

pub returns-in_err-planned : goal.returns-in_err-planned
returns-in_err-planned g c =
    let old = state g.S.Store c.args.conn.now in
    let mid = state g.S.Store c.plan_upload.new.conn in
    let change = within (uploaded c.args.key c.args.text.now) in
    let error = c.in_err-planned.field-0.0 in
    let stopped : c.from_residual.result ≡ Err error = search rules in
    rw stopped
    (record {
      turns = unmade change c.args.name.now old mid mid c.in_err-planned.ensures.only_reads.quiet (List Step) error c.in_err-planned.ensures.only_reads.opens (λ clean ours. (c.in_err-planned.ensures.plans clean ours).0);
      which = λ clean ours. tt;
    })

pub returns-in_err-run : goal.returns-in_err-run
returns-in_err-run g c =
    let old = state g.S.Store c.args.conn.now in
    let mid = state g.S.Store c.plan_upload.new.conn in
    let new = state g.S.Store c.run.new.conn in
    let name = c.args.name.now in
    let change = within (uploaded c.args.key c.args.text.now) in
    let plan = c.in_ok-planned.ensures in
    let failure = c.in_err-run.field-0.0 in
    let ran = rw c.as_slice-steps.ensures at c.in_err-run.ensures in
    let turns = turned change name old mid new plan.only_reads.quiet c.in_ok-planned.planned plan.only_reads.opens (λ clean ours. (plan.plans clean ours).0) (Err failure) ran in
    let stopped : c.from_residual-in_err-run.result ≡ Err (Failed failure) = search rules in
    rw stopped (record { turns = told change name old new c.upload_by-upload.result (Err (Failed failure)) turns; which = λ clean ours. tt })

pub returns : goal.returns
returns g c =
    let old = state g.S.Store c.args.conn.now in
    let mid = state g.S.Store c.plan_upload.new.conn in
    let new = state g.S.Store c.run.new.conn in
    let name = c.args.name.now in
    let change = within (uploaded c.args.key c.args.text.now) in
    let plan = c.in_ok-planned.ensures in
    let done = c.in_ok-run.field-0 in
    let ran = rw c.as_slice-steps.ensures at c.in_ok-run.ensures in
    let turns = turned change name old mid new plan.only_reads.quiet c.in_ok-planned.planned plan.only_reads.opens (λ clean ours. (plan.plans clean ours).0) (Ok done) ran in
    record {
      turns = told change name old new c.upload_by-upload.result (Ok done) turns;
      which = λ clean ours. (rw c.as_slice-steps.ensures at c.upload_by-upload.ensures) ∙ (plan.plans (ran.clean clean) ours).1;
    }
