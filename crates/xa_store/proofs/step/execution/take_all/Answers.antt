use Rattle.std.proofs.Common.{◌≡◌, ◌∙◌, List, Err, refl, subst, rules}
use Rattle.std.proofs.lemmas.List.{drop_all}
use Rattle.xa_store.proofs.Common.{state}
use Rattle.xa_store.specs.declared.step.Step.{Step}
use Rattle.xa_store.proofs.CountLemmas.{rest_from}
use Rattle.xa_store.proofs.TakeLemmas.{SoFar, all_taken, none_taken, one_more, stays_on}
use Rattle.xa_store.proofs.step.execution.take_all.Goals as goal

pub loop-step-init : goal.loop-step-init
loop-step-init g c = (refl, none_taken c.args.steps.now (state g.S.Store c.args.tx.now.conn.now))

pub loop-step-preserved : goal.loop-step-preserved
loop-step-preserved g c =
    let old = state g.S.Store c.args.tx.now.conn.now in
    let mid = state g.S.Store c.loop-step.tx.conn.now in
    let new = state g.S.Store c.take.new.tx.conn.now in
    let first = rest_from c.args.steps.now c.loop-step.step-index c.step-item.result c.step-item.is c.loop-step-test.true in
    let so_far = subst (λ (rest : List Step). SoFar c.args.steps.now rest old mid) first c.loop-step.invariant.1 in (
      c.in_ok-take.ensures.same_reference ∙ c.loop-step.invariant.0,
      one_more c.args.steps.now c.step-item.result _ old mid new so_far c.in_ok-take.field-0 c.in_ok-take.ensures.stays c.in_ok-take.ensures.takes,
    )

pub returns-in_err-take : goal.returns-in_err-take
returns-in_err-take g c =
    let old = state g.S.Store c.args.tx.now.conn.now in
    let mid = state g.S.Store c.loop-step.tx.conn.now in
    let new = state g.S.Store c.take.new.tx.conn.now in
    let failure = c.in_err-take.field-0.0 in
    let stopped : c.from_residual.result ≡ Err failure = search rules in
    rw stopped
    (record {
      same_reference = c.in_err-take.ensures.same_reference ∙ c.loop-step.invariant.0;
      stays = stays_on c.args.steps.now _ old mid new c.loop-step.invariant.1 (Err failure) (Err failure) (λ h. h) c.in_err-take.ensures.stays;
      takes = λ clean inside allows. tt;
    })

pub returns : goal.returns
returns g c =
    let old = state g.S.Store c.args.tx.now.conn.now in
    let new = state g.S.Store c.loop-step.tx.conn.now in
    let none = drop_all _ c.args.steps.now c.loop-step-test.false in
    let so_far = subst (λ (rest : List Step). SoFar c.args.steps.now rest old new) none c.loop-step.invariant.1 in
    record {
      same_reference = c.loop-step.invariant.0;
      stays = so_far.stays;
      takes = λ clean inside allows. all_taken c.args.steps.now old new so_far clean inside allows;
    }
