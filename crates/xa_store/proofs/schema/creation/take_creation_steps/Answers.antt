use Rattle.std.proofs.Common.{◌≡◌, ◌∙◌, ◌+◌, ◌≤◌, List, IsTrue, Err, length, get_or, drop, refl, sym, subst, rules}
use Rattle.std.proofs.lemmas.List.{drop_all}
use Rattle.xa_store.proofs.Common.{state, HasCleanDisk}
use Rattle.xa_store.specs.declared.schema.creation.CreationStep.{CreationStep}
use Rattle.xa_store.specs.declared.schema.creation.CreationStep.TheVariants as steps
use Rattle.xa_store.specs.keeping.Creation.{IsAfter, IsBefore}
use Rattle.xa_store.proofs.MakingLemmas.{MadeSoFar, none_made, one_made, stays_then}
use Rattle.xa_store.proofs.schema.creation.take_creation_steps.Goals as goal

pub loop-step-init : goal.loop-step-init
loop-step-init g c =
    let old = state g.S.Store c.args.tx.now.conn.now in
    (refl, subst (λ (left : List CreationStep). MadeSoFar left old old) (sym c.all-step-items.ensures) (none_made old))

pub loop-step-preserved : goal.loop-step-preserved
loop-step-preserved g c =
    let is = c.all-step-items.ensures in
    let at = c.loop-step.step-index in
    let old = state g.S.Store c.args.tx.now.conn.now in
    let mid = state g.S.Store c.loop-step.tx.conn.now in
    let new = state g.S.Store c.take_creation_step.new.tx.conn.now in
    let so_far = subst (λ (all : List CreationStep). MadeSoFar (drop at all) old mid) is c.loop-step.invariant.1 in
    let makes = subst (λ (all : List CreationStep). HasCleanDisk new → IsTrue mid.in_transaction → IsBefore (get_or all at steps.Meta) mid.now → IsAfter (get_or all at steps.Meta) new.now) is c.in_ok-take_creation_step.ensures.makes in (
      c.in_ok-take_creation_step.ensures.same_reference ∙ c.loop-step.invariant.0,
      subst (λ (all : List CreationStep). MadeSoFar (drop (at + 1) all) old new) (sym is) (one_made at c.loop-step-test.true old mid new so_far c.in_ok-take_creation_step.field-0 c.in_ok-take_creation_step.ensures.stays makes),
    )

pub returns-in_err-take_creation_step : goal.returns-in_err-take_creation_step
returns-in_err-take_creation_step g c =
    let failure = c.in_err-take_creation_step.field-0.0 in
    let stopped : c.from_residual.result ≡ Err failure = search rules in
    rw stopped
    (record {
      same_reference = c.in_err-take_creation_step.ensures.same_reference ∙ c.loop-step.invariant.0;
      stays = stays_then (state g.S.Store c.args.tx.now.conn.now) (state g.S.Store c.loop-step.tx.conn.now) (state g.S.Store c.take_creation_step.new.tx.conn.now) c.loop-step.invariant.1.stays (Err failure) c.in_err-take_creation_step.ensures.stays;
      makes = λ clean inside before. tt;
    })

pub returns : goal.returns
returns g c =
    let old = state g.S.Store c.args.tx.now.conn.now in
    let new = state g.S.Store c.loop-step.tx.conn.now in
    let past = subst (λ (all : List CreationStep). length all ≤ c.loop-step.step-index) (sym c.all-step-items.ensures) c.loop-step-test.false in
    let none = drop_all _ c.all-step-items.result past in
    let so_far = subst (λ (left : List CreationStep). MadeSoFar left old new) none c.loop-step.invariant.1 in
    record { same_reference = c.loop-step.invariant.0; stays = so_far.stays; makes = so_far.reaches }
