use Rattle.std.proofs.Common.{◌≡◌, sym, ◌∙◌, refl, length, arith}
use Rattle.xa_bag.proofs.ChoosingLemmas.{chosen_most, left_whole}
use Rattle.xa_bag.proofs.choosing.choose_firsts.Goals as goal

pub loop-chosen-preserved : goal.loop-chosen-preserved
loop-chosen-preserved c =
    let step = rw c.if-not-found.false at c.in_ok-found.ensures in
    (step.0, sym (step.3 refl) ∙ c.loop-chosen.invariant.1)

pub loop-chosen-smaller : goal.loop-chosen-smaller
loop-chosen-smaller c =
    let step = rw c.if-not-found.false at c.in_ok-found.ensures in
    omega (arith, step.1, c.loop-chosen.chosen.ok.0)

pub returns-then-not-found : goal.returns-then-not-found
returns-then-not-found c =
    let step = rw c.if-not-found.true at c.in_ok-found.ensures in
    (sym c.loop-chosen.invariant.1 ∙ step.3 refl, λ e. absurd (cc))

pub returns : goal.returns
returns c =
    let most = chosen_most c.loop-chosen.chosen.items c.loop-chosen.places.items c.args.arguments.now c.loop-chosen.invariant.0 in
    let whole : length c.loop-chosen.chosen.items ≡ length c.args.arguments.now = omega (arith, most, c.loop-chosen.chosen.ok.0) in (
      sym c.loop-chosen.invariant.1 ∙ left_whole c.loop-chosen.chosen.items c.loop-chosen.places.items c.args.arguments.now c.loop-chosen.invariant.0 whole,
      λ e. (c.loop-chosen.invariant.0, whole),
    )
