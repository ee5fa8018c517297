use Rattle.std.proofs.Common.{ap, sym, ◌∙◌}
use Rattle.xa_profile.specs.Individuals.{with_each, at_most_64}
use Rattle.xa_profile.proofs.CombinationLemmas.{all_too_many, next_combinations}
use Rattle.xa_profile.proofs.combinations.combinations.Goals as goal

pub returns-then-are_too_many : goal.returns-then-are_too_many
returns-then-are_too_many c =
    let m = c.loop-places.invariant in
    sym m.0
    ∙ all_too_many c.args.lists.now c.loop-places.all.items c.loop-places.places-index c.places-item.result _ _ c.places-item.is c.loop-places-test.true m.1
    (c.len.ensures ∙ c.loop-places.all.ok.0) c.len-in-loop-places.ensures (sym c.are_too_many.ensures ∙ c.if-are_too_many.true)

pub loop-places-preserved : goal.loop-places-preserved
loop-places-preserved c =
    let m = c.loop-places.invariant in
    let next = c.in_ok-all.ensures ∙ ap (with_each c.loop-places.all.items) c.as_slice.ensures in
    let h =
    next_combinations c.args.lists.now c.loop-places.all.items _ c.loop-places.places-index c.places-item.result _ _ c.places-item.is c.loop-places-test.true m.1
    (c.len.ensures ∙ c.loop-places.all.ok.0) c.len-in-loop-places.ensures (sym c.are_too_many.ensures ∙ c.if-are_too_many.false) next in
    (ap at_most_64 h.0 ∙ m.0, h.1, h.2)
