use Rattle.std.proofs.Common.{◌≡◌, refl, arith, ◌∙◌, ap}
use Rattle.std.proofs.Common.{length}
use Rattle.xa_profile.proofs.GroupLemmas.{grouped_none, grouped_next, grouped_all, may_put}
use Rattle.xa_profile.proofs.CombinationLemmas.{are_some}
use Rattle.xa_profile.proofs.grouping.places_by_category.Goals as goal

pub loop-place-init : goal.loop-place-init
loop-place-init c = rw (c.new-groups.ensures.items, c.new-numbers.ensures.empty) (grouped_none c.args.objects.now _ (λ q. refl))

pub put-requires : goal.put-requires
put-requires c = may_put _ _ _ _ _ _ c.loop-place.invariant

pub loop-place-preserved : goal.loop-place-preserved
loop-place-preserved c =
    grouped_next _ _ _ _ _ _ c.index-objects-place.result _ c.as_str.ensures c.loop-place-test.true c.index-objects-place.is c.loop-place.invariant
    c.in_ok-put.ensures.found c.in_ok-put.ensures.new

pub returns : goal.returns
returns c =
    let end : c.loop-place.place ≡ length c.args.objects.now = omega (arith, c.loop-place-test.false, c.loop-place.auto.place-end) in
    let h = grouped_all c.args.objects.now c.loop-place.place c.loop-place.groups.items _ end c.loop-place.invariant in
    record { value = c.from_vec.ensures ∙ h.0; some = ap are_some c.from_vec.ensures ∙ h.1 }
