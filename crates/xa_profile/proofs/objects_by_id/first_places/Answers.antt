use Rattle.std.proofs.Common.{cond, ap, ◌∙◌}
use Rattle.std.specs.Prelude.{Some, None}
use Rattle.std.specs.Option.{option_or}
use Rattle.xa_profile.specs.Individuals.{has_id}
use Rattle.xa_profile.proofs.IdLemmas.{place_next}
use Rattle.xa_profile.proofs.objects_by_id.first_places.Goals as goal

pub loop-place-preserved : goal.loop-place-preserved
loop-place-preserved c =
    λ id. c.in_ok-put_object.ensures id
    ∙ ap (λ o. option_or o (cond (has_id id c.index-objects-place.result.id) (Some c.loop-place.place) None)) (c.loop-place.invariant id)
    ∙ place_next c.args.objects.now c.loop-place.place c.index-objects-place.result id c.loop-place-test.true c.index-objects-place.is
