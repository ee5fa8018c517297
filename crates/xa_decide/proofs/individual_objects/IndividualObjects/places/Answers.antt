use Rattle.std.proofs.Common.{map, ap, ◌∙◌}
use Rattle.xa_decide.proofs.KeyLemmas.{objects_found}
use Rattle.xa_decide.proofs.individual_objects.IndividualObjects.places.Goals as goal

pub returns : goal.returns
returns c =
    let objects = c.as_slice.result.now in
    objects_found c.args.category.now c.category_key-key.result objects c.args.self.now c.places_among.result.now c.category_key-key.ensures
    (ap (λ os. map (λ o. o.now) os) c.as_slice.ensures.value ∙ c.self.view_is) c.places_among.ensures
