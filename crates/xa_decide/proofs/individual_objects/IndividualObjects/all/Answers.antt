use Rattle.std.proofs.Common.{map, ap, ◌∙◌}
use Rattle.xa_decide.proofs.individual_objects.IndividualObjects.all.Goals as goal

pub returns : goal.returns
returns c = ap (λ os. map (λ o. o.now) os) c.as_slice.ensures.value ∙ c.self.view_is
