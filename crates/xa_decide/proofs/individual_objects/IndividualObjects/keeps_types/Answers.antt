use Rattle.std.proofs.lemmas.List.Elements.{All-map}
use Rattle.xa_decide.specs.indexing.Types.{IsOfTypes}
use Rattle.xa_decide.proofs.individual_objects.IndividualObjects.keeps_types.Goals as goal

pub returns : goal.returns
returns c = rw (← c.self.view_is) (All-map IsOfTypes (λ o. o.now) _ c.self.invariant.1)
