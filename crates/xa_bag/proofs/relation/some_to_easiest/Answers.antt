use Rattle.xa_bag.proofs.RelationLemmas.{some_by_easiest, some_of_empty}
use Rattle.xa_bag.proofs.relation.some_to_easiest.Goals as goal

pub returns : goal.returns
returns c =
    some_by_easiest _ _ _ _ _ _ _ _ _ _ c.values.ensures.values c.values-others.ensures.values c.values-others.ensures.of_type c.in-Some.ensures.value
    c.to_easiest.ensures c.furthest-easiest.ensures c.some_as_asked.ensures

pub returns-in_default : goal.returns-in_default
returns-in_default c = some_of_empty _ _ _ _ c.values-others.ensures.values c.in_default.ensures.value
