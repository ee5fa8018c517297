use Rattle.xa_bag.proofs.RelationLemmas.{each_by_easiest, each_to_empty}
use Rattle.xa_bag.proofs.relation.each_to_easiest.Goals as goal

pub returns : goal.returns
returns c =
    each_by_easiest _ _ _ _ _ _ _ _ _ _ c.values.ensures.values c.values-others.ensures.values c.values-others.ensures.of_type c.in-Some.ensures.value
    c.to_easiest.ensures c.furthest-easiest.ensures c.all_as_asked.ensures

pub returns-in_default : goal.returns-in_default
returns-in_default c = each_to_empty _ _ _ _ _ c.values-others.ensures.values c.in_default.ensures.value c.is_empty.ensures
