use Rattle.xa_bag.proofs.RelationLemmas.{each_by_hardest, each_of_empty}
use Rattle.xa_bag.proofs.relation.each_to_hardest.Goals as goal

pub returns : goal.returns
returns c =
    each_by_hardest _ _ _ _ _ _ _ _ _ _ c.values.ensures.values c.values-others.ensures.values c.values-others.ensures.of_type c.in-Some.ensures.value
    c.to_hardest.ensures c.furthest-hardest.ensures c.all_as_asked.ensures

pub returns-in_default : goal.returns-in_default
returns-in_default c = each_of_empty _ _ _ _ c.values-others.ensures.values c.in_default.ensures.value
