use Rattle.xa_bag.proofs.RelationLemmas.{all_are_one, each_of_empty}
use Rattle.xa_bag.proofs.relation.all_equal.Goals as goal

pub returns : goal.returns
returns c =
    all_are_one _ _ _ _ _ _ _ _ c.values.ensures.values c.values-others.ensures.values c.in-Some.ensures.value c.is_empty.ensures c.are_all.ensures c.are_all-2.ensures

pub returns-in_default : goal.returns-in_default
returns-in_default c = each_of_empty _ _ _ _ c.values-others.ensures.values c.in_default.ensures.value
