use Rattle.xa_bag.proofs.RelationLemmas.{some_of_bags, each_some_of_bags, each_each_of_bags}
use Rattle.xa_bag.proofs.relation.Relation.of_bags.Goals as goal

pub returns-in-AnyOfAny : goal.returns-in-AnyOfAny
returns-in-AnyOfAny c = some_of_bags _ _ _ _ _ _ c.some_to_some.ensures c.in-AnyOfAny.is

pub returns-in-AllOfAny : goal.returns-in-AllOfAny
returns-in-AllOfAny c = each_some_of_bags _ _ _ _ _ _ c.each_to_some.ensures c.in-AllOfAny.is

pub returns-in-AllOfAll : goal.returns-in-AllOfAll
returns-in-AllOfAll c = each_each_of_bags _ _ _ _ _ _ c.each_to_each.ensures c.in-AllOfAll.is
