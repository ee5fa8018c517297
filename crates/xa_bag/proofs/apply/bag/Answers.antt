use Rattle.xa_bag.proofs.ArgumentLemmas.{each_of_values}
use Rattle.xa_bag.proofs.apply.bag.Goals as goal

pub bag_of-requires : goal.bag_of-requires
bag_of-requires g c = each_of_values _ _ c.requires.1
