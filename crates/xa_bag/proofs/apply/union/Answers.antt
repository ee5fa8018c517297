use Rattle.xa_bag.proofs.ArgumentLemmas.{each_of_bags}
use Rattle.xa_bag.proofs.apply.union.Goals as goal

pub union-requires : goal.union-requires
union-requires g c = each_of_bags _ _ c.requires.1
