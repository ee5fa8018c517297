use Rattle.std.proofs.Common.{◌≡◌, drop}
use Rattle.std.specs.Prelude.{filter}
use Rattle.xa_bag.specs.Bag.{OfType}
use Rattle.xa_bag.proofs.SetLemmas.{joined}
use Rattle.xa_bag.specs.Sets.{is_among, intersection}
use Rattle.xa_bag.proofs.sets.intersection.Given as goal

-- the rest are of the type, and are still to join the values kept, where they are in the second bag
abbrev pub invariant-loop-value : goal.invariant-loop-value
invariant-loop-value l =
    (l.both.data_type ≡ l.first.data_type)
    × OfType l.first.data_type (drop l.value-index l.value-items)
    × (joined l.both.values (filter (is_among l.second.values) (drop l.value-index l.value-items)) ≡ intersection l.first.values l.second.values)
