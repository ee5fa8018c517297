use Rattle.std.proofs.Common.{◌≡◌, ◌++◌, drop}
use Rattle.xa_bag.specs.Bag.{OfType}
use Rattle.xa_decide.proofs.bag.push_all.Given as goal

-- the rest are of the type, and are still to be put
abbrev pub invariant-loop-value : goal.invariant-loop-value
invariant-loop-value l =
    (l.bag.data_type ≡ l.fn.bag.data_type)
    × OfType l.fn.bag.data_type (drop l.value-index l.values)
    × (l.bag.values ++ drop l.value-index l.values ≡ l.fn.bag.values ++ l.values)
