use Rattle.std.proofs.Common.{◌≡◌, drop}
use Rattle.xa_bag.specs.Bag.{OfType}
use Rattle.xa_bag.proofs.SetLemmas.{joined}
use Rattle.xa_bag.proofs.distinct.Distinct.with_all.Given as goal

-- the rest are of the type, and are still to join the values kept
abbrev pub invariant-loop-value : goal.invariant-loop-value
invariant-loop-value l =
    (l.all.data_type ≡ l.fn.self.data_type)
    × OfType l.fn.self.data_type (drop l.value-index l.values)
    × (joined l.all.values (drop l.value-index l.values) ≡ joined l.fn.self.values l.values)
