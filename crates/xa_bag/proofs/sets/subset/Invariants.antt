use Rattle.std.proofs.Common.{◌≡◌, drop}
use Rattle.xa_bag.specs.Sets.{subset}
use Rattle.xa_bag.proofs.sets.subset.Given as goal

-- the rest decide
abbrev pub invariant-loop-value : goal.invariant-loop-value
invariant-loop-value l = subset (drop l.value-index l.value-items) l.second.values ≡ subset l.first.values l.second.values
