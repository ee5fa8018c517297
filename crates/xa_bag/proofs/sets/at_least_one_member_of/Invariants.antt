use Rattle.std.proofs.Common.{◌≡◌, drop}
use Rattle.xa_bag.specs.Sets.{at_least_one}
use Rattle.xa_bag.proofs.sets.at_least_one_member_of.Given as goal

-- the rest decide
abbrev pub invariant-loop-value : goal.invariant-loop-value
invariant-loop-value l = at_least_one (drop l.value-index l.value-items) l.second.values ≡ at_least_one l.first.values l.second.values
