use Rattle.std.proofs.Common.{◌≡◌, drop}
use Rattle.xa_bag.specs.Relation.{furthest}
use Rattle.xa_bag.proofs.relation.furthest.Given as goal

-- the one that is furthest so far, and of the rest, is the furthest of all
abbrev pub invariant-loop-other : goal.invariant-loop-other
invariant-loop-other l = furthest l.direction l.found (drop l.other-index l.others) ≡ furthest l.direction l.fn.value l.others
