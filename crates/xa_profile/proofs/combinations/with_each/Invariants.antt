use Rattle.std.proofs.Common.{◌≡◌, ◌++◌}
use Rattle.std.specs.Vec.Iter.{into_iter_items}
use Rattle.xa_profile.specs.Individuals.{with_each}
use Rattle.xa_profile.proofs.combinations.with_each.Given as goal

-- the combinations so far, before those that come of the combinations that are left
abbrev pub invariant-loop-combination : goal.invariant-loop-combination
invariant-loop-combination l =
    l.all.items ++ with_each (into_iter_items l.combination-iterator) l.places ≡ with_each l.fn.combinations.items l.places
