use Rattle.std.proofs.Common.{◌≡◌, drop}
use Rattle.xa_profile.specs.parsing.Tree.{items_view}
use Rattle.xa_profile.specs.Attribute.{value}
use Rattle.xa_profile.specs.Json.{each}
use Rattle.xa_profile.specs.parsing.Json.{behind}
use Rattle.xa_profile.proofs.attribute.bag_of.Given as goal

-- the bag is of the type, and has the values before those that are left to read
abbrev pub invariant-loop-value : goal.invariant-loop-value
invariant-loop-value l =
    (l.bag.data_type ≡ l.data_type)
    × (behind l.bag.values (each (value l.data_type) (items_view (drop l.value-index l.values))) ≡ each (value l.data_type) (items_view l.values))
