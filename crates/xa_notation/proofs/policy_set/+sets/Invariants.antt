use Rattle.std.proofs.Common.{◌≡◌, ◌+◌, ◌*◌, drop}
use Rattle.serde_json.specs.View.{items_view}
use Rattle.xa_notation.specs.Json.{each}
use Rattle.xa_notation.specs.parsing.Json.{behind}
use Rattle.xa_notation.specs.Shape.{written_child, written_set_within}
use Rattle.xa_notation.proofs.policy_set.+sets.Given as goal

-- those read so far, and then those that are left to read
abbrev pub invariant-written_children-loop-value : goal.invariant-written_children-loop-value
invariant-written_children-loop-value l =
    let reads = written_child (written_set_within l.depth) in
    behind l.children (each reads (items_view (drop l.value-index l.values))) ≡ each reads (items_view l.values)

-- each policy set is one level further in
abbrev pub decreases-written_set_within : goal.decreases-written_set_within
decreases-written_set_within l = 5 * l.depth

abbrev pub decreases-child_named : goal.decreases-child_named
decreases-child_named l = 5 * l.depth + 1

abbrev pub decreases-written_child : goal.decreases-written_child
decreases-written_child l = 5 * l.depth + 2

abbrev pub decreases-written_children : goal.decreases-written_children
decreases-written_children l = 5 * l.depth + 3

abbrev pub decreases-written_set_of : goal.decreases-written_set_of
decreases-written_set_of l = 5 * l.depth + 4
