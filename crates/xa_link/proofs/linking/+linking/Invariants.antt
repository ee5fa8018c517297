use Rattle.std.proofs.Common.{◌≡◌, ◌+◌, ◌-◌, ◌*◌, map, drop, take}
use denote.Param.Weighed.{most}
use Rattle.xa_link.proofs.placed.Placed.TheLaws.{the_size}
use Rattle.xa_link.specs.placing.Placed.{led_within, linked}
use Rattle.xa_link.specs.placing.Progress.{Reads, led_from_all}
use Rattle.xa_link.specs.placing.Room.{all_fitted, fitted_behind}
use Rattle.xa_link.proofs.LinkingLemmas.{further, greatest_depth}
use Rattle.xa_link.proofs.linking.+linking.Given as goal

-- a reference leads one document further along the path, and what it leads to is a part of a document
abbrev pub decreases-linked_reference : goal.decreases-linked_reference
decreases-linked_reference l = further l.resolved.now.active l.path.now.more

abbrev pub decreases-linked_active : goal.decreases-linked_active
decreases-linked_active l = further l.resolved.now.active (l.path.now.more - 1) + 4 * greatest_depth l.resolved.now.active + 3

abbrev pub decreases-linked_document : goal.decreases-linked_document
decreases-linked_document l = further l.resolved.now.active l.path.now.more + 4 * the_size l.document.now + 1

abbrev pub decreases-linked_set : goal.decreases-linked_set
decreases-linked_set l = further l.resolved.now.active l.path.now.more + 4 * most the_size l.children.now + 3

abbrev pub decreases-linked_children : goal.decreases-linked_children
decreases-linked_children l = further l.resolved.now.active l.path.now.more + 4 * most the_size l.children.now + 2

-- those so far, and then those that are left, in the room that is left; and what those so far lead to is read
abbrev pub invariant-linked_children-loop-child : goal.invariant-linked_children-loop-child
invariant-linked_children-loop-child l =
    let child = linked (led_within l.path.more l.resolved.active l.path.places.now) in
    let first = linked (led_within l.path.more l.fn.resolved.active l.path.places.now) in
    (l.resolved.active ≡ l.fn.resolved.active)
    × (fitted_behind l.parts (all_fitted l.room (map child (drop l.child-index l.children))) ≡ all_fitted l.fn.room (map child l.children))
    × (fitted_behind l.parts (all_fitted l.room (map first (drop l.child-index l.children))) ≡ all_fitted l.fn.room (map first l.children))
    × Reads (led_from_all l.path.more l.fn.resolved.active l.path.places.now (take l.child-index l.children)) l.fn.resolved l.resolved l.fn.reader l.reader
