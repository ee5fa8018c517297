use Rattle.std.proofs.Common.{◌≡◌, ◌++◌, map, drop}
use Rattle.xa_link.specs.placing.Placed.{placed}
use Rattle.xa_link.specs.Resolution.{resolve}
use Rattle.xa_link.proofs.placed.+places.Given as goal

-- those so far, and then those that are left, among the same documents
abbrev pub invariant-children_with_places-loop-child : goal.invariant-children_with_places-loop-child
invariant-children_with_places-loop-child l =
    (l.index ≡ l.fn.index)
    × (l.all.items ++ map (placed (resolve l.fn.index)) (drop l.child-index l.children) ≡ map (placed (resolve l.fn.index)) l.children)
