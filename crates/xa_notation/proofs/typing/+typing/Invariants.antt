use Rattle.std.proofs.Common.{◌≡◌, map}
use Rattle.std.specs.Vec.Iter.{into_iter_items}
use Rattle.xa_bag.specs.HigherOrder.{collected}
use Rattle.xa_notation.specs.parsing.Json.{behind}
use Rattle.xa_notation.specs.Typing.{typed_tree}
use Rattle.xa_notation.proofs.typing.+typing.Given as goal

-- those typed so far, and then those that are left
abbrev pub invariant-typed_children-loop-child : goal.invariant-typed_children-loop-child
invariant-typed_children-loop-child l = behind l.typed (collected (map typed_tree (into_iter_items l.child-iterator))) ≡ collected (map typed_tree l.fn.written)
