use Rattle.std.proofs.Common.{◌≡◌, map}
use Rattle.std.specs.Vec.Iter.{into_iter_items}
use Rattle.xa_bag.specs.HigherOrder.{collected}
use Rattle.xa_notation.specs.parsing.Json.{behind}
use Rattle.xa_notation.specs.Typing.{typed_any_of}
use Rattle.xa_notation.proofs.typing.typed_any_of.Given as goal

-- those typed so far, and then those that are left
abbrev pub invariant-loop-any_of : goal.invariant-loop-any_of
invariant-loop-any_of l = behind l.typed (collected (map typed_any_of (into_iter_items l.any_of-iterator))) ≡ collected (map typed_any_of l.fn.written)
