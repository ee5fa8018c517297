use Rattle.std.proofs.Common.{◌≡◌, map}
use Rattle.std.specs.Vec.Iter.{into_iter_items}
use Rattle.xa_bag.specs.HigherOrder.{collected}
use Rattle.xa_notation.specs.parsing.Json.{behind}
use Rattle.xa_notation.specs.Typing.{typed_all_of}
use Rattle.xa_notation.proofs.typing.typed_all_of.Given as goal

-- those typed so far, and then those that are left
abbrev pub invariant-loop-all_of : goal.invariant-loop-all_of
invariant-loop-all_of l = behind l.typed (collected (map typed_all_of (into_iter_items l.all_of-iterator))) ≡ collected (map typed_all_of l.fn.written)
