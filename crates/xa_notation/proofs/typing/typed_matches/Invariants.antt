use Rattle.std.proofs.Common.{◌≡◌, map}
use Rattle.std.specs.Vec.Iter.{into_iter_items}
use Rattle.xa_bag.specs.HigherOrder.{collected}
use Rattle.xa_notation.specs.parsing.Json.{behind}
use Rattle.xa_notation.specs.Typing.{typed_match}
use Rattle.xa_notation.proofs.typing.typed_matches.Given as goal

-- those typed so far, and then those that are left
abbrev pub invariant-loop-written_match : goal.invariant-loop-written_match
invariant-loop-written_match l = behind l.typed (collected (map typed_match (into_iter_items l.written_match-iterator))) ≡ collected (map typed_match l.fn.written)
