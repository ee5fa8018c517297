use Rattle.std.proofs.Common.{◌≡◌, ◌+◌, ◌*◌, drop}
use Rattle.serde_json.specs.View.{items_view}
use Rattle.xa_notation.specs.Json.{each}
use Rattle.xa_notation.specs.parsing.Json.{behind}
use Rattle.xa_notation.specs.Shape.{expression_within}
use Rattle.xa_notation.proofs.expression.+expressions.Given as goal

-- those read so far, and then those that are left to read
abbrev pub invariant-expressions-loop-value : goal.invariant-expressions-loop-value
invariant-expressions-loop-value l =
    behind l.expressions (each (expression_within l.depth) (items_view (drop l.value-index l.values))) ≡ each (expression_within l.depth) (items_view l.values)

-- each expression is one level further in
abbrev pub decreases-expression_within : goal.decreases-expression_within
decreases-expression_within l = 5 * l.depth

abbrev pub decreases-expressions : goal.decreases-expressions
decreases-expressions l = 5 * l.depth + 1

abbrev pub decreases-apply : goal.decreases-apply
decreases-apply l = 5 * l.depth + 2

abbrev pub decreases-expression_named : goal.decreases-expression_named
decreases-expression_named l = 5 * l.depth + 3

abbrev pub decreases-expression_of : goal.decreases-expression_of
decreases-expression_of l = 5 * l.depth + 4
