use Rattle.std.proofs.Common.{◌≡◌, []}
use Rattle.std.specs.Vec.Iter.{into_iter_items}
use Rattle.xa_notation.specs.Typing.{typed_variables}
use Rattle.xa_notation.proofs.typing.typed_variables.Given as goal

-- those defined so far, and behind them those that are left
abbrev pub invariant-loop-variable : goal.invariant-loop-variable
invariant-loop-variable l = typed_variables l.variables (into_iter_items l.variable-iterator) ≡ typed_variables [] l.fn.written
