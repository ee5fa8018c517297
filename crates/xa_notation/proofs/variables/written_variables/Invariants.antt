use Rattle.std.proofs.Common.{◌≡◌, [], drop}
use Rattle.serde_json.specs.View.{items_view}
use Rattle.xa_notation.specs.Shape.{written_variables}
use Rattle.xa_notation.proofs.variables.written_variables.Given as goal

-- those read so far, and behind them those that are left to read
abbrev pub invariant-loop-value : goal.invariant-loop-value
invariant-loop-value l =
    written_variables l.definitions (items_view (drop l.value-index l.values)) ≡ written_variables [] (items_view l.values)
