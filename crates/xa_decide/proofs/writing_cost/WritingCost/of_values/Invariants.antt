use Rattle.std.proofs.Common.{◌+◌, ◌≤◌, drop}
use Rattle.xa_profile.specs.writing.Lengths.{bytes_of_all, bytes_of_value}
use Rattle.xa_decide.proofs.writing_cost.WritingCost.of_values.Given as goal

-- what is counted so far, and what those take that are left
abbrev pub invariant-loop-value : goal.invariant-loop-value
invariant-loop-value l = l.cost.bytes + bytes_of_all bytes_of_value (drop l.value-index l.values) ≤ bytes_of_all bytes_of_value l.values
