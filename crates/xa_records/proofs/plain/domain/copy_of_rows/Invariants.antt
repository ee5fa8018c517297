use Rattle.std.proofs.Common.{◌≡◌, ◌++◌, drop}
use Rattle.xa_records.proofs.plain.domain.copy_of_rows.Given as goal

abbrev pub invariant-loop-row : goal.invariant-loop-row
invariant-loop-row l = l.copy.items ++ drop l.row-index l.rows ≡ l.rows
