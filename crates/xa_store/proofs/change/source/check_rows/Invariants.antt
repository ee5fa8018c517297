use Rattle.std.proofs.Common.{drop}
use Rattle.xa_store.specs.keeping.Plan.{HaveTexts, RowsRead}
use Rattle.xa_store.proofs.change.source.check_rows.Given as goal

-- all of them do, if those that are left do
abbrev pub invariant-loop-row : goal.invariant-loop-row
invariant-loop-row l = (RowsRead (drop l.row-index l.rows) → RowsRead l.rows) × (HaveTexts (drop l.row-index l.rows) → HaveTexts l.rows)
