use Rattle.std.proofs.Common.{◌≡◌, drop}
use Rattle.xa_store.specs.keeping.Check.{are_consecutive, no_place}
use Rattle.xa_store.proofs.check.tables.are_consecutive.Given as goal

abbrev pub invariant-loop-row : goal.invariant-loop-row
invariant-loop-row l = are_consecutive l.last (drop l.row-index l.rows) ≡ are_consecutive no_place l.rows
