use Rattle.std.proofs.Common.{◌≡◌, ◌++◌, map}
use Rattle.std.specs.Vec.Iter.{into_iter_items}
use Rattle.xa_store.proofs.query.row.read_all.Given as goal

-- what was told so far, before what the rows that are left tell
abbrev pub invariant-loop-row : goal.invariant-loop-row
invariant-loop-row g l = l.items ++ map g.T.FromRow.told (into_iter_items l.row-iterator) ≡ map g.T.FromRow.told l.fn.rows.items
