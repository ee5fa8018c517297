use Rattle.std.proofs.Common.{◌≡◌, ◌≤◌, ◌+◌, ◌++◌, length}
use Rattle.std.specs.Vec.Iter.{into_iter_items}
use Rattle.xa_store.specs.keeping.Plan.{row_steps}
use Rattle.xa_store.proofs.change.source.row_steps.Given as goal

-- the steps so far, before those of the rows that are left
abbrev pub invariant-loop-row : goal.invariant-loop-row
invariant-loop-row l =
    (l.steps ++ row_steps l.number l.place (into_iter_items l.row-iterator) ≡ l.fn.steps ++ row_steps l.number 0 l.fn.rows)
    × (l.place + length (into_iter_items l.row-iterator) ≤ 4_096)
