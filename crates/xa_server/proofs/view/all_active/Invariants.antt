use Rattle.std.proofs.Common.{◌≡◌, ◌++◌, map}
use Rattle.std.specs.Vec.Iter.{into_iter_items}
use Rattle.xa_server.specs.handling.Viewing.{active_by_key}
use Rattle.xa_server.proofs.view.all_active.Given as goal

-- the documents so far, and then those of the texts that are left
abbrev pub invariant-loop-one : goal.invariant-loop-one
invariant-loop-one l = l.active ++ map active_by_key (into_iter_items l.one-iterator) ≡ map active_by_key l.fn.texts
