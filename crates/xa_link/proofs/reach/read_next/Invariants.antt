use Rattle.std.proofs.Common.{◌≡◌, [], take}
use Rattle.xa_link.specs.placing.Progress.{Reads}
use Rattle.xa_link.specs.placing.Reach.{Gathers, some_named_by}
use Rattle.xa_link.proofs.reach.read_next.Given as goal

-- what the documents so far name was read
abbrev pub invariant-loop-document : goal.invariant-loop-document
invariant-loop-document l =
    (l.resolved.active ≡ l.fn.resolved.active)
    × Reads (some_named_by (take l.document-index l.documents)) l.fn.resolved l.resolved l.fn.reader l.reader
    × Gathers l.fn.resolved l.resolved [] l.found.items
