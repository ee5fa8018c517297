use Rattle.std.proofs.Common.{◌≡◌, take}
use Rattle.xa_link.specs.placing.Progress.{Reads}
use Rattle.xa_link.specs.placing.Reach.{Gathers, some_named_by}
use Rattle.xa_link.proofs.reach.+naming.Given as goal

-- what the parts so far name was read
abbrev pub invariant-read_named_by_all-loop-part : goal.invariant-read_named_by_all-loop-part
invariant-read_named_by_all-loop-part l =
    (l.resolved.active ≡ l.fn.resolved.active)
    × Reads (some_named_by (take l.part-index l.parts)) l.fn.resolved l.resolved l.fn.reader l.reader
    × Gathers l.fn.resolved l.resolved l.fn.found.items l.found.items
