use Rattle.std.proofs.Common.{◌+◌, ◌-◌, length}
use Rattle.xa_link.specs.placing.Placed.{SamePlaced}
use Rattle.xa_link.proofs.resolved.make_room.Given as goal

abbrev pub invariant-loop-documents : goal.invariant-loop-documents
invariant-loop-documents l = SamePlaced l.fn.documents.items l.documents.items

abbrev pub decreases-loop-documents : goal.decreases-loop-documents
decreases-loop-documents l = l.place + 1 - length l.documents.items
