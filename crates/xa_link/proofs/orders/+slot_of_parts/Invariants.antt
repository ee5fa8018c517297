use Rattle.std.proofs.Common.{length}
use Rattle.xa_link.proofs.orders.+slot_of_parts.Given as goal

abbrev pub decreases-slot_of_parts : goal.decreases-slot_of_parts
decreases-slot_of_parts l = length l.parts.now
