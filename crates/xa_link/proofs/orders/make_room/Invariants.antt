use Rattle.std.proofs.Common.{◌+◌, ◌-◌, length}
use Rattle.xa_link.specs.placing.Orders.{SameOrders}
use Rattle.xa_link.proofs.orders.make_room.Given as goal

abbrev pub invariant-loop-alloc : goal.invariant-loop-alloc
invariant-loop-alloc l = SameOrders l.fn.orders.items l.orders.items

abbrev pub decreases-loop-alloc : goal.decreases-loop-alloc
decreases-loop-alloc l = l.slot + 1 - length l.orders.items
