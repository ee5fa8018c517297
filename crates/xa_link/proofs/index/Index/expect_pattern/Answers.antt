use Rattle.std.proofs.Common.{◌≡◌, ◌==◌, false, length, rules, None}
use Rattle.std.specs.List.{each_same}
use Rattle.xa_link.specs.placing.Order.{IsOrder}
use Rattle.xa_link.specs.placing.Orders.{HasOrder, slot_by}
use Rattle.xa_link.proofs.SlotLemmas.{any_is, are_put}
use Rattle.xa_link.proofs.index.Index.expect_pattern.Goals as goal

pub reordered-requires : goal.reordered-requires
reordered-requires c =
    let some : (length c.self.inside.order.items == 0) ≡ false = search rules in
    let is : IsOrder None c.self.inside.active.now c.self.inside.order.items = any_is None c.self.inside.active.now c.self.inside.order.items some c.self.invariant.0 in
    let same : c.in_ok-clone.field-0.items ≡ c.self.inside.order.items = each_same c.self.inside.order.items c.in_ok-clone.field-0.items (search rules) in
    rw same is

pub invariant_of-self-then-is_empty : goal.invariant_of-self-then-is_empty
invariant_of-self-then-is_empty c =
    let has : HasOrder c.self.inside.orders.items (slot_by c.args.pattern.now) c.in_ok-order.order.items c.keep_order.new.orders.items =
    rw (← c.slot_of-slot.ensures, ← c.from_vec.ensures) c.in_ok-keep_order.ensures.ok in
    (c.self.invariant.0, are_put c.self.inside.active.now c.self.inside.orders.items c.keep_order.new.orders.items c.args.pattern.now c.in_ok-order.order.items c.self.invariant.1 c.in_ok-order.ensures has)
