use Rattle.xa_link.proofs.SlotLemmas.{set_has, has_after}
use Rattle.xa_link.proofs.orders.keep_order.Goals as goal

pub returns-clause-ok : goal.returns-clause-ok
returns-clause-ok c = has_after _ _ _ _ _ c.in_ok-make_room.ensures.same (set_has _ _ _ c.in_ok-make_room.ensures.room)
