use Rattle.xa_value.proofs.OrderLemmas.{order_is_order}
use Rattle.xa_value.proofs.value.Value.order.Goals as goal

pub returns-then-is_ordered-clause-law : goal.returns-then-is_ordered-clause-law
returns-then-is_ordered-clause-law c = order_is_order

pub returns-else-is_same-clause-law : goal.returns-else-is_same-clause-law
returns-else-is_same-clause-law c = order_is_order
