use Rattle.xa_policy.proofs.checking.check_each_duty.Goals as goal
use Rattle.xa_policy.proofs.GivesLemmas.{item_fault, item_done, all_done}
use Rattle.xa_policy.proofs.CheckingLemmas.{one_more_duty}

pub returns-in_err-check_duty-clause-value : goal.returns-in_err-check_duty-clause-value
returns-in_err-check_duty-clause-value c =
    item_fault _ c.loop-duty.all _ c.loop-duty.duty-index c.duty-item.result c.in_err-check_duty.field-0.0 c.from_residual.result _
    c.from_residual.ensures.1 c.in_err-check_duty.ensures.value c.duty-item.is c.loop-duty-test.true c.loop-duty.invariant.0

pub loop-duty-preserved : goal.loop-duty-preserved
loop-duty-preserved c = rw c.in_ok-push.ensures.ok (
  item_done _ c.loop-duty.all _ c.loop-duty.duty-index c.duty-item.result c.in_ok-check_duty.field-0 _ c.in_ok-check_duty.ensures.value c.duty-item.is c.loop-duty-test.true c.loop-duty.invariant.0,
  one_more_duty _ c.loop-duty.all c.in_ok-check_duty.field-0 c.loop-duty.invariant.1 c.in_ok-check_duty.ensures.typed,
)

pub returns-clause-value : goal.returns-clause-value
returns-clause-value c = all_done _ c.loop-duty.all _ c.loop-duty.duty-index _ c.loop-duty-test.false c.loop-duty.invariant.0
