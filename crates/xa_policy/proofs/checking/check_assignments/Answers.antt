use Rattle.xa_policy.proofs.checking.check_assignments.Goals as goal
use Rattle.xa_policy.proofs.GivesLemmas.{item_fault, item_done, all_done}
use Rattle.xa_policy.proofs.CheckingLemmas.{one_more_assignment}

pub returns-in_err-check_assignment-clause-value : goal.returns-in_err-check_assignment-clause-value
returns-in_err-check_assignment-clause-value c =
    item_fault _ c.loop-assignment.all _ c.loop-assignment.assignment-index c.assignment-item.result c.in_err-check_assignment.field-0.0 c.from_residual.result _
    c.from_residual.ensures.1 c.in_err-check_assignment.ensures.value c.assignment-item.is c.loop-assignment-test.true c.loop-assignment.invariant.0

pub loop-assignment-preserved : goal.loop-assignment-preserved
loop-assignment-preserved c = rw c.in_ok-push.ensures.ok (
  item_done _ c.loop-assignment.all _ c.loop-assignment.assignment-index c.assignment-item.result c.in_ok-check_assignment.field-0 _ c.in_ok-check_assignment.ensures.value c.assignment-item.is c.loop-assignment-test.true c.loop-assignment.invariant.0,
  one_more_assignment _ c.loop-assignment.all c.in_ok-check_assignment.field-0 c.loop-assignment.invariant.1 c.in_ok-check_assignment.ensures.typed,
)

pub returns-clause-value : goal.returns-clause-value
returns-clause-value c = all_done _ c.loop-assignment.all _ c.loop-assignment.assignment-index _ c.loop-assignment-test.false c.loop-assignment.invariant.0
