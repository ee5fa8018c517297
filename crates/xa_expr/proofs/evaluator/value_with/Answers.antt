use Rattle.xa_expr.proofs.WorkingOutLemmas.{value_worked}
use Rattle.xa_expr.proofs.evaluator.value_with.Goals as goal

pub returns-clause-value : goal.returns-clause-value
returns-clause-value g c =
    let same = value_worked _ _ _ c.args.expression.now _ c.in_ok-prepare.ensures.right c.in_ok-prepare.ensures.exact in
    rw (c.as_slice.ensures.value, same) at c.evaluate.ensures.value
