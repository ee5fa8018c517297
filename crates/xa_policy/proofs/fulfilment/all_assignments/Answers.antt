use Rattle.std.proofs.Common.{◌∙◌}
use Rattle.xa_bag.proofs.SetLemmas.{walked}
use Rattle.xa_policy.proofs.FulfilmentLemmas.{expression_assigned, expression_fault, first_typed}
use Rattle.xa_policy.proofs.fulfilment.all_assignments.Goals as goal

pub value-requires : goal.value-requires
value-requires g c =
    let at = walked c.args.expressions.now c.loop-expression.expression-index c.expression-item.result c.expression-item.is c.loop-expression-test.true in
    rw c.loop-expression.invariant.0 (first_typed _ _ _ c.expression-item.result at c.loop-expression.invariant.1).0

pub returns-in_err-given-clause-value : goal.returns-in_err-given-clause-value
returns-in_err-given-clause-value g c =
    let at = walked c.args.expressions.now c.loop-expression.expression-index c.expression-item.result c.expression-item.is c.loop-expression-test.true in
    expression_fault c.loop-expression.assignments _ _ _ c.expression-item.result c.in_err-given.field-0.0 c.from_residual.result _
    c.from_residual.ensures.1 (rw c.loop-expression.invariant.0 at c.in_err-given.ensures.value) at c.loop-expression.invariant.2

pub loop-expression-preserved : goal.loop-expression-preserved
loop-expression-preserved g c =
    let at = walked c.args.expressions.now c.loop-expression.expression-index c.expression-item.result c.expression-item.is c.loop-expression-test.true in (
      c.in_ok-given.ensures.kept ∙ c.loop-expression.invariant.0,
      (first_typed _ _ _ c.expression-item.result at c.loop-expression.invariant.1).1,
      rw c.in_ok-put.ensures (expression_assigned c.loop-expression.assignments _ _ _ c.expression-item.result c.in_ok-given.given _
          (rw c.loop-expression.invariant.0 at c.in_ok-given.ensures.value) at c.loop-expression.invariant.2),
    )
