use Rattle.std.proofs.Common.{sym, ◌∙◌}
use Rattle.std.proofs.lemmas.List.{drop_all}
use Rattle.xa_bag.proofs.SetLemmas.{walked}
use Rattle.xa_policy.proofs.FulfilmentLemmas.{duties_done, duty_fault}
use Rattle.xa_policy.proofs.fulfilment.duties_with.Goals as goal

pub returns-in_err-duty-clause-value : goal.returns-in_err-duty-clause-value
returns-in_err-duty-clause-value g c =
    let at = walked c.args.expressions.now c.loop-expression.expression-index c.expression-item.result c.expression-item.is c.loop-expression-test.true in
    duty_fault _ c.loop-expression.duties.items _ c.args.effect _ _ c.expression-item.result c.in_err-duty.field-0.0 c.from_residual-in_err-duty.result _
    c.from_residual-in_err-duty.ensures.1 (rw c.loop-expression.invariant.0 at c.in_err-duty.ensures.value) (sym c.is.ensures ∙ c.if-is.true) at c.loop-expression.invariant.2

pub returns-clause-value : goal.returns-clause-value
returns-clause-value g c =
    duties_done c.loop-expression.duties.items _ c.args.effect _ _ (drop_all c.loop-expression.expression-index c.args.expressions.now c.loop-expression-test.false) c.loop-expression.invariant.2
