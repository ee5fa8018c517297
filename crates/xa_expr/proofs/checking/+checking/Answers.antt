use Rattle.std.proofs.Common.{sym, subst, ◌∙◌, map, drop, ◌∷◌}
use Rattle.std.proofs.lemmas.List.{drop_all}
use Rattle.xa_value.specs.declared.or_memory.OrMemory.TheVariants.{Error}
use Rattle.xa_value.specs.Gives.{Gives}
use Rattle.xa_expr.specs.Typing.{judged, arguments, at_depth, inner_named, higher_order, higher_applied}
use Rattle.xa_expr.specs.Variables.{kinds}
use Rattle.xa_bag.proofs.BagLemmas.{first_rest}
use Rattle.xa_bag.proofs.JoiningLemmas.{passed_on, fault_first}
use Rattle.xa_bag.proofs.SetLemmas.{walked}
use Rattle.xa_expr.proofs.CheckLemmas.{value_next, typed_next, fault_next, value_done, apply_typed, higher_typed, then_next, then_fault}
use Rattle.xa_expr.proofs.checking.+checking.Goals as goal

pub check_each-returns-in_err-check_at-clause-value :
    goal.check_each-returns-in_err-check_at-clause-value
check_each-returns-in_err-check_at-clause-value t c =
    let whole = arguments c.args.depth (map (judged c.args.variables.now) c.args.arguments.now) in
    let at = walked c.args.arguments.now c.loop-argument.argument-index c.argument-item.result c.argument-item.is c.loop-argument-test.true in
    passed_on c.in_err-check_at.field-0.0 c.from_residual.result whole c.from_residual.ensures.1
    (fault_first c.in_err-check_at.field-0.0 ((judged c.args.variables.now c.argument-item.result).argument c.args.depth) whole
    (λ fault here. fault_next c.args.variables.now c.args.depth c.loop-argument.done c.args.arguments.now c.loop-argument.argument-index c.argument-item.result fault whole at here c.loop-argument.invariant.0)
    c.in_err-check_at.ensures.value)

pub check_each-loop-argument-preserved : goal.check_each-loop-argument-preserved
check_each-loop-argument-preserved t c =
    let whole = arguments c.args.depth (map (judged c.args.variables.now) c.args.arguments.now) in
    let at = walked c.args.arguments.now c.loop-argument.argument-index c.argument-item.result c.argument-item.is c.loop-argument-test.true in
    rw c.in_ok-push.ensures.ok (
      value_next c.args.variables.now c.args.depth c.loop-argument.done c.args.arguments.now c.loop-argument.argument-index c.argument-item.result c.in_ok-check_at.field-0 whole at c.in_ok-check_at.ensures.value c.loop-argument.invariant.0,
      typed_next (kinds c.args.variables.now) c.loop-argument.done c.in_ok-check_at.field-0 c.loop-argument.invariant.1 c.in_ok-check_at.ensures.typed,
    )

pub check_each-returns-clause-value : goal.check_each-returns-clause-value
check_each-returns-clause-value t c =
    let whole = arguments c.args.depth (map (judged c.args.variables.now) c.args.arguments.now) in
    value_done c.args.variables.now c.args.depth c.loop-argument.done (drop c.loop-argument.argument-index c.args.arguments.now) whole
    (drop_all _ _ c.loop-argument-test.false) c.loop-argument.invariant.0

pub check_first_order-returns-clause-typed : goal.check_first_order-returns-clause-typed
check_first_order-returns-clause-typed t c =
    apply_typed (kinds c.args.variables.now) c.args.function c.in_ok-arguments.arguments c.in_ok-apply_function.field-0 c.in_ok-arguments.ensures.typed (sym c.in_ok-apply_function.ensures)

pub check_function_and_others-returns-in_err-inner-clause-value :
    goal.check_function_and_others-returns-in_err-inner-clause-value
check_function_and_others-returns-in_err-inner-clause-value t c =
    let js = map (judged c.args.variables.now) c.args.others.now in
    let first = at_depth c.args.depth (inner_named (judged c.args.variables.now c.args.first.now).function) in
    let whole = higher_order c.args.function c.args.depth (judged c.args.variables.now c.args.first.now ∷ js) in
    passed_on (Error c.in_err-inner.field-0.0) c.from_residual.result whole c.from_residual.ensures.1
    (then_fault first c.in_err-inner.field-0.0 _ (sym (c.in_err-inner.ensures.value c.args.variables.now)))

pub check_function_and_others-returns-in_err-others-clause-value :
    goal.check_function_and_others-returns-in_err-others-clause-value
check_function_and_others-returns-in_err-others-clause-value t c =
    let js = map (judged c.args.variables.now) c.args.others.now in
    let first = at_depth c.args.depth (inner_named (judged c.args.variables.now c.args.first.now).function) in
    let whole = higher_order c.args.function c.args.depth (judged c.args.variables.now c.args.first.now ∷ js) in
    passed_on c.in_err-others.field-0.0 c.from_residual-in_err-others.result whole c.from_residual-in_err-others.ensures.1
    (fault_first c.in_err-others.field-0.0 (arguments c.args.depth js) whole
    (λ fault here. then_next first c.in_ok-inner.inner _ (sym (c.in_ok-inner.ensures.value c.args.variables.now))
    ∙ then_fault (arguments c.args.depth js) fault (higher_applied c.args.function c.in_ok-inner.inner) here)
    c.in_err-others.ensures.value)

pub check_function_and_others-returns-in_err-apply_to_function-clause-value :
    goal.check_function_and_others-returns-in_err-apply_to_function-clause-value
check_function_and_others-returns-in_err-apply_to_function-clause-value t c =
    let js = map (judged c.args.variables.now) c.args.others.now in
    let first = at_depth c.args.depth (inner_named (judged c.args.variables.now c.args.first.now).function) in
    let whole = higher_order c.args.function c.args.depth (judged c.args.variables.now c.args.first.now ∷ js) in
    passed_on (Error c.in_err-apply_to_function.field-0.0) c.from_residual-in_err-apply_to_function.result whole c.from_residual-in_err-apply_to_function.ensures.1
    (then_next first c.in_ok-inner.inner _ (sym (c.in_ok-inner.ensures.value c.args.variables.now))
    ∙ then_next (arguments c.args.depth js) c.in_ok-others.others (higher_applied c.args.function c.in_ok-inner.inner) c.in_ok-others.ensures.value
    ∙ sym (c.in_err-apply_to_function.ensures c.in_ok-inner.ensures.scalar))

pub check_function_and_others-returns-clause-value : goal.check_function_and_others-returns-clause-value
check_function_and_others-returns-clause-value t c =
    let js = map (judged c.args.variables.now) c.args.others.now in
    let first = at_depth c.args.depth (inner_named (judged c.args.variables.now c.args.first.now).function) in
    then_next first c.in_ok-inner.inner _ (sym (c.in_ok-inner.ensures.value c.args.variables.now))
    ∙ then_next (arguments c.args.depth js) c.in_ok-others.others (higher_applied c.args.function c.in_ok-inner.inner) c.in_ok-others.ensures.value
    ∙ sym (c.in_ok-apply_to_function.ensures c.in_ok-inner.ensures.scalar)

pub check_function_and_others-returns-clause-typed : goal.check_function_and_others-returns-clause-typed
check_function_and_others-returns-clause-typed t c =
    higher_typed (kinds c.args.variables.now) c.args.function c.in_ok-inner.inner c.in_ok-others.others c.in_ok-apply_to_function.field-0 c.in_ok-inner.ensures.scalar c.in_ok-others.ensures.typed
    (sym (c.in_ok-apply_to_function.ensures c.in_ok-inner.ensures.scalar))

pub check_higher_order-returns-clause-value : goal.check_higher_order-returns-clause-value
check_higher_order-returns-clause-value t c =
    subst (λ es. Gives c.check_function_and_others.result (higher_order c.args.function c.args.depth (map (judged c.args.variables.now) es)))
    (sym (first_rest c.args.arguments.now c.first-item.result c.first-item.is c.in-len1-up.len_at_least)) c.check_function_and_others.ensures.value
