use Rattle.std.proofs.Common.{rules, arith, ap, sym, ◌∙◌, subst, ◌≤◌, map}
use Rattle.std.specs.Prelude.{Ok}
use Rattle.std.proofs.lemmas.List.{drop_all}
use Rattle.xa_bag.proofs.BagLemmas.{first_rest}
use Rattle.xa_bag.proofs.SetLemmas.{walked}
use Rattle.xa_expr.specs.declared.typed.Typed.TheViews.{the_lemmas}
use Rattle.xa_expr.specs.Arguments.{value_result}
use Rattle.xa_expr.specs.Typed.{kind_of_typed}
use Rattle.xa_expr.proofs.typed.Typed.TheLaws.{the_size}
use Rattle.xa_expr.proofs.PlaceLemmas.{next_place, place_stops, place_decides, place_passes, no_place_left, n_whole, n_fault, n_too_few, n_none, n_ends, n_last, n_passes, n_less, left_behind}
use Rattle.xa_func.specs.Signature.{TakesKinds, of_each, kind_of}
use Rattle.xa_bag.specs.Quantifier.{settling}
use Rattle.xa_bag.specs.ValueOrBag.{kind_of_argument, kind_of_each}
use Rattle.xa_expr.specs.declared.typed.Typed.TheVariants as typed
use Rattle.xa_expr.specs.Evaluation.{outcome}
use Rattle.xa_expr.proofs.ArgumentLemmas.{kinds_of_each, scalar_values, fault_passed, applied_collected, applied_to, next_there, next_fault, no_more, kinds_next, value_kind, value_kind_at}
use Rattle.xa_expr.proofs.TypedLemmas.{typed_at, rest_typed, most_rest, apply_typed, higher_typed, outcome_apply, outcome_higher}
use Rattle.xa_expr.proofs.evaluation.+evaluation.Goals as goal

pub evaluate-apply-requires : goal.evaluate-apply-requires
evaluate-apply-requires g t c κs within =
    let fit = apply_typed _ _ _ _ _ (c.in-Apply.is ∙ ap (typed.Apply c.in-Apply.function) (sym c.as_slice.ensures)) c.requires.typed in
    search (rules, the_lemmas, fit)

pub evaluate-apply_higher_order-requires : goal.evaluate-apply_higher_order-requires
evaluate-apply_higher_order-requires g t c κs within =
    let fit = higher_typed _ _ _ _ _ _ (c.in-HigherOrder.is ∙ ap (typed.HigherOrder c.in-HigherOrder.function c.in-HigherOrder.inner) (sym c.as_slice-in-HigherOrder.ensures)) c.requires.typed in
    search (rules, the_lemmas, fit)

pub evaluate-returns-in-Apply-clause-value : goal.evaluate-returns-in-Apply-clause-value
evaluate-returns-in-Apply-clause-value g t c = rw (c.in-Apply.is, outcome_apply) (rw c.as_slice.ensures at c.apply.ensures.value)

pub evaluate-returns-in-HigherOrder-clause-value : goal.evaluate-returns-in-HigherOrder-clause-value
evaluate-returns-in-HigherOrder-clause-value g t c = rw (c.in-HigherOrder.is, outcome_higher) (rw c.as_slice-in-HigherOrder.ensures at c.apply_higher_order.ensures.value)

pub apply_higher_order-call_higher_order-requires : goal.apply_higher_order-call_higher_order-requires
apply_higher_order-call_higher_order-requires g t c =
    subst (TakesKinds c.args.inner) (sym (ap (map kind_of_each) c.as_slice.ensures ∙ kinds_of_each c.in_ok-given.given ∙ ap (map of_each) c.in_ok-given.ensures.typed)) c.requires.takes

pub apply_to_values-all_values-requires : goal.apply_to_values-all_values-requires
apply_to_values-all_values-requires g t c κs within =
    let values = scalar_values _ _ c.requires.takes in
    search (rules, the_lemmas, values)

pub apply_to_values-returns-in_err-values-clause-value : goal.apply_to_values-returns-in_err-values-clause-value
apply_to_values-returns-in_err-values-clause-value g t c =
    fault_passed c.in_err-values.field-0.0 _ _ _ (λ f at. applied_collected c.args.function (map (outcome (g.C.Context.values_of c.args.scope.now.context.now) c.args.scope.now.results.now) c.args.arguments.now) ∙ ap (applied_to c.args.function) at) c.from_residual.ensures.1 c.in_err-values.ensures.value

pub apply_to_values-returns-clause-value : goal.apply_to_values-returns-clause-value
apply_to_values-returns-clause-value g t c =
    let all = applied_collected c.args.function (map (outcome (g.C.Context.values_of c.args.scope.now.context.now) c.args.scope.now.results.now) c.args.arguments.now) ∙ ap (applied_to c.args.function) (c.in_ok-values.ensures.value ∙ ap Ok (sym c.as_slice.ensures)) in
    rw all c.call_function.ensures.value

pub are_true-evaluate-requires : goal.are_true-evaluate-requires
are_true-evaluate-requires g t c κs within =
    let fit = typed_at _ _ _ _ c.requires.typed c.argument-item.is c.loop-argument-test.true in
    search (rules, the_lemmas, fit)

pub are_true-returns-in_err-given : goal.are_true-returns-in_err-given
are_true-returns-in_err-given g t c =
    let so_far = next_place (settling c.args.quantifier) (outcome (g.C.Context.values_of c.args.scope.now.context.now) c.args.scope.now.results.now) _ _ _ _ (walked _ _ _ c.argument-item.is c.loop-argument-test.true) c.loop-argument.invariant in
    place_stops (settling c.args.quantifier) _ _ _ _ c.in_err-given.field-0.0 so_far c.from_residual.ensures.1 c.in_err-given.ensures.value

pub are_true-returns-then-truth-sought : goal.are_true-returns-then-truth-sought
are_true-returns-then-truth-sought g t c =
    let so_far = next_place (settling c.args.quantifier) (outcome (g.C.Context.values_of c.args.scope.now.context.now) c.args.scope.now.results.now) _ _ _ _ (walked _ _ _ c.argument-item.is c.loop-argument-test.true) c.loop-argument.invariant in
    place_decides (settling c.args.quantifier) c.settling-sought.result _ c.in_ok-given.given _ _ _ c.settling-sought.ensures so_far c.in_ok-given.ensures.value c.truth.ensures c.if-truth-sought.true

pub are_true-loop-argument-preserved : goal.are_true-loop-argument-preserved
are_true-loop-argument-preserved g t c =
    let so_far = next_place (settling c.args.quantifier) (outcome (g.C.Context.values_of c.args.scope.now.context.now) c.args.scope.now.results.now) _ _ _ _ (walked _ _ _ c.argument-item.is c.loop-argument-test.true) c.loop-argument.invariant in
    place_passes (settling c.args.quantifier) c.settling-sought.result _ c.in_ok-given.given _ _ _ c.settling-sought.ensures so_far c.in_ok-given.ensures.value c.truth.ensures c.if-truth-sought.false

pub are_true-returns : goal.are_true-returns
are_true-returns g t c =
    no_place_left (settling c.args.quantifier) c.settling-sought.result (outcome (g.C.Context.values_of c.args.scope.now.context.now) c.args.scope.now.results.now) _ _
    c.settling-sought.ensures (drop_all _ _ c.loop-argument-test.false) c.loop-argument.invariant

pub all_values-evaluate-requires : goal.all_values-evaluate-requires
all_values-evaluate-requires g t c κs within =
    let fit = typed_at _ _ _ _ c.requires.typed c.argument-item.is c.loop-argument-test.true in
    search (rules, the_lemmas, fit)

pub all_values-returns-in_err-given-clause-value : goal.all_values-returns-in_err-given-clause-value
all_values-returns-in_err-given-clause-value g t c =
    fault_passed c.in_err-given.field-0.0 _ ((outcome (g.C.Context.values_of c.args.scope.now.context.now) c.args.scope.now.results.now) c.argument-item.result) _
    (λ f at. next_fault value_result c.loop-argument.values _ _ _ _ (ap (map (outcome (g.C.Context.values_of c.args.scope.now.context.now) c.args.scope.now.results.now)) (walked _ _ _ c.argument-item.is c.loop-argument-test.true)) c.loop-argument.invariant.0 f (ap value_result at))
    c.from_residual-in_err-given.ensures.1 c.in_err-given.ensures.value

pub all_values-loop-argument-preserved : goal.all_values-loop-argument-preserved
all_values-loop-argument-preserved g t c =
    let is_value = value_kind_at kind_of_typed _ _ _ c.requires.values c.argument-item.is c.loop-argument-test.true in
    rw (c.in_ok-push.ensures.ok, c.value_in.ensures) (
      next_there value_result c.loop-argument.values _ _ _ _ _ (ap (map (outcome (g.C.Context.values_of c.args.scope.now.context.now) c.args.scope.now.results.now)) (walked _ _ _ c.argument-item.is c.loop-argument-test.true)) c.loop-argument.invariant.0 (ap value_result c.in_ok-given.ensures.value),
      kinds_next kind_of kind_of_typed c.loop-argument.values _ _ _ _ _ (walked _ _ _ c.argument-item.is c.loop-argument-test.true) c.loop-argument.invariant.1 (value_kind _ _ is_value c.in_ok-given.ensures.typed),
    )

pub all_values-returns-clause-value : goal.all_values-returns-clause-value
all_values-returns-clause-value g t c = no_more value_result c.loop-argument.values _ _ (ap (map (outcome (g.C.Context.values_of c.args.scope.now.context.now) c.args.scope.now.results.now)) (drop_all _ _ c.loop-argument-test.false)) c.loop-argument.invariant.0

pub all_given-evaluate-requires : goal.all_given-evaluate-requires
all_given-evaluate-requires g t c κs within =
    let fit = typed_at _ _ _ _ c.requires.typed c.argument-item.is c.loop-argument-test.true in
    search (rules, the_lemmas, fit)

pub all_given-returns-in_err-given-clause-value : goal.all_given-returns-in_err-given-clause-value
all_given-returns-in_err-given-clause-value g t c =
    fault_passed c.in_err-given.field-0.0 _ ((outcome (g.C.Context.values_of c.args.scope.now.context.now) c.args.scope.now.results.now) c.argument-item.result) _
    (λ f at. next_fault (outcome (g.C.Context.values_of c.args.scope.now.context.now) c.args.scope.now.results.now) c.loop-argument.all _ _ _ _ (walked _ _ _ c.argument-item.is c.loop-argument-test.true) c.loop-argument.invariant.0 f at)
    c.from_residual-in_err-given.ensures.1 c.in_err-given.ensures.value

pub all_given-loop-argument-preserved : goal.all_given-loop-argument-preserved
all_given-loop-argument-preserved g t c =
    rw c.in_ok-push.ensures.ok (
      next_there (outcome (g.C.Context.values_of c.args.scope.now.context.now) c.args.scope.now.results.now) c.loop-argument.all _ _ _ _ _ (walked _ _ _ c.argument-item.is c.loop-argument-test.true) c.loop-argument.invariant.0 c.in_ok-given.ensures.value,
      kinds_next kind_of_argument kind_of_typed c.loop-argument.all _ _ _ _ _ (walked _ _ _ c.argument-item.is c.loop-argument-test.true) c.loop-argument.invariant.1 c.in_ok-given.ensures.typed,
    )

pub all_given-returns-clause-value : goal.all_given-returns-clause-value
all_given-returns-clause-value g t c = no_more (outcome (g.C.Context.values_of c.args.scope.now.context.now) c.args.scope.now.results.now) c.loop-argument.all _ _ (drop_all _ _ c.loop-argument-test.false) c.loop-argument.invariant.0

pub n_of-n_among-requires : goal.n_of-n_among-requires
n_of-n_among-requires g t c κs within =
    let first = first_rest _ _ c.first-item.is c.in-len1-up.len_at_least in
    let fit = rest_typed _ _ _ _ first c.requires.typed in
    let small = most_rest the_size _ _ _ first in
    search (rules, the_lemmas, fit, small)

pub n_among-evaluate-requires : goal.n_among-evaluate-requires
n_among-evaluate-requires g t c κs within =
    let fit = typed_at _ _ _ _ c.requires.typed c.boolean-item.is c.loop-boolean-test.true in
    search (rules, the_lemmas, fit)

pub n_among-returns-in_err-given : goal.n_among-returns-in_err-given
n_among-returns-in_err-given g t c =
    let i = c.loop-boolean.invariant in
    let so_far = i.0 ∙ sym (n_whole (outcome (g.C.Context.values_of c.args.scope.now.context.now) c.args.scope.now.results.now) _ _ i.4) in
    fault_passed c.in_err-given.field-0.0 _ ((outcome (g.C.Context.values_of c.args.scope.now.context.now) c.args.scope.now.results.now) c.boolean-item.result) _
    (λ f at. n_fault (outcome (g.C.Context.values_of c.args.scope.now.context.now) c.args.scope.now.results.now) _ _ _ _ _ (walked _ _ _ c.boolean-item.is c.loop-boolean-test.true) so_far i.1 f at)
    c.from_residual.ensures.1 c.in_err-given.ensures.value

pub n_among-returns-then-wanted-booleans : goal.n_among-returns-then-wanted-booleans
n_among-returns-then-wanted-booleans g t c = n_too_few (outcome (g.C.Context.values_of c.args.scope.now.context.now) c.args.scope.now.results.now) _ _ c.if-wanted-booleans.true

pub n_among-returns-then-wanted-eq0 : goal.n_among-returns-then-wanted-eq0
n_among-returns-then-wanted-eq0 g t c = rw c.if-wanted-eq0.true (n_none _ _)

pub n_among-loop-boolean-preserved-then-not-truth : goal.n_among-loop-boolean-preserved-then-not-truth
n_among-loop-boolean-preserved-then-not-truth g t c =
    let i = c.loop-boolean.invariant in
    let behind = left_behind c.args.booleans.now c.loop-boolean.boolean-index c.loop-boolean.left i.2 (omega (arith, i.1, i.3)) in
    let enough = c.if-left-missing.false in (
      n_passes (outcome (g.C.Context.values_of c.args.scope.now.context.now) c.args.scope.now.results.now) _ _ _ _ c.in_ok-given.given _ (walked _ _ _ c.boolean-item.is c.loop-boolean-test.true) i.0 c.in_ok-given.ensures.value (sym c.if-not-truth.ensures) (omega (arith, behind, enough)),
      i.1,
      omega (arith, i.1, i.2, i.3),
      enough,
      i.4,
    )

pub n_among-loop-boolean-preserved : goal.n_among-loop-boolean-preserved
n_among-loop-boolean-preserved g t c =
    let i = c.loop-boolean.invariant in
    let differ = c.if-missing-eq1.false in
    let more : 2 ≤ c.loop-boolean.missing = grind (arith, i.1, differ) in (
      n_less (outcome (g.C.Context.values_of c.args.scope.now.context.now) c.args.scope.now.results.now) c.loop-boolean.missing _ _ _ c.in_ok-given.given _ (walked _ _ _ c.boolean-item.is c.loop-boolean-test.true) i.0 c.in_ok-given.ensures.value (sym c.if-not-truth.ensures) i.1,
      omega (arith, more),
      omega (arith, i.1, i.2, i.3),
      omega (arith, i.3),
      i.4,
    )

pub n_among-returns-then-left-missing : goal.n_among-returns-then-left-missing
n_among-returns-then-left-missing g t c =
    let i = c.loop-boolean.invariant in
    let so_far = i.0 ∙ sym (n_whole (outcome (g.C.Context.values_of c.args.scope.now.context.now) c.args.scope.now.results.now) _ _ i.4) in
    let behind = left_behind c.args.booleans.now c.loop-boolean.boolean-index c.loop-boolean.left i.2 (omega (arith, i.1, i.3)) in
    let short = c.if-left-missing.true in
    n_ends (outcome (g.C.Context.values_of c.args.scope.now.context.now) c.args.scope.now.results.now) c.loop-boolean.missing _ _ _ c.in_ok-given.given _ (walked _ _ _ c.boolean-item.is c.loop-boolean-test.true) so_far c.in_ok-given.ensures.value (sym c.if-not-truth.ensures) (omega (arith, behind, short))

pub n_among-returns-then-missing-eq1 : goal.n_among-returns-then-missing-eq1
n_among-returns-then-missing-eq1 g t c =
    let i = c.loop-boolean.invariant in
    let so_far = i.0 ∙ sym (n_whole (outcome (g.C.Context.values_of c.args.scope.now.context.now) c.args.scope.now.results.now) _ _ i.4) in
    n_last (outcome (g.C.Context.values_of c.args.scope.now.context.now) c.args.scope.now.results.now) c.loop-boolean.missing _ _ _ c.in_ok-given.given _ (walked _ _ _ c.boolean-item.is c.loop-boolean-test.true) so_far c.in_ok-given.ensures.value (sym c.if-not-truth.ensures) c.if-missing-eq1.true
