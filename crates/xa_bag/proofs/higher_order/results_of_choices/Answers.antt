use Rattle.std.proofs.Common.{refl, ◌∙◌, ap, sym, subst, List, [], ◌∷◌, ◌++◌, map}
use Rattle.std.specs.Prelude.{Ok}
use Rattle.xa_func.specs.declared.signature.Kind.{Kind}
use Rattle.xa_func.specs.Signature.{kind_of}
use Rattle.xa_bag.specs.HigherOrder.{outcome, collected}
use Rattle.xa_bag.specs.Choosing.{from_found}
use Rattle.xa_bag.proofs.JoiningLemmas.{added_one, all_added, as_bag_type, fault_ends, rest_to_add}
use Rattle.xa_bag.proofs.ChoosingLemmas.{all_left, chosen_kinds, fewer_left, none_chosen}
use Rattle.xa_bag.proofs.higher_order.results_of_choices.Goals as goal

pub choose_firsts-requires : goal.choose_firsts-requires
choose_firsts-requires g c = none_chosen _ _ _ c.new-chosen.ensures.items c.new-places.ensures.items

pub loop-is_left-init : goal.loop-is_left-init
loop-is_left-init g c =
    let first = c.in_ok-is_left.ensures in (
      ap (λ vs. collected (map Ok c.args.results.values ++ map (λ vs. outcome (g.F.Inner.gives c.args.function.now vs)) vs)) (sym first.0 ∙ all_left _ _ _ c.new-chosen.ensures.items),
      first.1,
      refl,
    )

pub push_result-requires-clause-can : goal.push_result-requires-clause-can
push_result-requires-clause-can g c =
    let all = c.loop-is_left.invariant.1 c.loop-is_left-test.true in
    let kinds = chosen_kinds c.loop-is_left.chosen.items c.loop-is_left.places.items c.args.arguments.now all.0 all.1 in
    let P : List Kind → Type 0 = λ ks. g.F.Inner.can c.args.function.now ks in
    subst P (sym kinds ∙ ap (map kind_of) (sym c.as_slice.ensures.value)) c.requires.can

pub push_result-requires-clause-of_type : goal.push_result-requires-clause-of_type
push_result-requires-clause-of_type g c = c.loop-is_left.invariant.2 ∙ c.requires.of_type

pub returns-in_err-results-clause-value : goal.returns-in_err-results-clause-value
returns-in_err-results-clause-value g c =
    let so_far = added_one c.loop-is_left.results.values (λ vs. outcome (g.F.Inner.gives c.args.function.now vs)) _ _ _ _
    (ap (λ b. from_found b c.loop-is_left.chosen.items c.loop-is_left.places.items c.args.arguments.now) c.loop-is_left-test.true) c.loop-is_left.invariant.0 in
    fault_ends _ (map Ok c.loop-is_left.results.values ++ outcome (g.F.Inner.gives c.args.function.now c.loop-is_left.chosen.items) ∷ []) _ _ _
    c.in_err-results.field-0.0 so_far c.from_residual-in_err-results.ensures.1 (rw (c.as_slice.ensures.value, c.loop-is_left.invariant.2) at c.in_err-results.ensures.value)

pub loop-is_left-preserved : goal.loop-is_left-preserved
loop-is_left-preserved g c =
    let so_far = added_one c.loop-is_left.results.values (λ vs. outcome (g.F.Inner.gives c.args.function.now vs)) _ _ _ _
    (ap (λ b. from_found b c.loop-is_left.chosen.items c.loop-is_left.places.items c.args.arguments.now) c.loop-is_left-test.true) c.loop-is_left.invariant.0 in
    let here = rw c.as_slice.ensures.value at c.in_ok-results.ensures.value in
    let next = c.in_ok-is_left-2.ensures in (
      rest_to_add c.loop-is_left.results.data_type _ (map Ok c.loop-is_left.results.values ++ outcome (g.F.Inner.gives c.args.function.now c.loop-is_left.chosen.items) ∷ []) (λ vs. outcome (g.F.Inner.gives c.args.function.now vs)) _ _ _ next.0 so_far here,
      next.1,
      as_bag_type _ _ _ here ∙ c.loop-is_left.invariant.2,
    )

pub loop-is_left-smaller : goal.loop-is_left-smaller
loop-is_left-smaller g c =
    let next = c.in_ok-is_left-2.ensures in
    fewer_left _ _ _ _ _ _ c.args.arguments.now c.loop-is_left-test.true next.0

pub returns-clause-value : goal.returns-clause-value
returns-clause-value g c =
    all_added _ c.loop-is_left.results (λ vs. outcome (g.F.Inner.gives c.args.function.now vs)) _ _ c.loop-is_left.invariant.2
    (ap (λ b. from_found b c.loop-is_left.chosen.items c.loop-is_left.places.items c.args.arguments.now) c.loop-is_left-test.false) c.loop-is_left.invariant.0
