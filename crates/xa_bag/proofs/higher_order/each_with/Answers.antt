use Rattle.std.proofs.Common.{◌∙◌, ap, refl, [], ◌∷◌, map, true, false}
use Rattle.std.specs.Prelude.{Ok}
use Rattle.xa_bag.specs.HigherOrder.{holds}
use Rattle.xa_bag.specs.Quantifier.{settling}
use Rattle.xa_bag.proofs.JoiningLemmas.{verdict}
use Rattle.xa_bag.proofs.SetLemmas.{walked}
use Rattle.xa_bag.proofs.BagLemmas.{of_type_at, can_take}
use Rattle.xa_func.specs.declared.signature.Kind.TheVariants as kind
use Rattle.xa_bag.proofs.JoiningLemmas.{taken_one, fault_decides, stop_decides, rest_decides}
use Rattle.xa_bag.proofs.higher_order.each_with.Goals as goal

pub one_with-requires : goal.one_with-requires
one_with-requires g c =
    let typed = of_type_at _ _ _ _ c.values-value-items.ensures.of_type c.value-item.is c.loop-value-test.true in
    can_take (g.F.Inner.can c.args.function.now) [] (kind.Value c.args.second.now.data_type ∷ []) _ _ typed c.requires

pub returns-in_err-answer : goal.returns-in_err-answer
returns-in_err-answer g c =
    let so_far = taken_one false (λ v. verdict (settling c.args.quantifier) (map (λ w. holds (g.F.Inner.gives c.args.function.now) (v ∷ w ∷ [])) c.args.second.now.values)) _ _ _ _
    (walked _ _ _ c.value-item.is c.loop-value-test.true) c.loop-value.invariant in
    fault_decides false _ _ _ _ c.in_err-answer.field-0.0 so_far c.from_residual.ensures.1 c.in_err-answer.ensures

pub returns-then-not-answer : goal.returns-then-not-answer
returns-then-not-answer g c =
    let so_far = taken_one false (λ v. verdict (settling c.args.quantifier) (map (λ w. holds (g.F.Inner.gives c.args.function.now) (v ∷ w ∷ [])) c.args.second.now.values)) _ _ _ _
    (walked _ _ _ c.value-item.is c.loop-value-test.true) c.loop-value.invariant in
    stop_decides false false _ _ _ so_far (c.in_ok-answer.ensures ∙ ap (λ b. Ok b) c.if-not-answer.true) refl

pub loop-value-preserved : goal.loop-value-preserved
loop-value-preserved g c =
    let so_far = taken_one false (λ v. verdict (settling c.args.quantifier) (map (λ w. holds (g.F.Inner.gives c.args.function.now) (v ∷ w ∷ [])) c.args.second.now.values)) _ _ _ _
    (walked _ _ _ c.value-item.is c.loop-value-test.true) c.loop-value.invariant in
    rest_decides false true _ _ _ so_far (c.in_ok-answer.ensures ∙ ap (λ b. Ok b) c.if-not-answer.false) refl
