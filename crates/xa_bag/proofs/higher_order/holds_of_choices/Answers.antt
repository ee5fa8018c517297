use Rattle.std.proofs.Common.{◌∙◌, ap, sym, subst, List, map}
use Rattle.xa_func.specs.declared.signature.Kind.{Kind}
use Rattle.xa_func.specs.Signature.{kind_of}
use Rattle.xa_bag.specs.HigherOrder.{holds}
use Rattle.xa_bag.specs.Quantifier.{settling}
use Rattle.xa_bag.specs.Choosing.{from_found}
use Rattle.xa_bag.proofs.JoiningLemmas.{verdict, taken_one, fault_decides, sought_decides, unsought_passes, none_left_of_one}
use Rattle.xa_bag.proofs.ChoosingLemmas.{all_left, chosen_kinds, fewer_left, none_chosen}
use Rattle.xa_bag.proofs.higher_order.holds_of_choices.Goals as goal

pub choose_firsts-requires : goal.choose_firsts-requires
choose_firsts-requires g c = none_chosen _ _ _ c.new-chosen.ensures.items c.new-places.ensures.items

pub loop-is_left-init : goal.loop-is_left-init
loop-is_left-init g c =
    let first = c.in_ok-is_left.ensures in
    (ap (λ vs. verdict (settling c.args.quantifier) (map (holds (g.F.Inner.gives c.args.function.now)) vs)) (sym first.0 ∙ all_left _ _ _ c.new-chosen.ensures.items), first.1)

pub holds-requires : goal.holds-requires
holds-requires g c =
    let all = c.loop-is_left.invariant.1 c.loop-is_left-test.true in
    let kinds = chosen_kinds c.loop-is_left.chosen.items c.loop-is_left.places.items c.args.arguments.now all.0 all.1 in
    let P : List Kind → Type 0 = λ ks. g.F.Inner.can c.args.function.now ks in
    subst P (sym kinds ∙ ap (map kind_of) (sym c.as_slice.ensures.value)) c.requires

pub returns-in_err-answer : goal.returns-in_err-answer
returns-in_err-answer g c =
    let so_far = taken_one (settling c.args.quantifier) (holds (g.F.Inner.gives c.args.function.now)) _ _ _ _
    (ap (λ b. from_found b c.loop-is_left.chosen.items c.loop-is_left.places.items c.args.arguments.now) c.loop-is_left-test.true) c.loop-is_left.invariant.0 in
    fault_decides (settling c.args.quantifier) _ _ _ _ c.in_err-answer.field-0.0 so_far c.from_residual-in_err-answer.ensures.1 (rw c.as_slice.ensures.value at c.in_err-answer.ensures)

pub returns-then-answer-sought : goal.returns-then-answer-sought
returns-then-answer-sought g c =
    let so_far = taken_one (settling c.args.quantifier) (holds (g.F.Inner.gives c.args.function.now)) _ _ _ _
    (ap (λ b. from_found b c.loop-is_left.chosen.items c.loop-is_left.places.items c.args.arguments.now) c.loop-is_left-test.true) c.loop-is_left.invariant.0 in
    sought_decides (settling c.args.quantifier) c.settling-sought.result c.in_ok-answer.answer _ _ _ c.settling-sought.ensures so_far
    (rw c.as_slice.ensures.value at c.in_ok-answer.ensures) c.if-answer-sought.true

pub loop-is_left-preserved : goal.loop-is_left-preserved
loop-is_left-preserved g c =
    let so_far = taken_one (settling c.args.quantifier) (holds (g.F.Inner.gives c.args.function.now)) _ _ _ _
    (ap (λ b. from_found b c.loop-is_left.chosen.items c.loop-is_left.places.items c.args.arguments.now) c.loop-is_left-test.true) c.loop-is_left.invariant.0 in
    let passed = unsought_passes (settling c.args.quantifier) c.settling-sought.result c.in_ok-answer.answer _ _ _ c.settling-sought.ensures so_far
    (rw c.as_slice.ensures.value at c.in_ok-answer.ensures) c.if-answer-sought.false in
    let next = c.in_ok-is_left-2.ensures in
    (ap (λ vs. verdict (settling c.args.quantifier) (map (holds (g.F.Inner.gives c.args.function.now)) vs)) (sym next.0) ∙ passed, next.1)

pub loop-is_left-smaller : goal.loop-is_left-smaller
loop-is_left-smaller g c =
    let next = c.in_ok-is_left-2.ensures in
    fewer_left _ _ _ _ _ _ c.args.arguments.now c.loop-is_left-test.true next.0

pub returns : goal.returns
returns g c =
    none_left_of_one (settling c.args.quantifier) c.settling-sought.result (holds (g.F.Inner.gives c.args.function.now)) _ _ c.settling-sought.ensures
    (ap (λ b. from_found b c.loop-is_left.chosen.items c.loop-is_left.places.items c.args.arguments.now) c.loop-is_left-test.false) c.loop-is_left.invariant.0
