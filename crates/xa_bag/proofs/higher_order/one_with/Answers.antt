use Rattle.std.proofs.Common.{[], ◌∷◌}
use Rattle.std.proofs.lemmas.List.{drop_all}
use Rattle.xa_bag.specs.HigherOrder.{holds}
use Rattle.xa_bag.specs.Quantifier.{settling}
use Rattle.xa_func.specs.Signature.{kind_of}
use Rattle.xa_bag.proofs.SetLemmas.{walked}
use Rattle.xa_bag.proofs.BagLemmas.{of_type_at, can_take}
use Rattle.xa_bag.proofs.JoiningLemmas.{taken_one, fault_decides, sought_decides, unsought_passes, none_left_of_one}
use Rattle.xa_bag.proofs.higher_order.one_with.Goals as goal

pub holds_of_both-requires : goal.holds_of_both-requires
holds_of_both-requires g c =
    let typed = of_type_at _ _ _ _ c.values-other-items.ensures.of_type c.other-item.is c.loop-other-test.true in
    can_take (g.F.Inner.can c.args.function.now) (kind_of c.args.value.now ∷ []) [] _ _ typed c.requires

pub returns-in_err-found : goal.returns-in_err-found
returns-in_err-found g c =
    let so_far = taken_one (settling c.args.quantifier) (λ w. holds (g.F.Inner.gives c.args.function.now) (c.args.value.now ∷ w ∷ [])) _ _ _ _
    (walked _ _ _ c.other-item.is c.loop-other-test.true) c.loop-other.invariant in
    fault_decides (settling c.args.quantifier) _ _ _ _ c.in_err-found.field-0.0 so_far c.from_residual.ensures.1 c.in_err-found.ensures

pub returns-then-found-sought : goal.returns-then-found-sought
returns-then-found-sought g c =
    let so_far = taken_one (settling c.args.quantifier) (λ w. holds (g.F.Inner.gives c.args.function.now) (c.args.value.now ∷ w ∷ [])) _ _ _ _
    (walked _ _ _ c.other-item.is c.loop-other-test.true) c.loop-other.invariant in
    sought_decides (settling c.args.quantifier) c.settling-sought.result c.in_ok-found.found _ _ _ c.settling-sought.ensures so_far c.in_ok-found.ensures c.if-found-sought.true

pub loop-other-preserved : goal.loop-other-preserved
loop-other-preserved g c =
    let so_far = taken_one (settling c.args.quantifier) (λ w. holds (g.F.Inner.gives c.args.function.now) (c.args.value.now ∷ w ∷ [])) _ _ _ _
    (walked _ _ _ c.other-item.is c.loop-other-test.true) c.loop-other.invariant in
    unsought_passes (settling c.args.quantifier) c.settling-sought.result c.in_ok-found.found _ _ _ c.settling-sought.ensures so_far c.in_ok-found.ensures c.if-found-sought.false

pub returns : goal.returns
returns g c =
    none_left_of_one (settling c.args.quantifier) c.settling-sought.result (λ w. holds (g.F.Inner.gives c.args.function.now) (c.args.value.now ∷ w ∷ [])) _ _
    c.settling-sought.ensures (drop_all _ _ c.loop-other-test.false) c.loop-other.invariant
