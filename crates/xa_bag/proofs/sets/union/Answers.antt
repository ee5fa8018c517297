use Rattle.std.proofs.Common.{ap, ◌∙◌, subst}
use Rattle.xa_value.specs.declared.data_type.DataType.{DataType}
use Rattle.xa_bag.specs.Bag.{OfType, bag_of}
use Rattle.xa_bag.proofs.SetLemmas.{joined}
use Rattle.xa_bag.proofs.SetLemmas.{walked, argument_taken, argument_of_type, joined_lists}
use Rattle.xa_bag.proofs.sets.union.Goals as goal

pub with_all-requires : goal.with_all-requires
with_all-requires c =
    let m = c.loop-argument.invariant in
    let here = argument_of_type _ c.loop-argument.all c.argument-item.result _ _ (walked _ _ _ c.argument-item.is c.loop-argument-test.true) m.0 m.1 in
    let P : DataType → Type 0 = λ t. OfType t c.values.result.now in subst P here c.values.ensures.of_type

pub loop-argument-preserved : goal.loop-argument-preserved
loop-argument-preserved c =
    let m = c.loop-argument.invariant in
    argument_taken joined joined_lists _ _ c.loop-argument.all _ c.argument-item.result _ _ (walked _ _ _ c.argument-item.is c.loop-argument-test.true)
    (c.in_ok-all.ensures ∙ ap (λ vs. bag_of c.loop-argument.all.data_type (joined c.loop-argument.all.values vs)) c.values.ensures.values) m.0 m.1 m.2
