use Rattle.std.proofs.Common.{◌++◌}
use Rattle.xa_bag.proofs.SetLemmas.{walked, argument_taken, argument_of_type, put_lists}
use Rattle.xa_bag.proofs.sets.bag_of.Goals as goal

pub push_all-requires : goal.push_all-requires
push_all-requires c =
    let m = c.loop-argument.invariant in
    argument_of_type _ c.loop-argument.all c.argument-item.result _ _ (walked _ _ _ c.argument-item.is c.loop-argument-test.true) m.0 m.1

pub loop-argument-preserved : goal.loop-argument-preserved
loop-argument-preserved c =
    let m = c.loop-argument.invariant in
    argument_taken (λ vs ws. vs ++ ws) put_lists _ _ c.loop-argument.all _ c.argument-item.result _ _ (walked _ _ _ c.argument-item.is c.loop-argument-test.true)
    c.in_ok-push_all.ensures m.0 m.1 m.2
