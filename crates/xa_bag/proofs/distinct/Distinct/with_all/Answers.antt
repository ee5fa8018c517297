use Rattle.xa_bag.proofs.SetLemmas.{joined}
use Rattle.xa_bag.proofs.SetLemmas.{walked, value_taken, joined_more}
use Rattle.xa_bag.proofs.distinct.Distinct.with_all.Goals as goal

pub loop-value-preserved : goal.loop-value-preserved
loop-value-preserved c =
    let m = c.loop-value.invariant in
    value_taken joined _ _ c.loop-value.all _ _ c.value-item.result _ _ (walked _ _ _ c.value-item.is c.loop-value-test.true)
    c.in_ok-all.ensures (joined_more _ _ _) m.0 m.1 m.2
