use Rattle.std.proofs.Common.{◌+◌, drop}
use Rattle.std.specs.Prelude.{filter}
use Rattle.xa_bag.proofs.SetLemmas.{joined}
use Rattle.xa_bag.specs.Sets.{is_among}
use Rattle.xa_bag.proofs.SetLemmas.{walked, value_taken, joined_shared}
use Rattle.xa_bag.proofs.sets.intersection.Goals as goal

pub loop-value-preserved : goal.loop-value-preserved
loop-value-preserved c =
    let m = c.loop-value.invariant in
    value_taken (λ kept vs. joined kept (filter (is_among c.args.second.now.values) vs)) _ _ c.loop-value.both _ _ c.value-item.result _ _
    (walked _ _ _ c.value-item.is c.loop-value-test.true) c.in_ok-both.ensures
    (rw c.new-others.ensures (joined_shared c.args.second.now.values c.loop-value.both.values c.value-item.result (drop (c.loop-value.value-index + 1) c.values-value-items.result.now))) m.0 m.1 m.2
