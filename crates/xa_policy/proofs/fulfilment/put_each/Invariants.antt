use Rattle.std.proofs.Common.{◌≡◌, map, drop, ◌++◌}
use Rattle.xa_policy.specs.Duties.{with_value}
use Rattle.xa_policy.proofs.fulfilment.put_each.Given as goal

-- the rest are still to be put
abbrev pub invariant-loop-value : goal.invariant-loop-value
invariant-loop-value l =
    l.assignments ++ map (with_value l.expression) (drop l.value-index l.values) ≡ l.fn.assignments ++ map (with_value l.expression) l.values
