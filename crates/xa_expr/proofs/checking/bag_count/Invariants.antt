use Rattle.std.proofs.Common.{◌≡◌, ◌≤◌, ◌+◌, map, drop}
use Rattle.xa_expr.specs.Typed.{kind_of_typed, bag_count}
use Rattle.xa_expr.proofs.checking.bag_count.Given as goal

-- the bags so far and those of the rest are all bags
abbrev pub invariant-loop-argument : goal.invariant-loop-argument
invariant-loop-argument l =
    (l.count ≤ l.argument-index)
    × (l.count + bag_count (map kind_of_typed (drop l.argument-index l.arguments)) ≡ bag_count (map kind_of_typed l.arguments))
