use Rattle.std.proofs.Common.{◌≡◌, ◌≤◌, ◌+◌, drop}
use Rattle.std.specs.Prelude.{option_map}
use Rattle.xa_bag.specs.LogicAtOnce.{most_true, EachOfItsType}
use Rattle.xa_bag.proofs.logic_at_once.most_true.Given as goal

-- with the most of the rest the count is that of all, and where the rest are of their types, all are
abbrev pub invariant-loop-argument : goal.invariant-loop-argument
invariant-loop-argument l =
    (option_map (λ n. l.most + n) (most_true (drop l.argument-index l.arguments)) ≡ most_true l.arguments)
    × (EachOfItsType (drop l.argument-index l.arguments) → EachOfItsType l.arguments)
    × (l.most ≤ l.argument-index)
