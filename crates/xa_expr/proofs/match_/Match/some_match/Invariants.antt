use Rattle.std.proofs.Common.{◌≡◌, [], ◌∷◌, map, drop}
use Rattle.xa_bag.specs.Bag.{OfType}
use Rattle.xa_expr.specs.Target.{answer, some_match}
use Rattle.xa_expr.proofs.match_.Match.some_match.Given as goal

-- the literal alone stands there, the rest of the values are of the type, and what the values so far come to stands for them in front of the rest
abbrev pub invariant-loop-value : goal.invariant-loop-value
invariant-loop-value l =
    (l.arguments.items ≡ l.self.literal ∷ [])
    × OfType l.self.designator.data_type (drop l.value-index l.values)
    × (some_match (l.so_far ∷ map (answer l.self) (drop l.value-index l.values)) ≡ some_match (map (answer l.self) l.values))
