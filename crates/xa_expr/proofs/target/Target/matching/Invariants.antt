use Rattle.std.proofs.Common.{◌≡◌, [], ◌∷◌, map, drop}
use Rattle.xa_expr.specs.declared.matching.Matching.TheVariants as matching
use Rattle.xa_expr.specs.Target.{all_match, any_of_value}
use Rattle.xa_expr.proofs.target.Target.matching.Given as goal

-- what the children so far come to stands for them in front of the rest; without a child that is Match
abbrev pub invariant-loop-child : goal.invariant-loop-child
invariant-loop-child g l =
    (all_match (l.so_far ∷ map (any_of_value (g.C.Context.values_of l.context)) (drop l.child-index l.child-items))
    ≡ all_match (map (any_of_value (g.C.Context.values_of l.context)) l.self.any_of))
    × (l.self.any_of ≡ [] → l.so_far ≡ matching.Match)
