use Rattle.std.proofs.Common.{◌≡◌, ◌∷◌, map, drop}
use Rattle.xa_expr.specs.Target.{some_match, all_of_value}
use Rattle.xa_expr.proofs.target.AnyOf.matching.Given as goal

-- what the children so far come to stands for them in front of the rest
abbrev pub invariant-loop-child : goal.invariant-loop-child
invariant-loop-child g l =
    some_match (l.so_far ∷ map (all_of_value (g.C.Context.values_of l.context)) (drop l.child-index l.child-items))
    ≡ some_match (map (all_of_value (g.C.Context.values_of l.context)) l.self.all_of)
