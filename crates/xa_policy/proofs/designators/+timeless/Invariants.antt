use Rattle.std.proofs.Common.{◌≡◌, map, flat_map, drop}
use Rattle.xa_expr.specs.Timeless.{is_timeless}
use Rattle.xa_policy.specs.Designators.{designators_of_linked}
use Rattle.xa_policy.proofs.designators.+timeless.Given as goal

-- whether all are is whether the rest are
abbrev pub invariant-trees_are_timeless-loop-tree : goal.invariant-trees_are_timeless-loop-tree
invariant-trees_are_timeless-loop-tree l =
    is_timeless (flat_map (λ ds. ds) (map designators_of_linked (drop l.tree-index l.trees)))
    ≡ is_timeless (flat_map (λ ds. ds) (map designators_of_linked l.trees))
