use Rattle.std.proofs.Common.{◌≡◌, map, drop}
use Rattle.xa_policy.specs.Combining.{decision_of}
use Rattle.xa_policy.specs.walking.Walk.{decision_of_none, walked_decision}
use Rattle.xa_policy.proofs.combining.combine_decisions.Given as goal

-- the decision so far comes with the rest to what all come to
abbrev pub invariant-loop-child : goal.invariant-loop-child
invariant-loop-child l =
    walked_decision l.algorithm l.so_far (map decision_of (drop l.child-index l.children))
    ≡ walked_decision l.algorithm (decision_of_none l.algorithm) (map decision_of l.children)
