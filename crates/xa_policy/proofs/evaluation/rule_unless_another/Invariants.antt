use Rattle.std.proofs.Common.{◌≡◌, ◌∷◌, map, drop}
use Rattle.xa_policy.specs.Evaluation.{rule_child}
use Rattle.xa_policy.proofs.OnlyOneLemmas.{evaluated}
use Rattle.xa_policy.proofs.evaluation.rule_unless_another.Given as goal

-- the others that were asked change nothing
abbrev pub invariant-loop-other : goal.invariant-loop-other
invariant-loop-other g l =
    let child = rule_child (g.C.Context.values_of l.context) l.fn.evaluator.1 in
    evaluated (child l.rule ∷ map child (drop l.other-index l.others)) ≡ evaluated (child l.rule ∷ map child l.others)
