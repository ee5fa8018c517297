use Rattle.std.proofs.Common.{◌≡◌, map, drop}
use Rattle.xa_policy.specs.Evaluation.{rule_child}
use Rattle.xa_policy.specs.walking.Walk.{of_none, walked}
use Rattle.xa_policy.proofs.evaluation.walk_rules.Given as goal

-- what the rules so far come to decides with the rest as all rules do
abbrev pub invariant-loop-rule : goal.invariant-loop-rule
invariant-loop-rule g l =
    let child = rule_child (g.C.Context.values_of l.context) l.fn.evaluator.1 in
    record {
      kept : l.evaluator ≡ l.fn.evaluator;
      algorithm : l.so_far.algorithm ≡ l.fn.algorithm;
      value : walked l.so_far (map child (drop l.rule-index l.rules)) ≡ walked (of_none l.fn.algorithm) (map child l.rules);
    }
