use Rattle.std.proofs.Common.{◌≡◌, map, drop}
use Rattle.xa_policy.specs.Evaluation.{rule_child}
use Rattle.xa_policy.proofs.OnlyOneLemmas.{evaluated}
use Rattle.xa_policy.proofs.evaluation.only_applicable_rule.Given as goal

-- the rules that were asked change nothing
abbrev pub invariant-loop-place : goal.invariant-loop-place
invariant-loop-place g l =
    let child = rule_child (g.C.Context.values_of l.context) l.fn.evaluator.1 in
    record {
      kept : l.evaluator ≡ l.fn.evaluator;
      value : evaluated (map child (drop l.place l.rules)) ≡ evaluated (map child l.rules);
    }
