use Rattle.std.proofs.Common.{◌≡◌, rules, sym, ◌∙◌}
use Rattle.xa_bag.proofs.SetLemmas as list
use Rattle.xa_expr.specs.declared.matching.Matching.TheVariants.{NoMatch}
use Rattle.xa_policy.specs.Evaluation.{rule_child}
use Rattle.xa_policy.proofs.EvaluationLemmas.{rule_typed}
use Rattle.xa_policy.proofs.PastLemmas.{passed, rule_past}
use Rattle.xa_policy.proofs.evaluation.walk_rules.Goals as goal

pub evaluate_rule-requires-clause-typed : goal.evaluate_rule-requires-clause-typed
evaluate_rule-requires-clause-typed g c =
    let fit = rule_typed _ _ _ _ c.requires.typed c.rule-item.is c.loop-rule-test.true in
    search (rules, fit)

pub loop-rule-preserved-then-eq : goal.loop-rule-preserved-then-eq
loop-rule-preserved-then-eq g c =
    let at = list.walked c.args.rules.now c.loop-rule.rule-index c.rule-item.result c.rule-item.is c.loop-rule-test.true in
    let none : c.in_ok-target.target ≡ NoMatch = search (rules, c.eq.ensures, c.if-eq.true) in
    let values_of = g.C.Context.values_of c.args.context.now in
    let variables = c.args.evaluator.now.1 in
    record {
      kept = c.loop-rule.invariant.kept;
      algorithm = c.loop-rule.invariant.algorithm;
      value = passed (rule_child values_of variables) c.loop-rule.so_far _ _ _ _ at (rule_past values_of variables c.rule-item.result (sym c.in_ok-target.ensures ∙ none)) c.loop-rule.invariant.value;
    }
