use Rattle.std.proofs.Common.{rules}
use Rattle.xa_policy.proofs.EvaluationLemmas.{rule_typed}
use Rattle.xa_policy.proofs.evaluation.only_applicable_rule.Goals as goal

pub rule_unless_another-requires-clause-typed : goal.rule_unless_another-requires-clause-typed
rule_unless_another-requires-clause-typed g c =
    let fit = rule_typed _ _ _ _ c.requires.typed c.index-rules-place.is c.loop-place-test.true in
    search (rules, fit)
