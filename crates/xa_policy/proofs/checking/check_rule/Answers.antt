use Rattle.xa_policy.specs.Checking.{checked_condition}
use Rattle.xa_policy.proofs.checking.check_rule.Goals as goal
use Rattle.xa_policy.proofs.GivesLemmas.{first_fault}

pub returns-in_err-condition-clause-value : goal.returns-in_err-condition-clause-value
returns-in_err-condition-clause-value c =
    first_fault c.in_err-condition.field-0.0 c.from_residual.result (checked_condition c.args.variables.now c.args.rule.condition) _ c.from_residual.ensures.1 c.in_err-condition.ensures.value
