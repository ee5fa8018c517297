-- How a policy and a policy set are built, step by step: rules one after the other, and obligations and advice in
-- place of none.
use Rattle.std.specs.Prelude.{List, [], ◌∷◌, ◌++◌, Result, Ok}
use Rattle.xa_value.specs.Gives.{◌>>=◌}
use Rattle.xa_expr.specs.declared.check_error.CheckError.{CheckError}
use Rattle.xa_expr.specs.declared.expr.Expr.{Expr}
use Rattle.xa_expr.specs.declared.typed.Typed.{Typed}
use Rattle.xa_policy.specs.declared.duty.DutyExpressions.{DutyExpressions}
use Rattle.xa_policy.specs.declared.rule.Rule.{Rule}
use Rattle.xa_policy.specs.Checking.{checked_duties, checked_rule}
use Rattle.xa_policy.specs.Policy.{PolicyParts, SetParts}

-- no obligations and no advice
abbrev pub no_expressions : DutyExpressions Typed
no_expressions = record { obligations = []; advice = [] }

-- the policy with these rules after those that it has
abbrev pub with_rules : PolicyParts → List (Rule Typed) → PolicyParts
with_rules p rules =
    record {
      key = p.key;
      algorithm = p.algorithm;
      target = p.target;
      variables = p.variables;
      rules = p.rules ++ rules;
      duties = p.duties;
    }

-- the policy with a rule after those that it has, if the rule passes
abbrev pub rule_added : PolicyParts → Rule Expr → Result PolicyParts CheckError
rule_added p rule = checked_rule p.variables rule >>= (λ r. Ok (with_rules p (r ∷ [])))

-- the policy with these obligations and this advice in place of its own
abbrev pub with_duties : PolicyParts → DutyExpressions Typed → PolicyParts
with_duties p duties =
    record {
      key = p.key;
      algorithm = p.algorithm;
      target = p.target;
      variables = p.variables;
      rules = p.rules;
      duties = duties;
    }

-- the policy with these obligations and this advice in place of its own, if they pass
abbrev pub duties_replaced : PolicyParts → DutyExpressions Expr → Result PolicyParts CheckError
duties_replaced p duties = checked_duties p.variables duties >>= (λ ds. Ok (with_duties p ds))

-- the policy set with these obligations and this advice in place of its own
abbrev pub set_with_duties : SetParts → DutyExpressions Typed → SetParts
set_with_duties s duties = record { key = s.key; algorithm = s.algorithm; target = s.target; duties = duties }

-- the policy set with these obligations and this advice in place of its own, if they pass; it has no variables
abbrev pub duties_of_set_replaced : SetParts → DutyExpressions Expr → Result SetParts CheckError
duties_of_set_replaced s duties = checked_duties [] duties >>= (λ ds. Ok (set_with_duties s ds))
