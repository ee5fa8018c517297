-- What is typed one after another and put behind what is there is what the definitions collect.
use Rattle.std.proofs.Common.{◌≡◌, Bool, true, false, cond, List, [], ◌∷◌, ◌++◌, map, refl, sym, ap, append_assoc, append-nil}
use Rattle.std.specs.Prelude.{Result, Ok, Err}
use Rattle.xa_value.specs.Gives.{◌>>=◌}
use Rattle.xa_bag.specs.HigherOrder.{collected, with_first}
use Rattle.xa_expr.specs.declared.check_error.CheckError.{CheckError}
use Rattle.xa_expr.specs.declared.target.Target.{Target}
use Rattle.xa_expr.specs.declared.typed.Typed.{Typed}
use Rattle.xa_expr.specs.declared.variables.Definition.{Definition}
use Rattle.xa_expr.specs.Typing.{checked}
use Rattle.xa_expr.specs.Defining.{defined, may_be_defined, with_last}
use Rattle.xa_expr.specs.Variables.{is_defined}
use Rattle.xa_policy.specs.declared.duty.DutyExpressions.{DutyExpressions}
use Rattle.xa_policy.specs.declared.rule.Rule.{Rule}
use Rattle.xa_policy.specs.Adding.{duties_of_set_replaced, duties_replaced, no_expressions, set_with_duties, with_rules}
use Rattle.xa_policy.specs.Checking.{checked_duties}
use Rattle.xa_policy.specs.Policy.{PolicyParts, SetParts, policy_key, set_key}
use Rattle.xa_notation.specs.declared.document.Document.{Document}
use Rattle.xa_notation.specs.declared.document.Document.TheVariants as document
use Rattle.xa_notation.specs.declared.written.WrittenPolicy.{WrittenPolicy}
use Rattle.xa_notation.specs.declared.written.WrittenRule.{WrittenRule}
use Rattle.xa_notation.specs.declared.written.WrittenSet.{WrittenSet}
use Rattle.xa_notation.specs.declared.written.WrittenVariable.{WrittenVariable}
use Rattle.xa_notation.specs.parsing.Adding.{with_typed_rule, with_typed_rules}
use Rattle.xa_notation.specs.Typing.{typed_policy, typed_rule, typed_set, typed_target, typed_variables}

-- a variable is put behind the others, or isn't, and then those that are left
pub variable_first : (before : List Definition) (v : WrittenVariable) (vs : List WrittenVariable)
    → typed_variables before (v ∷ vs) ≡ (may_be_defined before v.name v.expression >>= (λ _. typed_variables (defined before v.name v.expression) vs))
variable_first before v vs = by_cases (is_defined before v.name) (checked before v.expression) where
  by_cases : (here : Bool) (t : Result Typed CheckError)
      → cond here (typed_variables before vs) (t >>= (λ expression. typed_variables (before ++ record { name = v.name; expression = expression } ∷ []) vs))
      ≡ (cond here (Ok false) (t >>= (λ _. Ok true)) >>= (λ _. typed_variables (cond here before (with_last before v.name t)) vs))
  by_cases true t = refl
  by_cases false (Ok t) = refl
  by_cases false (Err e) = refl

-- without rules it stays
pub rules_end : (p : PolicyParts) → with_typed_rules p [] ≡ Ok p
rules_end p = ap (λ rules. Ok (record { key = p.key; algorithm = p.algorithm; target = p.target; variables = p.variables; rules = rules; duties = p.duties })) (append-nil p.rules)

with_first_rule : (p : PolicyParts) (r : Rule Typed) (rest : Result (List (Rule Typed)) CheckError)
    → (with_first r rest >>= (λ rs. Ok (with_rules p rs))) ≡ (rest >>= (λ rs. Ok (with_rules (with_rules p (r ∷ [])) rs)))
with_first_rule p r (Ok rs) = ap (λ rules. Ok (record { key = p.key; algorithm = p.algorithm; target = p.target; variables = p.variables; rules = rules; duties = p.duties })) (sym (append_assoc p.rules (r ∷ []) rs))
with_first_rule p r (Err e) = refl

-- a rule is put behind the others, and then those that are left
pub rule_first : (p : PolicyParts) (w : WrittenRule) (ws : List WrittenRule)
    → with_typed_rules p (w ∷ ws) ≡ (with_typed_rule p w >>= (λ q. with_typed_rules q ws))
rule_first p w ws = by_first (typed_rule p.variables w) where
  by_first : (first : Result (Rule Typed) CheckError)
      → (collected (first ∷ map (typed_rule p.variables) ws) >>= (λ rs. Ok (with_rules p rs)))
      ≡ (first >>= (λ r. Ok (with_rules p (r ∷ []))) >>= (λ q. with_typed_rules q ws))
  by_first (Ok r) = with_first_rule p r (collected (map (typed_rule p.variables) ws))
  by_first (Err e) = refl

-- a policy of these parts, and a policy set
abbrev policy_of : WrittenPolicy → Target → List Definition → List (Rule Typed) → DutyExpressions Typed → PolicyParts
policy_of p target variables rules duties = record { key = policy_key p.key.id p.key.version; algorithm = p.algorithm; target = target; variables = variables; rules = rules; duties = duties }

abbrev set_of : WrittenSet → Target → DutyExpressions Typed → SetParts
set_of s target duties = record { key = set_key s.key.id s.key.version; algorithm = s.algorithm; target = target; duties = duties }

-- a policy: its target and its variables, without rules; then its rules, and then its obligations and its advice
pub policy_built : (p : WrittenPolicy)
    → typed_policy p
    ≡ (typed_target p.target >>= (λ target. typed_variables [] p.variables >>= (λ variables.
    with_typed_rules (policy_of p target variables [] no_expressions) p.rules >>= (λ policy. duties_replaced policy p.duties))))
unfolding typed_policy
policy_built p = by_parts (typed_target p.target) (typed_variables [] p.variables) where
  by_rules : (target : Target) (variables : List Definition) (rules : Result (List (Rule Typed)) CheckError)
      → (rules >>= (λ rs. checked_duties variables p.duties >>= (λ ds. Ok (policy_of p target variables rs ds))))
      ≡ (rules >>= (λ rs. Ok (with_rules (policy_of p target variables [] no_expressions) rs)) >>= (λ policy. duties_replaced policy p.duties))
  by_rules target variables (Ok rs) = refl
  by_rules target variables (Err e) = refl

  by_parts : (target : Result Target CheckError) (variables : Result (List Definition) CheckError)
      → (target >>= (λ t. variables >>= (λ vs. collected (map (typed_rule vs) p.rules) >>= (λ rs. checked_duties vs p.duties >>= (λ ds.
      Ok (policy_of p t vs rs ds))))))
      ≡ (target >>= (λ t. variables >>= (λ vs. with_typed_rules (policy_of p t vs [] no_expressions) p.rules >>= (λ policy. duties_replaced policy p.duties))))
  by_parts (Ok t) (Ok vs) = by_rules t vs (collected (map (typed_rule vs) p.rules))
  by_parts (Ok t) (Err e) = refl
  by_parts (Err e) variables = refl

-- a policy set: its target and its children, and then its obligations and its advice
pub set_built : (s : WrittenSet) (children : List (Result Document CheckError))
    → typed_set s children
    ≡ (typed_target s.target >>= (λ target. collected children >>= (λ typed.
    duties_of_set_replaced (set_of s target no_expressions) s.duties >>= (λ set. Ok (document.PolicySet set typed)))))
unfolding typed_set
set_built s children = by_parts (typed_target s.target) (collected children) (checked_duties [] s.duties) where
  by_parts : (target : Result Target CheckError) (typed : Result (List Document) CheckError) (duties : Result (DutyExpressions Typed) CheckError)
      → (target >>= (λ t. typed >>= (λ ds. duties >>= (λ own. Ok (document.PolicySet (set_of s t own) ds)))))
      ≡ (target >>= (λ t. typed >>= (λ ds.
      duties >>= (λ own. Ok (set_with_duties (set_of s t no_expressions) own)) >>= (λ set. Ok (document.PolicySet set ds)))))
  by_parts (Ok t) (Ok ds) (Ok own) = refl
  by_parts (Ok t) (Ok ds) (Err e) = refl
  by_parts (Ok t) (Err e) duties = refl
  by_parts (Err e) typed duties = refl
