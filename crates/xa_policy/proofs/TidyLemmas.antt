-- What rules, policies, policy sets and trees decide has obligations and advice with a Permit or a Deny alone.
use Rattle.std.proofs.Common.{◌≡◌, Bool, true, false, List, [], ◌∷◌, map, Option, Some, None, Result, Ok, Err, refl, sym, subst}
use Rattle.xa_func.specs.declared.status.Status.{Status}
use Rattle.xa_expr.specs.declared.fault.Fault.{Fault}
use Rattle.xa_expr.specs.declared.matching.Matching.{Matching}
use Rattle.xa_expr.specs.declared.matching.Matching.TheVariants.{Match, NoMatch, Indeterminate}
use Rattle.xa_expr.specs.declared.typed.Typed.{Typed}
use Rattle.xa_expr.specs.declared.variables.Definition.{Definition}
use Rattle.xa_expr.specs.Evaluation.{Attributes, Outcome, value_of}
use Rattle.xa_expr.specs.Fault as expr
use Rattle.xa_expr.specs.Target.{target_value}
use Rattle.xa_policy.specs.declared.combining.Alg.{Alg}
use Rattle.xa_policy.specs.declared.combining.Alg.TheVariants.{OnlyOneApplicable}
use Rattle.xa_policy.specs.declared.decision.Decision.{Decision}
use Rattle.xa_policy.specs.declared.decision.Decision.TheVariants.{Permit, Deny, NotApplicable, IndeterminatePermit, IndeterminateDeny, IndeterminateDenyPermit}
use Rattle.xa_policy.specs.declared.decision.Effect.{Effect}
use Rattle.xa_policy.specs.declared.duty.DutyExpressions.{DutyExpressions}
use Rattle.xa_policy.specs.declared.linked.Linked.{Linked}
use Rattle.xa_policy.specs.declared.linked.Linked.TheFolds.{fold-roll-Linked, map-Linked, ind-Linked}
use Rattle.xa_policy.specs.declared.linked.Linked.TheOpen.{Linked-F}
use Rattle.xa_policy.specs.declared.rule.Rule.{Rule}
use Rattle.xa_policy.specs.declared.verdict.Verdict.{Verdict}
use Rattle.xa_policy.specs.Duties.{DutyLists, effect_of, own_duties}
use Rattle.xa_policy.specs.Evaluation.{by_target, combination, evaluated, linked_step, policy_value, rule_child, set_value, under_indeterminate, verdict}
use Rattle.xa_policy.specs.Policy.{PolicyParts, SetParts}
use Rattle.xa_policy.specs.Rule.{condition_value, outcome, rule_value, with_found, with_own, with_own_of}
use Rattle.xa_policy.specs.Status.{EvaluatedChild}
use Rattle.xa_policy.proofs.OnlyOneLemmas.{IsTidy, evaluated_alone, evaluated_steps}

outcome_tidy : (e : Effect) (target : Matching) (condition : Result Bool Fault) → IsTidy (outcome e target condition)
outcome_tidy e Match (Ok true) = λ h. refl
outcome_tidy e Match (Ok false) = λ h. refl
outcome_tidy e Match (Err fault) = λ h. refl
outcome_tidy e NoMatch condition = λ h. refl
outcome_tidy e (Indeterminate fault) condition = λ h. refl

-- left open by an Indeterminate target
left_tidy : (s : Status) (d : Decision) → IsTidy (under_indeterminate s d)
left_tidy s Permit = λ h. refl
left_tidy s Deny = λ h. refl
left_tidy s NotApplicable = λ h. refl
left_tidy s IndeterminatePermit = λ h. refl
left_tidy s IndeterminateDeny = λ h. refl
left_tidy s IndeterminateDenyPermit = λ h. refl

target_tidy : (target : Matching) (e : Verdict) → IsTidy e → IsTidy (by_target target e)
target_tidy Match e tidy = tidy
target_tidy NoMatch e tidy = λ h. refl
target_tidy (Indeterminate fault) e tidy = left_tidy (expr.status_of fault) e.decision

pub combination_tidy : (a : Alg) (children : List EvaluatedChild) → IsTidy (combination a children)
unfolding combination
combination_tidy a children = λ h. rw h refl

-- with obligations and advice of its own
found_tidy : (f : Effect) (e : Verdict) (found : Result DutyLists Fault) → effect_of e.decision ≡ Some f → IsTidy (with_found f e found)
found_tidy f e (Ok found) g = λ h. cc
found_tidy f e (Err fault) g = λ h. refl

own_tidy_of : (value : Typed → Outcome) (own : DutyExpressions Typed) (e : Verdict) → IsTidy e → (o : Option Effect) → effect_of e.decision ≡ o →
    IsTidy (with_own_of value own e o)
own_tidy_of value own e tidy None h = tidy
own_tidy_of value own e tidy (Some f) h = found_tidy f e (own_duties value f own) h

own_tidy : (value : Typed → Outcome) (own : DutyExpressions Typed) (e : Verdict) → IsTidy e → IsTidy (with_own value own e)
own_tidy value own e tidy = own_tidy_of value own e tidy (effect_of e.decision) refl

pub rule_tidy : (values_of : Attributes) (variables : List Definition) (rule : Rule Typed) → IsTidy (rule_value values_of variables rule)
rule_tidy values_of variables rule =
    let value = value_of values_of variables in
    let target = target_value values_of rule.target in
    let condition = condition_value value rule.condition in
    own_tidy value rule.duties (outcome rule.effect target condition) (outcome_tidy rule.effect target condition)

pub policy_tidy : (values_of : Attributes) (policy : PolicyParts) → IsTidy (policy_value values_of policy)
policy_tidy values_of policy =
    let target = target_value values_of policy.target in
    let children = map (rule_child values_of policy.variables) policy.rules in
    own_tidy (value_of values_of policy.variables) policy.duties (by_target target (combination policy.algorithm children))
    (target_tidy target (combination policy.algorithm children) (combination_tidy policy.algorithm children))

pub set_tidy : (values_of : Attributes) (set : SetParts) (children : List EvaluatedChild) → IsTidy (set_value values_of set children)
set_tidy values_of set children =
    let target = target_value values_of set.target in
    own_tidy (value_of values_of []) set.duties (by_target target (combination set.algorithm children))
    (target_tidy target (combination set.algorithm children) (combination_tidy set.algorithm children))

layer_tidy : (values_of : Attributes) (x : Linked-F EvaluatedChild) → IsTidy (linked_step values_of x).value
layer_tidy values_of Linked-F.Unresolved = λ h. refl
layer_tidy values_of (Linked-F.Policy policy) = policy_tidy values_of policy
layer_tidy values_of (Linked-F.PolicySet set children) = set_tidy values_of set children

pub verdict_tidy : (values_of : Attributes) (linked : Linked) → IsTidy (verdict values_of linked)
verdict_tidy values_of = ind-Linked (λ linked. IsTidy (verdict values_of linked)) (λ x y is.
    subst (λ child. IsTidy child.value) (sym (fold-roll-Linked EvaluatedChild (linked_step values_of) x))
    (layer_tidy values_of (map-Linked Linked EvaluatedChild (evaluated values_of) x)))

-- a rule, and a tree, that alone is applicable
pub rule_alone : (values_of : Attributes) (variables : List Definition) (rule : Rule Typed) → target_value values_of rule.target ≡ Match →
    combination OnlyOneApplicable (rule_child values_of variables rule ∷ []) ≡ rule_value values_of variables rule
rule_alone values_of variables rule h = evaluated_alone (rule_child values_of variables rule) (rule_tidy values_of variables rule) h

pub linked_alone : (values_of : Attributes) (linked : Linked) → (evaluated values_of linked).target ≡ Match →
    combination OnlyOneApplicable (evaluated values_of linked ∷ []) ≡ verdict values_of linked
linked_alone values_of linked h = evaluated_alone (evaluated values_of linked) (verdict_tidy values_of linked) h

-- what only-one-applicable goes by
pub ruleset applicable_steps = (evaluated_steps, rule_alone, linked_alone)
