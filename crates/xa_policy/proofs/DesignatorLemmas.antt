-- What rules, policies and policy sets decide rests on the designators that stand in them alone.
use Rattle.std.proofs.Common.{◌≡◌, refl, ap, ap₂, sym, ◌∙◌, subst, Bool, true, false, cond, List, [], ◌∷◌, ◌++◌, map, filter}
use Rattle.std.specs.Prelude.{Option, Some, None, Ok}
use Rattle.std.specs.List.{flat_map}
use Rattle.xa_value.specs.Gives.{◌>>=◌}
use Rattle.xa_bag.specs.HigherOrder.{collected}
use Rattle.xa_bag.specs.ValueOrBag.{values_of}
use Rattle.xa_expr.specs.declared.designator.Designator.{Designator}
use Rattle.xa_expr.specs.declared.typed.Typed.{Typed}
use Rattle.xa_expr.specs.declared.variables.Definition.{Definition}
use Rattle.xa_expr.specs.Designators.{AgreeOn, RestsOn, designators, designators_of_definitions, designators_of_target}
use Rattle.xa_expr.specs.Evaluation.{Attributes, Outcome, place, value_of}
use Rattle.xa_expr.specs.Target.{target_value}
use Rattle.xa_expr.specs.Timeless.{is_timeless}
use Rattle.xa_expr.proofs.DesignatorLemmas.{agree_both, agree_first, agree_second, same_of_each, target_rests, value_same}
use Rattle.xa_expr.proofs.TimelessLemmas.{timeless_agree}
use Rattle.xa_policy.specs.declared.decision.Effect.{Effect}
use Rattle.xa_policy.specs.declared.duty.AttributeAssignmentExpression.{AttributeAssignmentExpression}
use Rattle.xa_policy.specs.declared.duty.DutyExpression.{DutyExpression}
use Rattle.xa_policy.specs.declared.duty.DutyExpressions.{DutyExpressions}
use Rattle.xa_policy.specs.declared.linked.Linked.{Linked}
use Rattle.xa_policy.specs.declared.linked.Linked.TheFolds.{fold-roll-Linked, map-Linked, ind-Linked}
use Rattle.xa_policy.specs.declared.linked.Linked.TheOpen.{Linked-F}
use Rattle.xa_policy.specs.declared.rule.Rule.{Rule}
use Rattle.xa_policy.specs.declared.verdict.Verdict.{Verdict}
use Rattle.xa_policy.specs.Designators.{IsSteady, designators_of_assignment, designators_of_duty, designators_of_duties, designators_of_condition, designators_of_rule, designators_of_policy, designators_of_set, designators_step, designators_of_linked}
use Rattle.xa_policy.specs.Duties.{assigned, duties_with, duty, effect_of, own_duties, same_effect, with_value}
use Rattle.xa_policy.specs.Evaluation.{Element, by_target, combination, element, element_of, element_step, evaluated, evaluation, linked_step, named_by_elements, policy_value, rule_child, set_value, with_ids}
use Rattle.xa_policy.specs.Policy.{PolicyParts, SetParts}
use Rattle.xa_policy.specs.Rule.{condition_value, outcome, rule_value, with_found, with_own, with_own_of}
use Rattle.xa_policy.specs.Status.{EvaluatedChild}
use Rattle.xa_policy.proofs.IdLemmas.{element_child}

-- the two give the same of every expression on whose designators the sources agree
abbrev SameWhereAgreed : Attributes → Attributes → (Typed → Outcome) → (Typed → Outcome) → Type 0
SameWhereAgreed a b f g = (e : Typed) → AgreeOn (designators e) a b → f e ≡ g e

-- and so of every assignment, obligation and piece of advice
assigned_same : (a b : Attributes) (f g : Typed → Outcome) → SameWhereAgreed a b f g → (x : AttributeAssignmentExpression Typed)
    → AgreeOn (designators_of_assignment x) a b → assigned f x ≡ assigned g x
assigned_same a b f g same x agree = ap (λ (r : Outcome). r >>= (λ given. Ok (map (with_value x) (values_of given)))) (same x.expression agree)

duty_same : (a b : Attributes) (f g : Typed → Outcome) → SameWhereAgreed a b f g → (d : DutyExpression Typed)
    → AgreeOn (designators_of_duty d) a b → duty f d ≡ duty g d
duty_same a b f g same d agree =
    ap (λ found. (collected found >>= (λ each. Ok (flat_map (λ part. part) each))) >>= (λ given. Ok (record { id = d.id; assignments = given })))
    (same_of_each a b designators_of_assignment (assigned f) (assigned g) (assigned_same a b f g same) d.assignments agree)

-- what is chosen out of a list has designators of the list
chosen_agree : {X : Type 0} (a b : Attributes) (held : X → List Designator) (chosen : X → Bool) (xs : List X)
    → AgreeOn (flat_map held xs) a b → AgreeOn (flat_map held (filter chosen xs)) a b
chosen_agree a b held chosen [] agree = tt
chosen_agree a b held chosen (x ∷ xs) agree = by_case (chosen x) (chosen_agree a b held chosen xs (agree_second (held x) (flat_map held xs) a b agree)) where
  by_case : (c : Bool) → AgreeOn (flat_map held (filter chosen xs)) a b → AgreeOn (flat_map held (cond c (x ∷ filter chosen xs) (filter chosen xs))) a b
  by_case true rest = agree_both (held x) (flat_map held (filter chosen xs)) a b (agree_first (held x) (flat_map held xs) a b agree) rest
  by_case false rest = rest

duties_with_same : (a b : Attributes) (f g : Typed → Outcome) → SameWhereAgreed a b f g → (effect : Effect) (ds : List (DutyExpression Typed))
    → AgreeOn (flat_map designators_of_duty ds) a b → duties_with f effect ds ≡ duties_with g effect ds
duties_with_same a b f g same effect ds agree =
    ap collected (same_of_each a b designators_of_duty (duty f) (duty g) (duty_same a b f g same) (filter (λ d. same_effect effect d.effect) ds)
    (chosen_agree a b designators_of_duty (λ d. same_effect effect d.effect) ds agree))

own_duties_same : (a b : Attributes) (f g : Typed → Outcome) → SameWhereAgreed a b f g → (effect : Effect) (own : DutyExpressions Typed)
    → AgreeOn (designators_of_duties own) a b → own_duties f effect own ≡ own_duties g effect own
own_duties_same a b f g same effect own agree =
    let first = duties_with_same a b f g same effect own.obligations (agree_first (flat_map designators_of_duty own.obligations) (flat_map designators_of_duty own.advice) a b agree) in
    let second = duties_with_same a b f g same effect own.advice (agree_second (flat_map designators_of_duty own.obligations) (flat_map designators_of_duty own.advice) a b agree) in
    rw (first, second) refl

with_own_same : (a b : Attributes) (f g : Typed → Outcome) → SameWhereAgreed a b f g → (own : DutyExpressions Typed) (e : Verdict)
    → AgreeOn (designators_of_duties own) a b → with_own f own e ≡ with_own g own e
with_own_same a b f g same own e agree = by_effect (effect_of e.decision) where
  by_effect : (o : Option Effect) → with_own_of f own e o ≡ with_own_of g own e o
  by_effect None = refl
  by_effect (Some effect) = ap (with_found effect e) (own_duties_same a b f g same effect own agree)

-- of conditions and rules
condition_same : (a b : Attributes) (f g : Typed → Outcome) → SameWhereAgreed a b f g → (condition : Option Typed)
    → AgreeOn (designators_of_condition condition) a b → condition_value f condition ≡ condition_value g condition
condition_same a b f g same None agree = refl
condition_same a b f g same (Some e) agree = ap place (same e agree)

rule_same : (variables : List Definition) (a b : Attributes) → AgreeOn (designators_of_definitions variables) a b → (rule : Rule Typed)
    → AgreeOn (designators_of_rule rule) a b → rule_child a variables rule ≡ rule_child b variables rule
rule_same variables a b defined rule agree =
    let same : SameWhereAgreed a b (value_of a variables) (value_of b variables) = value_same variables a b defined in
    let rest = agree_second (designators_of_target rule.target) (designators_of_condition rule.condition ++ designators_of_duties rule.duties) a b agree in
    let target = target_rests rule.target a b (agree_first (designators_of_target rule.target) (designators_of_condition rule.condition ++ designators_of_duties rule.duties) a b agree) in
    let condition = condition_same a b (value_of a variables) (value_of b variables) same rule.condition (agree_first (designators_of_condition rule.condition) (designators_of_duties rule.duties) a b rest) in
    let duties = with_own_same a b (value_of a variables) (value_of b variables) same rule.duties
    (outcome rule.effect (target_value b rule.target) (condition_value (value_of b variables) rule.condition))
    (agree_second (designators_of_condition rule.condition) (designators_of_duties rule.duties) a b rest) in
    let value : rule_value a variables rule ≡ rule_value b variables rule =
    ap (λ m. with_own (value_of a variables) rule.duties (outcome rule.effect m (condition_value (value_of a variables) rule.condition))) target
    ∙ ap (λ c. with_own (value_of a variables) rule.duties (outcome rule.effect (target_value b rule.target) c)) condition
    ∙ duties in
    ap (λ e. record { value = e; target = target_value a rule.target }) value ∙ ap (λ m. record { value = rule_value b variables rule; target = m }) target

-- of policies, and of policy sets by what their children come to
abbrev after_variables : PolicyParts → List Designator
after_variables policy = flat_map designators_of_rule policy.rules ++ designators_of_duties policy.duties

abbrev after_target : PolicyParts → List Designator
after_target policy = designators_of_definitions policy.variables ++ after_variables policy

policy_same : (policy : PolicyParts) → RestsOn (designators_of_policy policy) (λ a. policy_value a policy)
policy_same policy a b agree =
    let target = target_rests policy.target a b (agree_first (designators_of_target policy.target) (after_target policy) a b agree) in
    let inner = agree_second (designators_of_target policy.target) (after_target policy) a b agree in
    let defined = agree_first (designators_of_definitions policy.variables) (after_variables policy) a b inner in
    let rest = agree_second (designators_of_definitions policy.variables) (after_variables policy) a b inner in
    let rules = same_of_each a b designators_of_rule (rule_child a policy.variables) (rule_child b policy.variables) (rule_same policy.variables a b defined) policy.rules
    (agree_first (flat_map designators_of_rule policy.rules) (designators_of_duties policy.duties) a b rest) in
    let duties = with_own_same a b (value_of a policy.variables) (value_of b policy.variables) (value_same policy.variables a b defined) policy.duties
    (by_target (target_value b policy.target) (combination policy.algorithm (map (rule_child b policy.variables) policy.rules)))
    (agree_second (flat_map designators_of_rule policy.rules) (designators_of_duties policy.duties) a b rest) in
    ap (λ m. with_own (value_of a policy.variables) policy.duties (by_target m (combination policy.algorithm (map (rule_child a policy.variables) policy.rules)))) target
    ∙ ap (λ cs. with_own (value_of a policy.variables) policy.duties (by_target (target_value b policy.target) (combination policy.algorithm cs))) rules
    ∙ duties

policy_child_same : (policy : PolicyParts) → RestsOn (designators_of_policy policy) (λ a. linked_step a (Linked-F.Policy policy))
policy_child_same policy a b agree =
    ap (λ e. record { value = e; target = target_value a policy.target }) (policy_same policy a b agree)
    ∙ ap (λ m. record { value = policy_value b policy; target = m })
    (target_rests policy.target a b (agree_first (designators_of_target policy.target) (after_target policy) a b agree))

set_child_same : (set : SetParts) (a b : Attributes) (before after : List EvaluatedChild) → AgreeOn (designators_of_set set) a b → before ≡ after
    → linked_step a (Linked-F.PolicySet set before) ≡ linked_step b (Linked-F.PolicySet set after)
set_child_same set a b before after agree same =
    let target = target_rests set.target a b (agree_first (designators_of_target set.target) (designators_of_duties set.duties) a b agree) in
    let duties = with_own_same a b (value_of a []) (value_of b []) (value_same [] a b tt) set.duties
    (by_target (target_value b set.target) (combination set.algorithm after))
    (agree_second (designators_of_target set.target) (designators_of_duties set.duties) a b agree) in
    let value : set_value a set before ≡ set_value b set after =
    ap (set_value a set) same
    ∙ ap (λ m. with_own (value_of a []) set.duties (by_target m (combination set.algorithm after))) target
    ∙ duties in
    ap (λ e. record { value = e; target = target_value a set.target }) value ∙ ap (λ m. record { value = set_value b set after; target = m }) target

-- of trees: what each element comes to, and what it names
abbrev Rests : Linked → Type 0
Rests t = RestsOn (designators_of_linked t) (λ a. element a t)

elements_rest : (ts : List ((t : Linked) × Rests t)) (a b : Attributes)
    → AgreeOn (flat_map (λ ds. ds) (map designators_of_linked (map (λ e. e.0) ts))) a b → map (element a) (map (λ e. e.0) ts) ≡ map (element b) (map (λ e. e.0) ts)
elements_rest [] a b agree = refl
elements_rest (t ∷ ts) a b agree =
    ap (λ r. r ∷ map (element a) (map (λ e. e.0) ts)) (t.1 a b (agree_first (designators_of_linked t.0) (flat_map (λ ds. ds) (map designators_of_linked (map (λ e. e.0) ts))) a b agree))
    ∙ ap (λ rs. element b t.0 ∷ rs) (elements_rest ts a b (agree_second (designators_of_linked t.0) (flat_map (λ ds. ds) (map designators_of_linked (map (λ e. e.0) ts))) a b agree))

set_same : (set : SetParts) (a b : Attributes) (before after : List Element) → AgreeOn (designators_of_set set) a b → before ≡ after
    → element_step a (Linked-F.PolicySet set before) ≡ element_step b (Linked-F.PolicySet set after)
set_same set a b before after agree same =
    ap (λ (c : EvaluatedChild). element_of c set.key (named_by_elements set.algorithm before))
    (set_child_same set a b (map (λ e. e.child) before) (map (λ e. e.child) after) agree (ap (map (λ (e : Element). e.child)) same))
    ∙ ap (λ (es : List Element). element_of (linked_step b (Linked-F.PolicySet set (map (λ e. e.child) after))) set.key (named_by_elements set.algorithm es)) same

layer_rests : (y : Linked-F ((t : Linked) × Rests t)) (a b : Attributes)
    → AgreeOn (designators_step (map-Linked Linked (List Designator) designators_of_linked (map-Linked ((t : Linked) × Rests t) Linked (λ e. e.0) y))) a b
    → element_step a (map-Linked Linked Element (element a) (map-Linked ((t : Linked) × Rests t) Linked (λ e. e.0) y))
    ≡ element_step b (map-Linked Linked Element (element b) (map-Linked ((t : Linked) × Rests t) Linked (λ e. e.0) y))
layer_rests Linked-F.Unresolved a b agree = refl
layer_rests (Linked-F.Policy policy) a b agree = ap (λ (c : EvaluatedChild). element_of c policy.key []) (policy_child_same policy a b agree)
layer_rests (Linked-F.PolicySet set ts) a b agree =
    set_same set a b (map (element a) (map (λ e. e.0) ts)) (map (element b) (map (λ e. e.0) ts))
    (agree_first (designators_of_set set) (flat_map (λ ds. ds) (map designators_of_linked (map (λ e. e.0) ts))) a b agree)
    (elements_rest ts a b (agree_second (designators_of_set set) (flat_map (λ ds. ds) (map designators_of_linked (map (λ e. e.0) ts))) a b agree))

element_rests : (t : Linked) → RestsOn (designators_of_linked t) (λ a. element a t)
element_rests = ind-Linked Rests (λ x y is a b agree.
    let whole = subst (λ ds. AgreeOn ds a b) (fold-roll-Linked (List Designator) designators_step x) agree in
    let here = subst (λ z. AgreeOn (designators_step (map-Linked Linked (List Designator) designators_of_linked z)) a b
    → element_step a (map-Linked Linked Element (element a) z) ≡ element_step b (map-Linked Linked Element (element b) z))
    is (layer_rests y a b) in
    fold-roll-Linked Element (element_step a) x ∙ here whole ∙ sym (fold-roll-Linked Element (element_step b) x))

pub evaluation_rests : (t : Linked) → RestsOn (designators_of_linked t) (λ a. evaluation a t)
evaluation_rests t a b agree =
    let same : element a t ≡ element b t = element_rests t a b agree in
    let child : evaluated a t ≡ evaluated b t = sym (element_child a t) ∙ ap (λ e. e.child) same ∙ element_child b t in
    ap₂ (λ (e : Element) (c : EvaluatedChild). with_ids e.ids c.value) same child

-- where none of them names the clock it is the same whatever the clock says
pub steady : (t : Linked) → is_timeless (designators_of_linked t) ≡ true → IsSteady t
steady t timeless a b same = evaluation_rests t a b (timeless_agree (designators_of_linked t) a b same timeless)
