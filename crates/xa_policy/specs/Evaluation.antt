-- Policies, policy sets, and trees of them (XACML 3.0, core, sections 5.49, 7.12 to 7.15 and 7.18).
use Rattle.std.specs.Prelude.{Bool, true, false, not, if◌then◌else◌, List, [], ◌∷◌, map, filter, is_some}
use Rattle.std.specs.List.{flat_map, list_any}
use Rattle.xa_func.specs.declared.status.Status.{Status}
use Rattle.xa_expr.specs.declared.fault.Fault.TheVariants.{ProcessingError}
use Rattle.xa_expr.specs.declared.matching.Matching.{Matching}
use Rattle.xa_expr.specs.declared.matching.Matching.TheVariants.{Match, NoMatch, Indeterminate}
use Rattle.xa_expr.specs.declared.typed.Typed.{Typed}
use Rattle.xa_expr.specs.declared.variables.Definition.{Definition}
use Rattle.xa_expr.specs.Evaluation.{Attributes, value_of}
use Rattle.xa_expr.specs.Fault as expr
use Rattle.xa_expr.specs.Target.{is_indeterminate, is_match, target_value}
use Rattle.xa_policy.specs.declared.combining.Alg.{Alg}
use Rattle.xa_policy.specs.declared.combining.Alg.TheVariants.{DenyOverrides, PermitOverrides, OrderedDenyOverrides}
use Rattle.xa_policy.specs.declared.combining.Alg.TheVariants.{OrderedPermitOverrides, DenyUnlessPermit}
use Rattle.xa_policy.specs.declared.combining.Alg.TheVariants.{PermitUnlessDeny, FirstApplicable, OnlyOneApplicable}
use Rattle.xa_policy.specs.declared.combining.Child.{Child}
use Rattle.xa_policy.specs.declared.decision.Decision.{Decision}
use Rattle.xa_policy.specs.declared.decision.Decision.TheVariants.{Permit, Deny, NotApplicable}
use Rattle.xa_policy.specs.declared.decision.Decision.TheVariants.{IndeterminatePermit, IndeterminateDeny}
use Rattle.xa_policy.specs.declared.document_key.DocumentKey.{DocumentKey}
use Rattle.xa_policy.specs.declared.evaluated.Evaluated.{Evaluated}
use Rattle.xa_policy.specs.declared.linked.Linked.{Linked, fold-Linked}
use Rattle.xa_policy.specs.declared.linked.Linked.TheOpen.{Linked-F}
use Rattle.xa_policy.specs.declared.rule.Rule.{Rule}
use Rattle.xa_policy.specs.declared.verdict.Verdict.{Verdict}
use Rattle.xa_policy.specs.Combining.{combined_decision, is}
use Rattle.xa_policy.specs.Duties.{DutyLists, and_then, effect_of, no_duties}
use Rattle.xa_policy.specs.Policy.{PolicyParts, SetParts}
use Rattle.xa_policy.specs.Rule.{not_applicable, rule_value, undecided, with_own, without_duties}
use Rattle.xa_policy.specs.Status.{EvaluatedChild, fault_of, status_of, only_one_status}

-- an evaluated child as it is combined
abbrev pub child_of : EvaluatedChild → Child
child_of child = record { decision = child.value.decision; target = child.target }

-- a list up to and including its first item that is so
abbrev pub up_to : {X : Type 0} → (X → Bool) → List X → List X
up_to is_so [] = []
up_to is_so (x ∷ xs) = x ∷ (if is_so x then [] else up_to is_so xs)

-- whether no child is evaluated after one that decides this, under an algorithm that goes by decisions. Which children
-- count as evaluated is this project's choice, for the unordered forms too
abbrev pub ends : Alg → Decision → Bool
ends DenyOverrides d = is Deny d
ends OrderedDenyOverrides d = is Deny d
ends PermitUnlessDeny d = is Deny d
ends PermitOverrides d = is Permit d
ends OrderedPermitOverrides d = is Permit d
ends DenyUnlessPermit d = is Permit d
ends FirstApplicable d = not (is NotApplicable d)
ends OnlyOneApplicable d = false

-- the item of a list, if there is one alone
abbrev pub only : {X : Type 0} → List X → List X
only (x ∷ []) = x ∷ []
only _ = []

-- the items that are evaluated, each seen as a child: under only-one-applicable the chosen one alone, and else all up
-- to the one that ends it
abbrev pub evaluated_among : {X : Type 0} → (X → EvaluatedChild) → Alg → List X → List X
evaluated_among child OnlyOneApplicable xs =
    if list_any (λ x. is_indeterminate (child x).target) xs then []
    else only (filter (λ x. is_match (child x).target) xs)
evaluated_among child algorithm xs = up_to (λ x. ends algorithm (child x).value.decision) xs

-- the obligations and the advice of all children, in their order
abbrev pub duties_of_all : List EvaluatedChild → DutyLists
duties_of_all [] = no_duties
duties_of_all (child ∷ children) = and_then child.value.duties (duties_of_all children)

-- the obligations and the advice that come with a decision: with a Permit or a Deny those of the evaluated children
-- that decide the same
abbrev pub children_duties : Alg → Decision → List EvaluatedChild → DutyLists
children_duties algorithm d children =
    if is_some (effect_of d)
    then duties_of_all (filter (λ c. is d c.value.decision) (evaluated_among (λ c. c) algorithm children))
    else no_duties

-- the status of a decision under an algorithm
abbrev pub combined_status : Alg → Decision → List EvaluatedChild → Status
combined_status OnlyOneApplicable d children = only_one_status children
combined_status algorithm d children = status_of d (map fault_of children)

-- the decision that the algorithm makes of the children's, with its status, and their obligations and advice
abbrev pub with_decision : Alg → List EvaluatedChild → Decision → Verdict
with_decision algorithm children d =
    record {
      decision = d;
      status = combined_status algorithm d children;
      duties = children_duties algorithm d children;
    }

unfoldable pub combination : Alg → List EvaluatedChild → Verdict
combination algorithm children = with_decision algorithm children (combined_decision algorithm (map child_of children))

-- what is decided if the target is Indeterminate (7.14)
abbrev pub under_indeterminate : Status → Decision → Verdict
under_indeterminate s NotApplicable = not_applicable
under_indeterminate s Permit = without_duties IndeterminatePermit s
under_indeterminate s Deny = without_duties IndeterminateDeny s
under_indeterminate s d = without_duties d s

-- what is decided by the target and what the children come to
abbrev pub by_target : Matching → Verdict → Verdict
by_target Match e = e
by_target NoMatch e = not_applicable
by_target (Indeterminate fault) e = under_indeterminate (expr.status_of fault) e.decision

-- a rule as a child
abbrev pub rule_child : Attributes → List Definition → Rule Typed → EvaluatedChild
rule_child values_of variables rule =
    record { value = rule_value values_of variables rule; target = target_value values_of rule.target }

-- what a policy decides (7.12)
abbrev pub policy_value : Attributes → PolicyParts → Verdict
policy_value values_of policy =
    with_own (value_of values_of policy.variables) policy.duties
    (by_target (target_value values_of policy.target)
    (combination policy.algorithm (map (rule_child values_of policy.variables) policy.rules)))

-- what a policy set decides (7.13); it has no variables
abbrev pub set_value : Attributes → SetParts → List EvaluatedChild → Verdict
set_value values_of set children =
    with_own (value_of values_of []) set.duties
    (by_target (target_value values_of set.target) (combination set.algorithm children))

-- what each element of a tree comes to, by its children; a reference that leads to nothing, or back, is this project's
-- {DP} (7.15)
abbrev pub linked_step : Attributes → Linked-F EvaluatedChild → EvaluatedChild
linked_step values_of Linked-F.Unresolved =
    record { value = undecided ProcessingError; target = Indeterminate ProcessingError }
linked_step values_of (Linked-F.Policy policy) =
    record { value = policy_value values_of policy; target = target_value values_of policy.target }
linked_step values_of (Linked-F.PolicySet set children) =
    record { value = set_value values_of set children; target = target_value values_of set.target }

abbrev pub evaluated : Attributes → Linked → EvaluatedChild
evaluated values_of = fold-Linked EvaluatedChild (linked_step values_of)

-- what a tree decides
abbrev pub verdict : Attributes → Linked → Verdict
verdict values_of linked = (evaluated values_of linked).value

-- ---- the policies and policy sets that are named (5.49), by this project's rule

-- an element of a tree: what it comes to as a child, and the policies and policy sets that it names
pub record Element : Type 0 where
  pub child : EvaluatedChild
  pub ids : List DocumentKey

-- what a policy or a policy set names: if it decides Permit or Deny itself and then these, and else nothing, whatever
-- stands inside it
abbrev pub named_by : Decision → DocumentKey → List DocumentKey → List DocumentKey
named_by d key inside = if is_some (effect_of d) then key ∷ inside else []

-- what the evaluated ones of a policy set's elements name, whatever they decide, in their order
abbrev pub named_by_elements : Alg → List Element → List DocumentKey
named_by_elements algorithm elements = flat_map (λ e. e.ids) (evaluated_among (λ e. e.child) algorithm elements)

abbrev pub element_of : EvaluatedChild → DocumentKey → List DocumentKey → Element
element_of child key inside = record { child = child; ids = named_by child.value.decision key inside }

-- each element of a tree, by those in it; a reference that leads to nothing, or back, names none
abbrev pub element_step : Attributes → Linked-F Element → Element
element_step values_of Linked-F.Unresolved = record { child = linked_step values_of Linked-F.Unresolved; ids = [] }
element_step values_of (Linked-F.Policy policy) =
    element_of (linked_step values_of (Linked-F.Policy policy)) policy.key []
element_step values_of (Linked-F.PolicySet set elements) =
    element_of (linked_step values_of (Linked-F.PolicySet set (map (λ e. e.child) elements))) set.key
    (named_by_elements set.algorithm elements)

abbrev pub element : Attributes → Linked → Element
element values_of = fold-Linked Element (element_step values_of)

-- what is decided, with the policies and policy sets that are named
abbrev pub with_ids : List DocumentKey → Verdict → Evaluated
with_ids ids v = record { decision = v.decision; status = v.status; duties = v.duties; ids = ids }

-- what is decided, without policies and policy sets that are named
abbrev pub without_ids : Verdict → Evaluated
without_ids v = with_ids [] v

-- what a tree decides, and names
abbrev pub evaluation : Attributes → Linked → Evaluated
evaluation values_of linked = with_ids (element values_of linked).ids (verdict values_of linked)

-- what is answered of an evaluation: the policies and policy sets if they are asked for (5.42)
abbrev pub as_asked : Bool → Evaluated → Evaluated
as_asked true e = e
as_asked false e = record { decision = e.decision; status = e.status; duties = e.duties; ids = [] }
