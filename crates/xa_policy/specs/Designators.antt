-- The designators that stand in a tree of policies and policy sets: nothing else is asked of the context (XACML 3.0,
-- core, sections 5.29 and 7.3).
use Rattle.std.specs.Prelude.{◌≡◌, List, [], ◌++◌, Option, Some, None}
use Rattle.std.specs.List.{flat_map}
use Rattle.xa_expr.specs.declared.designator.Designator.{Designator}
use Rattle.xa_expr.specs.declared.typed.Typed.{Typed}
use Rattle.xa_expr.specs.Designators.{RestsOn, designators, designators_of_definitions, designators_of_target}
use Rattle.xa_expr.specs.Evaluation.{Attributes}
use Rattle.xa_expr.specs.Timeless.{SameButForTheClock}
use Rattle.xa_policy.specs.declared.duty.AttributeAssignmentExpression.{AttributeAssignmentExpression}
use Rattle.xa_policy.specs.declared.duty.DutyExpression.{DutyExpression}
use Rattle.xa_policy.specs.declared.duty.DutyExpressions.{DutyExpressions}
use Rattle.xa_policy.specs.declared.linked.Linked.{Linked, fold-Linked}
use Rattle.xa_policy.specs.declared.linked.Linked.TheOpen.{Linked-F}
use Rattle.xa_policy.specs.declared.rule.Rule.{Rule}
use Rattle.xa_policy.specs.Evaluation.{evaluation}
use Rattle.xa_policy.specs.Policy.{PolicyParts, SetParts}

-- the designators of an assignment
abbrev pub designators_of_assignment : AttributeAssignmentExpression Typed → List Designator
designators_of_assignment a = designators a.expression

-- the designators of an obligation's or a piece of advice's assignments
abbrev pub designators_of_duty : DutyExpression Typed → List Designator
designators_of_duty d = flat_map designators_of_assignment d.assignments

-- the designators of obligations, and then of advice
abbrev pub designators_of_duties : DutyExpressions Typed → List Designator
designators_of_duties own = flat_map designators_of_duty own.obligations ++ flat_map designators_of_duty own.advice

-- the designators of a condition; a rule without one has none there
abbrev pub designators_of_condition : Option Typed → List Designator
designators_of_condition None = []
designators_of_condition (Some e) = designators e

-- the designators of a rule
abbrev pub designators_of_rule : Rule Typed → List Designator
designators_of_rule rule =
    designators_of_target rule.target ++ (designators_of_condition rule.condition ++ designators_of_duties rule.duties)

-- the designators of a policy
abbrev pub designators_of_policy : PolicyParts → List Designator
designators_of_policy policy =
    designators_of_target policy.target ++ (designators_of_definitions policy.variables
    ++ (flat_map designators_of_rule policy.rules ++ designators_of_duties policy.duties))

-- the designators of a policy set, without its children's
abbrev pub designators_of_set : SetParts → List Designator
designators_of_set set = designators_of_target set.target ++ designators_of_duties set.duties

-- the designators of each element of a tree, by those of its children
abbrev pub designators_step : Linked-F (List Designator) → List Designator
designators_step Linked-F.Unresolved = []
designators_step (Linked-F.Policy policy) = designators_of_policy policy
designators_step (Linked-F.PolicySet set children) = designators_of_set set ++ flat_map (λ ds. ds) children

abbrev pub designators_of_linked : Linked → List Designator
designators_of_linked = fold-Linked (List Designator) designators_step

-- law: what a tree decides rests on the designators that stand in it alone
abbrev pub DecisionsRestOnDesignators : Type 0
DecisionsRestOnDesignators =
    (tree : Linked) → RestsOn (designators_of_linked tree) (λ values_of. evaluation values_of tree)

-- the tree decides the same of any two sources that differ in the clock's attributes alone, and so at every two moments
abbrev pub IsSteady : Linked → Type 0
IsSteady tree = (a b : Attributes) → SameButForTheClock a b → evaluation a tree ≡ evaluation b tree
