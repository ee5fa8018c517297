-- Policies and policy sets, whose expressions are checked (XACML 3.0, core, sections 5.1, 5.14, 5.21 and 5.37 to 5.41).
use Rattle.std.specs.Prelude.{◌≡◌, ℕ, List, [], ◌∷◌, Option, Some, None}
use Rattle.xa_value.specs.declared.data_type.DataType.TheVariants as type
use Rattle.xa_func.specs.declared.signature.Kind.{Kind}
use Rattle.xa_func.specs.declared.signature.Kind.TheVariants as kind
use Rattle.xa_expr.specs.declared.target.Target.{Target}
use Rattle.xa_expr.specs.declared.typed.Typed.{Typed}
use Rattle.xa_expr.specs.declared.variables.Definition.{Definition}
use Rattle.xa_expr.specs.Typed.{IsTyped, kind_of_typed}
use Rattle.xa_expr.specs.Variables.{kinds}
use Rattle.xa_policy.specs.declared.combining.Alg.{Alg}
use Rattle.xa_policy.specs.declared.document_key.DocumentKey.{DocumentKey}
use Rattle.xa_policy.specs.declared.duty.AttributeAssignmentExpression.{AttributeAssignmentExpression}
use Rattle.xa_policy.specs.declared.duty.DutyExpression.{DutyExpression}
use Rattle.xa_policy.specs.declared.duty.DutyExpressions.{DutyExpressions}
use Rattle.xa_policy.specs.declared.reference.DocumentKind.TheVariants as document
use Rattle.xa_policy.specs.declared.rule.Rule.{Rule}

-- the key of a policy of that id and version
abbrev pub policy_key : List ℕ → List ℕ → DocumentKey
policy_key id version = record { kind = document.Policy; id = id; version = version }

-- the key of a policy set of that id and version
abbrev pub set_key : List ℕ → List ℕ → DocumentKey
set_key id version = record { kind = document.PolicySet; id = id; version = version }

-- what a policy is made of
pub record PolicyParts : Type 0 where
  pub key : DocumentKey
  pub algorithm : Alg
  pub target : Target
  pub variables : List Definition
  pub rules : List (Rule Typed)
  pub duties : DutyExpressions Typed

-- what a policy set is made of, beside its children
pub record SetParts : Type 0 where
  pub key : DocumentKey
  pub algorithm : Alg
  pub target : Target
  pub duties : DutyExpressions Typed

-- a condition has its kind under variables of these kinds, and it is a boolean
abbrev pub IsCondition : List Kind → Option Typed → Type 0
IsCondition variables None = Unit {0}
IsCondition variables (Some e) = IsTyped variables e × (kind_of_typed e ≡ kind.Value type.Boolean)

-- the expressions of assignments have their kinds under variables of these kinds
abbrev pub AreAssignments : List Kind → List (AttributeAssignmentExpression Typed) → Type 0
AreAssignments variables [] = Unit {0}
AreAssignments variables (a ∷ rest) = IsTyped variables a.expression × AreAssignments variables rest

-- the expressions of obligations, or of pieces of advice, have their kinds under variables of these kinds
abbrev pub AreDuties : List Kind → List (DutyExpression Typed) → Type 0
AreDuties variables [] = Unit {0}
AreDuties variables (d ∷ ds) = AreAssignments variables d.assignments × AreDuties variables ds

-- the expressions of obligations and advice have their kinds under variables of these kinds
pub record AreTypedDuties (variables : List Kind) (duties : DutyExpressions Typed) : Type 0 where
  pub obligations : AreDuties variables duties.obligations
  pub advice : AreDuties variables duties.advice

-- the expressions of a rule have their kinds under variables of these kinds
pub record IsTypedRule (variables : List Kind) (rule : Rule Typed) : Type 0 where
  pub condition : IsCondition variables rule.condition
  pub duties : AreTypedDuties variables rule.duties

abbrev pub AreTypedRules : List Kind → List (Rule Typed) → Type 0
AreTypedRules variables [] = Unit {0}
AreTypedRules variables (r ∷ rs) = IsTypedRule variables r × AreTypedRules variables rs

-- the key of a policy is a policy's, and all its expressions are checked, under its variables
pub record IsTypedPolicy (policy : PolicyParts) : Type 0 where
  pub kind : policy.key.kind ≡ document.Policy
  pub rules : AreTypedRules (kinds policy.variables) policy.rules
  pub duties : AreTypedDuties (kinds policy.variables) policy.duties

-- the key of a policy set is a set's, and all its expressions are checked; it has no variables
pub record IsTypedSet (set : SetParts) : Type 0 where
  pub kind : set.key.kind ≡ document.PolicySet
  pub duties : AreTypedDuties [] set.duties
