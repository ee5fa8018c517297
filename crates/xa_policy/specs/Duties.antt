-- Obligations and advice (XACML 3.0, core, sections 5.39 to 5.41 and 7.18).
use Rattle.std.specs.Prelude.{Bool, true, false, List, [], ◌++◌, map, filter, flat_map, Option, Some, None, Result, Ok}
use Rattle.xa_value.specs.declared.value.Value.{Value}
use Rattle.xa_value.specs.Gives.{◌>>=◌}
use Rattle.xa_bag.specs.HigherOrder.{collected}
use Rattle.xa_bag.specs.ValueOrBag.{values_of}
use Rattle.xa_expr.specs.declared.fault.Fault.{Fault}
use Rattle.xa_expr.specs.declared.typed.Typed.{Typed}
use Rattle.xa_expr.specs.Evaluation.{Outcome}
use Rattle.xa_policy.specs.declared.decision.Decision.{Decision}
use Rattle.xa_policy.specs.declared.decision.Decision.TheVariants as decision
use Rattle.xa_policy.specs.declared.decision.Effect.{Effect}
use Rattle.xa_policy.specs.declared.decision.Effect.TheVariants.{Permit, Deny}
use Rattle.xa_policy.specs.declared.duty.AttributeAssignment.{AttributeAssignment}
use Rattle.xa_policy.specs.declared.duty.AttributeAssignmentExpression.{AttributeAssignmentExpression}
use Rattle.xa_policy.specs.declared.duty.Duty.{Duty}
use Rattle.xa_policy.specs.declared.duty.DutyExpression.{DutyExpression}
use Rattle.xa_policy.specs.declared.duty.DutyExpressions.{DutyExpressions}

-- the obligations and the advice that come with a decision
pub record DutyLists : Type 0 where
  pub obligations : List Duty
  pub advice : List Duty

-- no obligations and no advice
abbrev pub no_duties : DutyLists
no_duties = record { obligations = []; advice = [] }

-- the obligations and advice of one, and then those of another
abbrev pub and_then : DutyLists → DutyLists → DutyLists
and_then first second =
    record { obligations = first.obligations ++ second.obligations; advice = first.advice ++ second.advice }

-- the effect of a decision, if it is a Permit or a Deny
abbrev pub effect_of : Decision → Option Effect
effect_of decision.Permit = Some Permit
effect_of decision.Deny = Some Deny
effect_of _ = None

-- the two effects are one
abbrev pub same_effect : Effect → Effect → Bool
same_effect Permit Permit = true
same_effect Deny Deny = true
same_effect _ _ = false

-- an assignment, with a value of its expression
abbrev pub with_value : AttributeAssignmentExpression Typed → Value → AttributeAssignment
with_value a v = record { attribute_id = a.attribute_id; category = a.category; issuer = a.issuer; value = v }

-- the assignments of an expression: one of a value, one for each value of a bag
abbrev pub assigned : (Typed → Outcome) → AttributeAssignmentExpression Typed → Result (List AttributeAssignment) Fault
assigned value_of a = value_of a.expression >>= (λ given. Ok (map (with_value a) (values_of given)))

-- the assignments of all expressions, or the first fault
abbrev pub all_assigned : (Typed → Outcome) → List (AttributeAssignmentExpression Typed)
    → Result (List AttributeAssignment) Fault
all_assigned value_of expressions =
    collected (map (assigned value_of) expressions) >>= (λ found. Ok (flat_map (λ each. each) found))

-- an obligation, or a piece of advice, with its assignments
abbrev pub duty : (Typed → Outcome) → DutyExpression Typed → Result Duty Fault
duty value_of d = all_assigned value_of d.assignments >>= (λ all. Ok (record { id = d.id; assignments = all }))

-- the obligations, or the pieces of advice, that belong to the effect, or the first fault
abbrev pub duties_with : (Typed → Outcome) → Effect → List (DutyExpression Typed) → Result (List Duty) Fault
duties_with value_of effect ds = collected (map (duty value_of) (filter (λ d. same_effect effect d.effect) ds))

-- the obligations that belong to the effect, and then the advice, or the first fault
abbrev pub own_duties : (Typed → Outcome) → Effect → DutyExpressions Typed → Result DutyLists Fault
own_duties value_of effect own =
    duties_with value_of effect own.obligations >>= (λ obligations.
    duties_with value_of effect own.advice >>= (λ advice.
    Ok (record { obligations = obligations; advice = advice })))
