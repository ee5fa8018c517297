-- The type check of rules, obligations and advice (XACML 3.0, core, sections 5.21, 5.26 and 5.39 to 5.41): a
-- condition is a boolean, and an assignment a value or a bag of any type.
use Rattle.std.specs.Prelude.{if◌then◌else◌, List, map, Option, Some, None, Result, Ok, Err}
use Rattle.xa_value.specs.declared.data_type.DataType.TheVariants as type
use Rattle.xa_value.specs.Gives.{◌>>=◌}
use Rattle.xa_func.specs.declared.signature.Kind.TheVariants as kind
use Rattle.xa_bag.specs.HigherOrder.{collected}
use Rattle.xa_expr.specs.declared.check_error.CheckError.{CheckError}
use Rattle.xa_expr.specs.declared.check_error.CheckError.TheVariants.{WrongType}
use Rattle.xa_expr.specs.declared.expr.Expr.{Expr}
use Rattle.xa_expr.specs.declared.typed.Typed.{Typed}
use Rattle.xa_expr.specs.declared.variables.Definition.{Definition}
use Rattle.xa_expr.specs.Typed.{kind_of_typed, same_kind}
use Rattle.xa_expr.specs.Typing.{checked}
use Rattle.xa_policy.specs.declared.duty.AttributeAssignmentExpression.{AttributeAssignmentExpression}
use Rattle.xa_policy.specs.declared.duty.DutyExpression.{DutyExpression}
use Rattle.xa_policy.specs.declared.duty.DutyExpressions.{DutyExpressions}
use Rattle.xa_policy.specs.declared.rule.Rule.{Rule}

-- a condition is a boolean, and no bag
abbrev pub boolean_alone : Typed → Result Typed CheckError
boolean_alone t = if same_kind (kind_of_typed t) (kind.Value type.Boolean) then Ok t else Err WrongType

abbrev pub checked_condition : List Definition → Option Expr → Result (Option Typed) CheckError
checked_condition variables None = Ok None
checked_condition variables (Some e) = checked variables e >>= boolean_alone >>= (λ t. Ok (Some t))

-- an assignment
abbrev pub checked_assignment : List Definition → AttributeAssignmentExpression Expr
    → Result (AttributeAssignmentExpression Typed) CheckError
checked_assignment variables a =
    checked variables a.expression >>= (λ t.
    Ok (record { attribute_id = a.attribute_id; category = a.category; issuer = a.issuer; expression = t }))

-- an obligation, or a piece of advice: its assignments in order
abbrev pub checked_duty : List Definition → DutyExpression Expr → Result (DutyExpression Typed) CheckError
checked_duty variables d =
    collected (map (checked_assignment variables) d.assignments) >>= (λ all.
    Ok (record { id = d.id; effect = d.effect; assignments = all }))

-- the obligations, and then the advice
abbrev pub checked_duties : List Definition → DutyExpressions Expr → Result (DutyExpressions Typed) CheckError
checked_duties variables ds =
    collected (map (checked_duty variables) ds.obligations) >>= (λ obligations.
    collected (map (checked_duty variables) ds.advice) >>= (λ advice.
    Ok (record { obligations = obligations; advice = advice })))

-- a rule: its condition, and then its obligations and advice
abbrev pub checked_rule : List Definition → Rule Expr → Result (Rule Typed) CheckError
checked_rule variables rule =
    checked_condition variables rule.condition >>= (λ condition.
    checked_duties variables rule.duties >>= (λ duties.
    Ok (record { effect = rule.effect; target = rule.target; condition = condition; duties = duties })))
