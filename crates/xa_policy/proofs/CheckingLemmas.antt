-- What is checked has its kinds, one after another.
use Rattle.std.specs.Prelude.{List, [], ◌∷◌, ◌++◌}
use Rattle.xa_func.specs.declared.signature.Kind.{Kind}
use Rattle.xa_expr.specs.declared.typed.Typed.{Typed}
use Rattle.xa_expr.specs.Typed.{IsTyped}
use Rattle.xa_policy.specs.declared.duty.AttributeAssignmentExpression.{AttributeAssignmentExpression}
use Rattle.xa_policy.specs.declared.duty.DutyExpression.{DutyExpression}
use Rattle.xa_policy.specs.declared.rule.Rule.{Rule}
use Rattle.xa_policy.specs.Policy.{AreAssignments, AreDuties, IsTypedRule, AreTypedRules}

pub one_more_assignment : (vs : List Kind) (done : List (AttributeAssignmentExpression Typed)) (a : AttributeAssignmentExpression Typed)
    → AreAssignments vs done → IsTyped vs a.expression → AreAssignments vs (done ++ a ∷ [])
one_more_assignment vs [] a typed here = (here, tt)
one_more_assignment vs (b ∷ done) a typed here = (typed.0, one_more_assignment vs done a typed.1 here)

pub one_more_duty : (vs : List Kind) (done : List (DutyExpression Typed)) (d : DutyExpression Typed)
    → AreDuties vs done → AreAssignments vs d.assignments → AreDuties vs (done ++ d ∷ [])
one_more_duty vs [] d typed here = (here, tt)
one_more_duty vs (e ∷ done) d typed here = (typed.0, one_more_duty vs done d typed.1 here)

pub one_more_rule : (vs : List Kind) (done : List (Rule Typed)) (r : Rule Typed)
    → AreTypedRules vs done → IsTypedRule vs r → AreTypedRules vs (done ++ r ∷ [])
one_more_rule vs [] r typed here = (here, tt)
one_more_rule vs (s ∷ done) r typed here = (typed.0, one_more_rule vs done r typed.1 here)
