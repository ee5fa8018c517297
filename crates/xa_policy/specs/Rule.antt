-- Rules (XACML 3.0, core, sections 7.9 and 7.11).
use Rattle.std.specs.Prelude.{Bool, true, false, List, Option, Some, None, Result, Ok, Err}
use Rattle.xa_func.specs.declared.status.Status.{Status}
use Rattle.xa_func.specs.declared.status.Status.TheVariants as status
use Rattle.xa_expr.specs.declared.fault.Fault.{Fault}
use Rattle.xa_expr.specs.declared.matching.Matching.{Matching}
use Rattle.xa_expr.specs.declared.matching.Matching.TheVariants.{Match, NoMatch, Indeterminate}
use Rattle.xa_expr.specs.declared.typed.Typed.{Typed}
use Rattle.xa_expr.specs.declared.variables.Definition.{Definition}
use Rattle.xa_expr.specs.Evaluation.{Attributes, Outcome, place, value_of}
use Rattle.xa_expr.specs.Fault.{status_of}
use Rattle.xa_expr.specs.Target.{target_value}
use Rattle.xa_policy.specs.declared.decision.Decision.{Decision}
use Rattle.xa_policy.specs.declared.decision.Decision.TheVariants as decision
use Rattle.xa_policy.specs.declared.decision.Effect.{Effect}
use Rattle.xa_policy.specs.declared.duty.DutyExpressions.{DutyExpressions}
use Rattle.xa_policy.specs.declared.rule.Rule.{Rule}
use Rattle.xa_policy.specs.declared.verdict.Verdict.{Verdict}
use Rattle.xa_policy.specs.Duties.{DutyLists, and_then, effect_of, no_duties, own_duties}
use Rattle.xa_policy.specs.Effect.{decision_with, decision_left_open}

-- a decision with its status, without obligations and advice
abbrev pub without_duties : Decision → Status → Verdict
without_duties d s = record { decision = d; status = s; duties = no_duties }

-- what is decided if nothing applies
abbrev pub not_applicable : Verdict
not_applicable = without_duties decision.NotApplicable status.Ok

-- the effect, left open by a fault
abbrev pub left_open : Effect → Fault → Verdict
left_open effect fault = without_duties (decision_left_open effect) (status_of fault)

-- {DP}, left open by a fault
abbrev pub undecided : Fault → Verdict
undecided fault = without_duties decision.IndeterminateDenyPermit (status_of fault)

-- the value of a condition; none is True (7.9)
abbrev pub condition_value : (Typed → Outcome) → Option Typed → Result Bool Fault
condition_value value_of None = Ok true
condition_value value_of (Some e) = place (value_of e)

-- what a rule of this effect decides, by its condition, if its target matches
abbrev pub by_condition : Effect → Result Bool Fault → Verdict
by_condition effect (Ok true) = without_duties (decision_with effect) status.Ok
by_condition effect (Ok false) = not_applicable
by_condition effect (Err fault) = left_open effect fault

-- what a rule of this effect decides, by its target and its condition
abbrev pub outcome : Effect → Matching → Result Bool Fault → Verdict
outcome effect Match condition = by_condition effect condition
outcome effect NoMatch condition = not_applicable
outcome effect (Indeterminate fault) condition = left_open effect fault

-- a Permit or a Deny with duties after those that it has, or left open by the first fault in them (7.18; the fault's
-- part is this project's choice)
abbrev pub with_found : Effect → Verdict → Result DutyLists Fault → Verdict
with_found effect e (Ok found) = record { decision = e.decision; status = e.status; duties = and_then e.duties found }
with_found effect e (Err fault) = left_open effect fault

-- what is decided, with the own obligations and advice that belong to the effect, if there is one
abbrev pub with_own_of : (Typed → Outcome) → DutyExpressions Typed → Verdict → Option Effect → Verdict
with_own_of value_of own e None = e
with_own_of value_of own e (Some effect) = with_found effect e (own_duties value_of effect own)

abbrev pub with_own : (Typed → Outcome) → DutyExpressions Typed → Verdict → Verdict
with_own value_of own e = with_own_of value_of own e (effect_of e.decision)

-- what a rule decides under a policy's variables
abbrev pub rule_value : Attributes → List Definition → Rule Typed → Verdict
rule_value values_of variables rule =
    let value = value_of values_of variables in
    with_own value rule.duties
    (outcome rule.effect (target_value values_of rule.target) (condition_value value rule.condition))
