-- What the children so far come to, as they are evaluated one after another.
use Rattle.std.specs.Prelude.{ℕ, Bool, if◌then◌else◌, List, [], ◌∷◌, ◌++◌, take, Option, Some, None, is_some, unwrap_or}
use Rattle.std.specs.List.{flat_map}
use Rattle.std.specs.Option.{option_or}
use Rattle.xa_func.specs.declared.status.Status.{Status}
use Rattle.xa_func.specs.declared.status.Status.TheVariants as status
use Rattle.xa_policy.specs.declared.combination.Combination.{Combination}
use Rattle.xa_policy.specs.declared.combining.Alg.{Alg}
use Rattle.xa_policy.specs.declared.combining.Alg.TheVariants.{DenyOverrides, PermitOverrides, OrderedDenyOverrides}
use Rattle.xa_policy.specs.declared.combining.Alg.TheVariants.{OrderedPermitOverrides, DenyUnlessPermit}
use Rattle.xa_policy.specs.declared.combining.Alg.TheVariants.{PermitUnlessDeny, FirstApplicable, OnlyOneApplicable}
use Rattle.xa_policy.specs.declared.decision.Decision.{Decision}
use Rattle.xa_policy.specs.declared.decision.Decision.TheVariants.{Permit, Deny, NotApplicable}
use Rattle.xa_policy.specs.declared.document_key.DocumentKey.{DocumentKey}
use Rattle.xa_policy.specs.declared.verdict.Verdict.{Verdict}
use Rattle.xa_policy.specs.Combining.{deny_overrides, permit_overrides, first_applicable, is_indeterminate}
use Rattle.xa_policy.specs.Duties.{and_then, effect_of, no_duties}
use Rattle.xa_policy.specs.Evaluation.{Element, ends, up_to}
use Rattle.xa_policy.specs.Status.{EvaluatedChild}

-- every algorithm goes by decisions but only-one-applicable
abbrev pub IsByDecisions : Alg → Type 0
IsByDecisions OnlyOneApplicable = ⊥
IsByDecisions _ = Unit {0}

-- the decision of no children
abbrev pub decision_of_none : Alg → Decision
decision_of_none DenyUnlessPermit = Deny
decision_of_none PermitUnlessDeny = Permit
decision_of_none _ = NotApplicable

-- what no children come to
abbrev pub of_none : Alg → Combination
of_none algorithm =
    record { algorithm = algorithm; decision = decision_of_none algorithm; fault = None; duties = no_duties }

-- the status of what was decided, if it is Indeterminate
abbrev pub fault_in : Verdict → Option Status
fault_in e = if is_indeterminate e.decision then Some e.status else None

-- the decision so far with that of a child that doesn't end the evaluation
abbrev pub joined_decision : Alg → Decision → Decision → Decision
joined_decision DenyOverrides so_far d = deny_overrides (so_far ∷ d ∷ [])
joined_decision OrderedDenyOverrides so_far d = deny_overrides (so_far ∷ d ∷ [])
joined_decision PermitOverrides so_far d = permit_overrides (so_far ∷ d ∷ [])
joined_decision OrderedPermitOverrides so_far d = permit_overrides (so_far ∷ d ∷ [])
joined_decision _ so_far d = so_far

-- the children so far with one that doesn't end the evaluation
abbrev pub joined : Combination → Verdict → Combination
joined so_far child = record {
  algorithm = so_far.algorithm;
  decision = joined_decision so_far.algorithm so_far.decision child.decision;
  fault = option_or so_far.fault (fault_in child);
  duties = if is_some (effect_of child.decision) then and_then so_far.duties child.duties else so_far.duties;
}

-- the decision of the child that ends the evaluation
abbrev pub ending_decision : Alg → Decision → Decision
ending_decision FirstApplicable d = first_applicable (d ∷ [])
ending_decision _ d = d

-- the decision so far with those of the children after, one after another
abbrev pub walked_decision : Alg → Decision → List Decision → Decision
walked_decision algorithm so_far [] = so_far
walked_decision algorithm so_far (d ∷ ds) =
    if ends algorithm d then ending_decision algorithm d
    else walked_decision algorithm (joined_decision algorithm so_far d) ds

-- the children so far with the one that ends the evaluation
abbrev pub ended : Combination → Verdict → Combination
ended so_far child = record {
  algorithm = so_far.algorithm;
  decision = ending_decision so_far.algorithm child.decision;
  fault = fault_in child;
  duties = child.duties;
}

-- the children so far with the next
abbrev pub with_next : Combination → Verdict → Combination
with_next so_far child = if ends so_far.algorithm child.decision then ended so_far child else joined so_far child

-- what the children so far decide, if there is no other
abbrev pub decided : Combination → Verdict
decided so_far = record {
  decision = so_far.decision;
  status = if is_indeterminate so_far.decision then unwrap_or so_far.fault status.Ok else status.Ok;
  duties = if is_some (effect_of so_far.decision) then so_far.duties else no_duties;
}

-- what the children so far decide with the others after them
abbrev pub walked : Combination → List EvaluatedChild → Verdict
walked so_far [] = decided so_far
walked so_far (child ∷ children) =
    if ends so_far.algorithm child.value.decision then decided (ended so_far child.value)
    else walked (joined so_far child.value) children

-- the policies and policy sets that are named so far, and whether they are asked for
pub record Named : Type 0 where
  pub asked : Bool
  pub ids : List DocumentKey

-- the policies and policy sets that are named so far with these after them, if they are asked for
abbrev pub with_named : Named → List DocumentKey → Named
with_named so_far keys = record { asked = so_far.asked; ids = so_far.ids ++ (if so_far.asked then keys else []) }

-- the first `count` of the policies and policy sets that are named so far
abbrev pub first_named : ℕ → Named → Named
first_named count so_far = record { asked = so_far.asked; ids = take count so_far.ids }

-- all policies and policy sets that are named so far if Permit or Deny is decided, and else the first `count`
abbrev pub kept_by : Decision → ℕ → Named → Named
kept_by d count so_far = if is_some (effect_of d) then so_far else first_named count so_far

-- what elements name, up to and with the one that ends an algorithm that goes by decisions
abbrev pub named_up_to : Alg → List Element → List DocumentKey
named_up_to algorithm elements = flat_map (λ e. e.ids) (up_to (λ e. ends algorithm e.child.value.decision) elements)
