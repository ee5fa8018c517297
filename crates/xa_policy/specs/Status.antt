-- The status of a decision (XACML 3.0, core, sections 5.54 and 5.55). Which of several faults is shown is this
-- project's choice: the first.
use Rattle.std.specs.Prelude.{if◌then◌else◌, not, List, [], ◌∷◌, map, filter, Option, Some, None, unwrap_or}
use Rattle.xa_expr.specs.declared.matching.Matching.{Matching}
use Rattle.xa_expr.specs.declared.matching.Matching.TheVariants.{Match, Indeterminate}
use Rattle.xa_expr.specs.Target.{is_match, is_no_match}
use Rattle.xa_expr.specs.Fault as expr
use Rattle.xa_func.specs.declared.status.Status.{Status}
use Rattle.xa_func.specs.declared.status.Status.TheVariants.{Ok, ProcessingError}
use Rattle.xa_policy.specs.declared.decision.Decision.{Decision}
use Rattle.xa_policy.specs.declared.verdict.Verdict.{Verdict}
use Rattle.xa_policy.specs.Combining.{is_indeterminate}

-- a child that was evaluated: what it gives, and what its target comes to
pub record EvaluatedChild : Type 0 where
  pub value : Verdict
  pub target : Matching

-- the status of an Indeterminate child
abbrev pub fault_of : EvaluatedChild → Option Status
fault_of child = if is_indeterminate child.value.decision then Some child.value.status else None

-- the status of the first fault among the children's; `ok` if there is none
abbrev pub first_fault : List (Option Status) → Status
first_fault [] = Ok
first_fault (fault ∷ faults) = unwrap_or fault (first_fault faults)

-- the status of a decision, by those of the children: of an Indeterminate that of the first that is, else `ok`
abbrev pub status_of : Decision → List (Option Status) → Status
status_of decision faults = if is_indeterminate decision then first_fault faults else Ok

-- what ends only-one-applicable early, by the targets that aren't No match: an Indeterminate one, or a second Match
abbrev pub end_of : List Matching → Option Status
end_of (Indeterminate fault ∷ _) = Some (expr.status_of fault)
end_of (Match ∷ Match ∷ _) = Some ProcessingError
end_of (Match ∷ Indeterminate fault ∷ _) = Some (expr.status_of fault)
end_of _ = None

-- the status of the one applicable child; `ok` if there is none
abbrev pub status_of_one : List EvaluatedChild → Status
status_of_one [] = Ok
status_of_one (child ∷ _) = child.value.status

-- the status under only-one-applicable: that of what ended it early, else that of the one applicable child
unfoldable pub only_one_status : List EvaluatedChild → Status
only_one_status children =
    let asked = filter (λ target. not (is_no_match target)) (map (λ child. child.target) children) in
    unwrap_or (end_of asked) (status_of_one (filter (λ child. is_match child.target) children))
