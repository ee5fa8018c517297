-- A child whose target doesn't match is passed: it isn't applicable, and such a child changes nothing.
use Rattle.std.proofs.Common.{◌≡◌, false, List, [], ◌∷◌, map, Option, Some, None, refl, ap, sym, subst, ◌∙◌}
use Rattle.std.specs.Option.{option_or}
use Rattle.xa_func.specs.declared.status.Status.{Status}
use Rattle.xa_expr.specs.declared.matching.Matching.TheVariants.{NoMatch}
use Rattle.xa_expr.specs.declared.typed.Typed.{Typed}
use Rattle.xa_expr.specs.declared.variables.Definition.{Definition}
use Rattle.xa_expr.specs.Evaluation.{Attributes}
use Rattle.xa_expr.specs.Target.{target_value}
use Rattle.xa_policy.specs.declared.combination.Combination.{Combination}
use Rattle.xa_policy.specs.declared.combining.Alg.{Alg}
use Rattle.xa_policy.specs.declared.combining.Alg.TheVariants.{DenyOverrides, PermitOverrides, OrderedDenyOverrides, OrderedPermitOverrides, DenyUnlessPermit, PermitUnlessDeny, FirstApplicable, OnlyOneApplicable}
use Rattle.xa_policy.specs.declared.decision.Decision.{Decision}
use Rattle.xa_policy.specs.declared.decision.Decision.TheVariants.{Permit, Deny, NotApplicable, IndeterminatePermit, IndeterminateDeny, IndeterminateDenyPermit}
use Rattle.xa_policy.specs.declared.linked.Linked.{Linked}
use Rattle.xa_policy.specs.declared.linked.Linked.TheFolds.{fold-roll-Linked, map-Linked, ind-Linked}
use Rattle.xa_policy.specs.declared.linked.Linked.TheOpen.{Linked-F}
use Rattle.xa_policy.specs.declared.rule.Rule.{Rule}
use Rattle.xa_policy.specs.declared.verdict.Verdict.{Verdict}
use Rattle.xa_policy.specs.Combining.{deny_overrides, permit_overrides}
use Rattle.xa_policy.specs.Evaluation.{ends, evaluated, linked_step, rule_child}
use Rattle.xa_policy.specs.Mirror.{mirrored}
use Rattle.xa_policy.specs.Status.{EvaluatedChild}
use Rattle.xa_policy.specs.walking.Walk.{joined_decision, walked}
use Rattle.xa_policy.proofs.MirrorLemmas.{mirrored_twice, permit_overrides_mirrors}

-- it ends nothing
pub goes_on : (a : Alg) → ends a NotApplicable ≡ false
goes_on DenyOverrides = refl
goes_on PermitOverrides = refl
goes_on OrderedDenyOverrides = refl
goes_on OrderedPermitOverrides = refl
goes_on DenyUnlessPermit = refl
goes_on PermitUnlessDeny = refl
goes_on FirstApplicable = refl
goes_on OnlyOneApplicable = refl

-- and leaves the decision as it is
denied : (d : Decision) → deny_overrides (d ∷ NotApplicable ∷ []) ≡ d
unfolding deny_overrides
denied Permit = refl
denied Deny = refl
denied NotApplicable = refl
denied IndeterminatePermit = refl
denied IndeterminateDeny = refl
denied IndeterminateDenyPermit = refl

permitted : (d : Decision) → permit_overrides (d ∷ NotApplicable ∷ []) ≡ d
permitted d = permit_overrides_mirrors (d ∷ NotApplicable ∷ []) ∙ ap mirrored (denied (mirrored d)) ∙ mirrored_twice d

decided_before : (a : Alg) (d : Decision) → joined_decision a d NotApplicable ≡ d
decided_before DenyOverrides d = denied d
decided_before PermitOverrides d = permitted d
decided_before OrderedDenyOverrides d = denied d
decided_before OrderedPermitOverrides d = permitted d
decided_before DenyUnlessPermit d = refl
decided_before PermitUnlessDeny d = refl
decided_before FirstApplicable d = refl
decided_before OnlyOneApplicable d = refl

first_fault : (fault : Option Status) → option_or fault None ≡ fault
first_fault None = refl
first_fault (Some s) = refl

pub walked_past : (s : Combination) (c : EvaluatedChild) (children : List EvaluatedChild) → c.value.decision ≡ NotApplicable → walked s (c ∷ children) ≡ walked s children
walked_past s c children h = rw (h, goes_on s.algorithm, decided_before s.algorithm s.decision, first_fault s.fault) refl

-- a rule, and a tree, whose target doesn't match
pub rule_past : (values_of : Attributes) (variables : List Definition) (rule : Rule Typed) → target_value values_of rule.target ≡ NoMatch →
    (rule_child values_of variables rule).value.decision ≡ NotApplicable
rule_past values_of variables rule h = rw h refl

pub layer_past : (values_of : Attributes) (x : Linked-F EvaluatedChild) → (linked_step values_of x).target ≡ NoMatch → (linked_step values_of x).value.decision ≡ NotApplicable
layer_past values_of Linked-F.Unresolved h = absurd cc
layer_past values_of (Linked-F.Policy policy) h = rw h refl
layer_past values_of (Linked-F.PolicySet set children) h = rw h refl

abbrev IsPast : EvaluatedChild → Type 0
IsPast c = c.target ≡ NoMatch → c.value.decision ≡ NotApplicable

pub linked_past : (values_of : Attributes) (linked : Linked) → IsPast (evaluated values_of linked)
linked_past values_of = ind-Linked (λ linked. IsPast (evaluated values_of linked)) (λ x y is.
    subst IsPast (sym (fold-roll-Linked EvaluatedChild (linked_step values_of) x))
    (layer_past values_of (map-Linked Linked EvaluatedChild (evaluated values_of) x)))

-- the others behind it come to the same
pub passed : {X : Type 0} (v : X → EvaluatedChild) (s : Combination) (xs rest : List X) (x : X) (whole : Verdict)
    → xs ≡ x ∷ rest → (v x).value.decision ≡ NotApplicable → walked s (map v xs) ≡ whole → walked s (map v rest) ≡ whole
passed v s xs rest x whole at h so_far = sym (walked_past s (v x) (map v rest) h) ∙ ap (λ ys. walked s (map v ys)) (sym at) ∙ so_far
