-- What the walk over the children goes by under first-applicable.
use Rattle.std.proofs.Common.{◌≡◌, true, false, not, List, [], ◌∷◌, refl}
use Rattle.std.specs.Prelude.{if◌then◌else◌}
use Rattle.xa_policy.specs.declared.decision.Decision.{Decision}
use Rattle.xa_policy.specs.declared.decision.Decision.TheVariants.{Permit, Deny, NotApplicable, IndeterminatePermit, IndeterminateDeny, IndeterminateDenyPermit}
use Rattle.xa_policy.specs.Combining.{is, is_indeterminate, first_applicable}

pub first_applicable_settled : (d : Decision) (ds : List Decision) → not (is NotApplicable d) ≡ true → first_applicable (d ∷ ds) ≡ first_applicable (d ∷ [])
unfolding first_applicable
first_applicable_settled Permit ds h = refl
first_applicable_settled Deny ds h = refl
first_applicable_settled NotApplicable ds h = cc
first_applicable_settled IndeterminatePermit ds h = refl
first_applicable_settled IndeterminateDeny ds h = refl
first_applicable_settled IndeterminateDenyPermit ds h = refl

pub first_applicable_passed : (d : Decision) (ds : List Decision) → not (is NotApplicable d) ≡ false → first_applicable (d ∷ ds) ≡ first_applicable ds
unfolding first_applicable
first_applicable_passed Permit ds h = cc
first_applicable_passed Deny ds h = cc
first_applicable_passed NotApplicable ds h = refl
first_applicable_passed IndeterminatePermit ds h = cc
first_applicable_passed IndeterminateDeny ds h = cc
first_applicable_passed IndeterminateDenyPermit ds h = cc

-- of one decision
pub first_applicable_alone : (d : Decision) → first_applicable (d ∷ []) ≡ (if is_indeterminate d then IndeterminateDenyPermit else d)
unfolding first_applicable
first_applicable_alone Permit = refl
first_applicable_alone Deny = refl
first_applicable_alone NotApplicable = refl
first_applicable_alone IndeterminatePermit = refl
first_applicable_alone IndeterminateDeny = refl
first_applicable_alone IndeterminateDenyPermit = refl

pub first_applicable_none : first_applicable [] ≡ NotApplicable
unfolding first_applicable
first_applicable_none = refl
