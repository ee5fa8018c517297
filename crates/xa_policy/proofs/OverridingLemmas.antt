-- What the walk over the children goes by, in the algorithms that prefer an effect.
use Rattle.std.proofs.Common.{◌≡◌, true, false, List, [], ◌∷◌, map, refl, ap, sym, ◌∙◌}
use Rattle.xa_policy.specs.declared.decision.Decision.{Decision}
use Rattle.xa_policy.specs.declared.decision.Decision.TheVariants.{Permit, Deny, NotApplicable, IndeterminatePermit, IndeterminateDeny, IndeterminateDenyPermit}
use Rattle.xa_policy.specs.declared.decision.Effect.{Effect}
use Rattle.xa_policy.specs.declared.decision.Effect.TheVariants as effect
use Rattle.xa_policy.specs.Combining.{is, deny_overrides, permit_overrides, deny_unless_permit, permit_unless_deny}
use Rattle.xa_policy.specs.Mirror.{mirrored}
use Rattle.xa_policy.specs.Effect.{decision_with}
use Rattle.xa_policy.specs.Overriding.{overrides}
use Rattle.xa_policy.proofs.CombiningLemmas.{deny_overrides_joined, deny_overrides_single}
use Rattle.xa_policy.proofs.MirrorLemmas.{mirrored_twice, permit_overrides_mirrors}

permit_overrides_joined : (a b : Decision) (ds : List Decision) →
    permit_overrides (a ∷ b ∷ ds) ≡ permit_overrides (permit_overrides (a ∷ b ∷ []) ∷ ds)
permit_overrides_joined a b ds =
    let both = deny_overrides (mirrored a ∷ mirrored b ∷ []) in
    permit_overrides_mirrors (a ∷ b ∷ ds)
    ∙ ap mirrored (deny_overrides_joined (mirrored a) (mirrored b) (map mirrored ds))
    ∙ ap (λ d. mirrored (deny_overrides (d ∷ map mirrored ds))) (sym (mirrored_twice both))
    ∙ sym (permit_overrides_mirrors (mirrored both ∷ ds))
    ∙ ap (λ d. permit_overrides (d ∷ ds)) (sym (permit_overrides_mirrors (a ∷ b ∷ [])))

pub overrides_joined : (e : Effect) (a b : Decision) (ds : List Decision) → overrides e (a ∷ b ∷ ds) ≡ overrides e (overrides e (a ∷ b ∷ []) ∷ ds)
overrides_joined effect.Permit a b ds = permit_overrides_joined a b ds
overrides_joined effect.Deny a b ds = deny_overrides_joined a b ds

permit_overrides_single : (d : Decision) → permit_overrides (d ∷ []) ≡ d
permit_overrides_single d = permit_overrides_mirrors (d ∷ []) ∙ ap mirrored (deny_overrides_single (mirrored d)) ∙ mirrored_twice d

pub overrides_single : (e : Effect) (d : Decision) → overrides e (d ∷ []) ≡ d
overrides_single effect.Permit d = permit_overrides_single d
overrides_single effect.Deny d = deny_overrides_single d

-- deny-unless-permit, and its mirror
abbrev pub otherwise : Effect → List Decision → Decision
otherwise effect.Permit = deny_unless_permit
otherwise effect.Deny = permit_unless_deny

pub otherwise_passed : (e : Effect) (d : Decision) (ds : List Decision) → is (decision_with e) d ≡ false → otherwise e (d ∷ ds) ≡ otherwise e ds
unfolding deny_unless_permit permit_unless_deny
otherwise_passed effect.Permit Permit ds h = cc
otherwise_passed effect.Permit Deny ds h = refl
otherwise_passed effect.Permit NotApplicable ds h = refl
otherwise_passed effect.Permit IndeterminatePermit ds h = refl
otherwise_passed effect.Permit IndeterminateDeny ds h = refl
otherwise_passed effect.Permit IndeterminateDenyPermit ds h = refl
otherwise_passed effect.Deny Permit ds h = refl
otherwise_passed effect.Deny Deny ds h = cc
otherwise_passed effect.Deny NotApplicable ds h = refl
otherwise_passed effect.Deny IndeterminatePermit ds h = refl
otherwise_passed effect.Deny IndeterminateDeny ds h = refl
otherwise_passed effect.Deny IndeterminateDenyPermit ds h = refl

pub otherwise_none : (e : Effect) → otherwise e [] ≡ mirrored (decision_with e)
unfolding deny_unless_permit permit_unless_deny
otherwise_none effect.Permit = refl
otherwise_none effect.Deny = refl
