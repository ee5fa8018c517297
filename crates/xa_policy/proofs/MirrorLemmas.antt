-- Permit-overrides is the mirror of deny-overrides, and permit-unless-deny of deny-unless-permit.
use Rattle.std.proofs.Common.{◌≡◌, Bool, true, false, ◌&&◌, ◌||◌, List, [], ◌∷◌, map, refl, ap, sym, ◌∙◌}
use Rattle.std.specs.Prelude.{if◌then◌else◌}
use Rattle.xa_policy.specs.declared.decision.Decision.{Decision}
use Rattle.xa_policy.specs.declared.decision.Decision.TheVariants.{Permit, Deny, NotApplicable, IndeterminatePermit, IndeterminateDeny, IndeterminateDenyPermit}
use Rattle.xa_policy.specs.declared.combining.Alg.TheVariants.{DenyOverrides, PermitOverrides, DenyUnlessPermit, PermitUnlessDeny}
use Rattle.xa_policy.specs.declared.combining.Child.{Child}
use Rattle.xa_policy.specs.Combining.{is, decision_of, deny_overrides, permit_overrides, deny_unless_permit, permit_unless_deny}
use Rattle.xa_policy.specs.Mirror.{mirrored, mirrored_child, Mirrors}
use Rattle.xa_policy.proofs.CombiningLemmas.{some, lines}

pub mirrored_twice : (d : Decision) → mirrored (mirrored d) ≡ d
mirrored_twice Permit = refl
mirrored_twice Deny = refl
mirrored_twice NotApplicable = refl
mirrored_twice IndeterminatePermit = refl
mirrored_twice IndeterminateDeny = refl
mirrored_twice IndeterminateDenyPermit = refl

-- one decision is another's mirror where the other is its own
is_mirrored : (d e : Decision) → is d (mirrored e) ≡ is (mirrored d) e
is_mirrored Permit Permit = refl
is_mirrored Permit Deny = refl
is_mirrored Permit NotApplicable = refl
is_mirrored Permit IndeterminatePermit = refl
is_mirrored Permit IndeterminateDeny = refl
is_mirrored Permit IndeterminateDenyPermit = refl
is_mirrored Deny Permit = refl
is_mirrored Deny Deny = refl
is_mirrored Deny NotApplicable = refl
is_mirrored Deny IndeterminatePermit = refl
is_mirrored Deny IndeterminateDeny = refl
is_mirrored Deny IndeterminateDenyPermit = refl
is_mirrored NotApplicable Permit = refl
is_mirrored NotApplicable Deny = refl
is_mirrored NotApplicable NotApplicable = refl
is_mirrored NotApplicable IndeterminatePermit = refl
is_mirrored NotApplicable IndeterminateDeny = refl
is_mirrored NotApplicable IndeterminateDenyPermit = refl
is_mirrored IndeterminatePermit Permit = refl
is_mirrored IndeterminatePermit Deny = refl
is_mirrored IndeterminatePermit NotApplicable = refl
is_mirrored IndeterminatePermit IndeterminatePermit = refl
is_mirrored IndeterminatePermit IndeterminateDeny = refl
is_mirrored IndeterminatePermit IndeterminateDenyPermit = refl
is_mirrored IndeterminateDeny Permit = refl
is_mirrored IndeterminateDeny Deny = refl
is_mirrored IndeterminateDeny NotApplicable = refl
is_mirrored IndeterminateDeny IndeterminatePermit = refl
is_mirrored IndeterminateDeny IndeterminateDeny = refl
is_mirrored IndeterminateDeny IndeterminateDenyPermit = refl
is_mirrored IndeterminateDenyPermit Permit = refl
is_mirrored IndeterminateDenyPermit Deny = refl
is_mirrored IndeterminateDenyPermit NotApplicable = refl
is_mirrored IndeterminateDenyPermit IndeterminatePermit = refl
is_mirrored IndeterminateDenyPermit IndeterminateDeny = refl
is_mirrored IndeterminateDenyPermit IndeterminateDenyPermit = refl

some_mirrored : (d : Decision) (ds : List Decision) → some d (map mirrored ds) ≡ some (mirrored d) ds
some_mirrored d [] = refl
some_mirrored d (e ∷ ds) = rw (is_mirrored d e, some_mirrored d ds) refl

-- the lines of permit-overrides, by whether there is a Permit, a {DP}, a {P}, a {D}, a Deny
abbrev permit_lines : Bool → Bool → Bool → Bool → Bool → Decision
permit_lines permit deny_permit if_permit if_deny deny =
    if permit then Permit
    else if deny_permit then IndeterminateDenyPermit
    else if if_permit && (if_deny || deny) then IndeterminateDenyPermit
    else if if_permit then IndeterminatePermit
    else if deny then Deny
    else if if_deny then IndeterminateDeny
    else NotApplicable

lines_mirrored : (n dp d p per : Bool) → permit_lines n dp d p per ≡ mirrored (lines n dp d p per)
lines_mirrored true _ _ _ _ = refl
lines_mirrored false true _ _ _ = refl
lines_mirrored false false true true _ = refl
lines_mirrored false false true false true = refl
lines_mirrored false false true false false = refl
lines_mirrored false false false _ true = refl
lines_mirrored false false false true false = refl
lines_mirrored false false false false false = refl

pub permit_overrides_mirrors : (ds : List Decision) → permit_overrides ds ≡ mirrored (deny_overrides (map mirrored ds))
unfolding deny_overrides permit_overrides
permit_overrides_mirrors ds =
    rw (some_mirrored Deny ds, some_mirrored IndeterminateDenyPermit ds, some_mirrored IndeterminateDeny ds, some_mirrored IndeterminatePermit ds, some_mirrored Permit ds)
    (lines_mirrored (some Permit ds) (some IndeterminateDenyPermit ds) (some IndeterminatePermit ds) (some IndeterminateDeny ds) (some Deny ds))

unless_mirrored : (b : Bool) → (if b then Deny else Permit) ≡ mirrored (if b then Permit else Deny)
unless_mirrored true = refl
unless_mirrored false = refl

pub permit_unless_deny_mirrors : (ds : List Decision) → permit_unless_deny ds ≡ mirrored (deny_unless_permit (map mirrored ds))
unfolding deny_unless_permit permit_unless_deny
permit_unless_deny_mirrors ds = rw (some_mirrored Permit ds) (unless_mirrored (some Deny ds))

decisions_mirrored : (cs : List Child) → map decision_of (map mirrored_child cs) ≡ map mirrored (map decision_of cs)
decisions_mirrored [] = refl
decisions_mirrored (c ∷ cs) = ap (λ ds. mirrored c.decision ∷ ds) (decisions_mirrored cs)

pub permit_overrides_law : (cs : List Child) → Mirrors PermitOverrides DenyOverrides cs
permit_overrides_law cs = permit_overrides_mirrors (map decision_of cs) ∙ ap (λ ds. mirrored (deny_overrides ds)) (sym (decisions_mirrored cs))

pub permit_unless_deny_law : (cs : List Child) → Mirrors PermitUnlessDeny DenyUnlessPermit cs
permit_unless_deny_law cs = permit_unless_deny_mirrors (map decision_of cs) ∙ ap (λ ds. mirrored (deny_unless_permit ds)) (sym (decisions_mirrored cs))
