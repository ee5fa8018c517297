-- Deny-overrides of the children so far stands for them in front of the rest.
use Rattle.std.proofs.Common.{◌≡◌, Bool, true, false, ◌&&◌, ◌||◌, List, [], ◌∷◌, refl}
use Rattle.std.specs.Prelude.{if◌then◌else◌}
use Rattle.std.specs.List.{list_any}
use Rattle.xa_policy.specs.declared.decision.Decision.{Decision}
use Rattle.xa_policy.specs.declared.decision.Decision.TheVariants.{Permit, Deny, NotApplicable, IndeterminatePermit, IndeterminateDeny, IndeterminateDenyPermit}
use Rattle.xa_policy.specs.Combining.{is, deny_overrides}

-- some of the decisions is this one
abbrev pub some : Decision → List Decision → Bool
some decision among = list_any (is decision) among

-- the lines of deny-overrides, by whether there is a Deny, a {DP}, a {D}, a {P}, a Permit
abbrev pub lines : Bool → Bool → Bool → Bool → Bool → Decision
lines deny deny_permit if_deny if_permit permit =
    if deny then Deny
    else if deny_permit then IndeterminateDenyPermit
    else if if_deny && (if_permit || permit) then IndeterminateDenyPermit
    else if if_deny then IndeterminateDeny
    else if permit then Permit
    else if if_permit then IndeterminatePermit
    else NotApplicable

-- the lines, where these decisions stand in front of others
abbrev lines_after : List Decision → Bool → Bool → Bool → Bool → Bool → Decision
lines_after front deny deny_permit if_deny if_permit permit =
    lines (some Deny front || deny) (some IndeterminateDenyPermit front || deny_permit) (some IndeterminateDeny front || if_deny)
    (some IndeterminatePermit front || if_permit) (some Permit front || permit)

lines_joined : (a b : Decision) (n dp d p per : Bool) →
    lines_after (a ∷ b ∷ []) n dp d p per ≡ lines_after (deny_overrides (a ∷ b ∷ []) ∷ []) n dp d p per
unfolding deny_overrides
lines_joined Permit Permit _ _ _ _ _ = refl
lines_joined Permit Deny _ _ _ _ _ = refl
lines_joined Permit NotApplicable _ _ _ _ _ = refl
lines_joined Permit IndeterminatePermit _ _ _ true _ = refl
lines_joined Permit IndeterminatePermit _ _ _ false _ = refl
lines_joined Permit IndeterminateDeny _ true _ _ _ = refl
lines_joined Permit IndeterminateDeny _ false _ true _ = refl
lines_joined Permit IndeterminateDeny _ false _ false _ = refl
lines_joined Permit IndeterminateDenyPermit _ _ _ _ _ = refl
lines_joined Deny Permit _ _ _ _ _ = refl
lines_joined Deny Deny _ _ _ _ _ = refl
lines_joined Deny NotApplicable _ _ _ _ _ = refl
lines_joined Deny IndeterminatePermit _ _ _ _ _ = refl
lines_joined Deny IndeterminateDeny _ _ _ _ _ = refl
lines_joined Deny IndeterminateDenyPermit _ _ _ _ _ = refl
lines_joined NotApplicable Permit _ _ _ _ _ = refl
lines_joined NotApplicable Deny _ _ _ _ _ = refl
lines_joined NotApplicable NotApplicable _ _ _ _ _ = refl
lines_joined NotApplicable IndeterminatePermit _ _ _ _ _ = refl
lines_joined NotApplicable IndeterminateDeny _ _ _ _ _ = refl
lines_joined NotApplicable IndeterminateDenyPermit _ _ _ _ _ = refl
lines_joined IndeterminatePermit Permit _ _ _ true _ = refl
lines_joined IndeterminatePermit Permit _ _ _ false _ = refl
lines_joined IndeterminatePermit Deny _ _ _ _ _ = refl
lines_joined IndeterminatePermit NotApplicable _ _ _ _ _ = refl
lines_joined IndeterminatePermit IndeterminatePermit _ _ _ _ _ = refl
lines_joined IndeterminatePermit IndeterminateDeny _ true _ _ _ = refl
lines_joined IndeterminatePermit IndeterminateDeny _ false _ _ _ = refl
lines_joined IndeterminatePermit IndeterminateDenyPermit _ _ _ _ _ = refl
lines_joined IndeterminateDeny Permit _ true _ _ _ = refl
lines_joined IndeterminateDeny Permit _ false _ true _ = refl
lines_joined IndeterminateDeny Permit _ false _ false _ = refl
lines_joined IndeterminateDeny Deny _ _ _ _ _ = refl
lines_joined IndeterminateDeny NotApplicable _ _ _ _ _ = refl
lines_joined IndeterminateDeny IndeterminatePermit _ true _ _ _ = refl
lines_joined IndeterminateDeny IndeterminatePermit _ false _ _ _ = refl
lines_joined IndeterminateDeny IndeterminateDeny _ _ _ _ _ = refl
lines_joined IndeterminateDeny IndeterminateDenyPermit _ _ _ _ _ = refl
lines_joined IndeterminateDenyPermit Permit _ _ _ _ _ = refl
lines_joined IndeterminateDenyPermit Deny _ _ _ _ _ = refl
lines_joined IndeterminateDenyPermit NotApplicable _ _ _ _ _ = refl
lines_joined IndeterminateDenyPermit IndeterminatePermit _ _ _ _ _ = refl
lines_joined IndeterminateDenyPermit IndeterminateDeny _ _ _ _ _ = refl
lines_joined IndeterminateDenyPermit IndeterminateDenyPermit _ _ _ _ _ = refl

pub deny_overrides_single : (d : Decision) → deny_overrides (d ∷ []) ≡ d
unfolding deny_overrides
deny_overrides_single Permit = refl
deny_overrides_single Deny = refl
deny_overrides_single NotApplicable = refl
deny_overrides_single IndeterminatePermit = refl
deny_overrides_single IndeterminateDeny = refl
deny_overrides_single IndeterminateDenyPermit = refl

pub deny_overrides_joined : (a b : Decision) (ds : List Decision) →
    deny_overrides (a ∷ b ∷ ds) ≡ deny_overrides (deny_overrides (a ∷ b ∷ []) ∷ ds)
unfolding deny_overrides
deny_overrides_joined Permit Permit ds = lines_joined Permit Permit (some Deny ds) (some IndeterminateDenyPermit ds) (some IndeterminateDeny ds) (some IndeterminatePermit ds) (some Permit ds)
deny_overrides_joined Permit Deny ds = lines_joined Permit Deny (some Deny ds) (some IndeterminateDenyPermit ds) (some IndeterminateDeny ds) (some IndeterminatePermit ds) (some Permit ds)
deny_overrides_joined Permit NotApplicable ds = lines_joined Permit NotApplicable (some Deny ds) (some IndeterminateDenyPermit ds) (some IndeterminateDeny ds) (some IndeterminatePermit ds) (some Permit ds)
deny_overrides_joined Permit IndeterminatePermit ds = lines_joined Permit IndeterminatePermit (some Deny ds) (some IndeterminateDenyPermit ds) (some IndeterminateDeny ds) (some IndeterminatePermit ds) (some Permit ds)
deny_overrides_joined Permit IndeterminateDeny ds = lines_joined Permit IndeterminateDeny (some Deny ds) (some IndeterminateDenyPermit ds) (some IndeterminateDeny ds) (some IndeterminatePermit ds) (some Permit ds)
deny_overrides_joined Permit IndeterminateDenyPermit ds = lines_joined Permit IndeterminateDenyPermit (some Deny ds) (some IndeterminateDenyPermit ds) (some IndeterminateDeny ds) (some IndeterminatePermit ds) (some Permit ds)
deny_overrides_joined Deny Permit ds = lines_joined Deny Permit (some Deny ds) (some IndeterminateDenyPermit ds) (some IndeterminateDeny ds) (some IndeterminatePermit ds) (some Permit ds)
deny_overrides_joined Deny Deny ds = lines_joined Deny Deny (some Deny ds) (some IndeterminateDenyPermit ds) (some IndeterminateDeny ds) (some IndeterminatePermit ds) (some Permit ds)
deny_overrides_joined Deny NotApplicable ds = lines_joined Deny NotApplicable (some Deny ds) (some IndeterminateDenyPermit ds) (some IndeterminateDeny ds) (some IndeterminatePermit ds) (some Permit ds)
deny_overrides_joined Deny IndeterminatePermit ds = lines_joined Deny IndeterminatePermit (some Deny ds) (some IndeterminateDenyPermit ds) (some IndeterminateDeny ds) (some IndeterminatePermit ds) (some Permit ds)
deny_overrides_joined Deny IndeterminateDeny ds = lines_joined Deny IndeterminateDeny (some Deny ds) (some IndeterminateDenyPermit ds) (some IndeterminateDeny ds) (some IndeterminatePermit ds) (some Permit ds)
deny_overrides_joined Deny IndeterminateDenyPermit ds = lines_joined Deny IndeterminateDenyPermit (some Deny ds) (some IndeterminateDenyPermit ds) (some IndeterminateDeny ds) (some IndeterminatePermit ds) (some Permit ds)
deny_overrides_joined NotApplicable Permit ds = lines_joined NotApplicable Permit (some Deny ds) (some IndeterminateDenyPermit ds) (some IndeterminateDeny ds) (some IndeterminatePermit ds) (some Permit ds)
deny_overrides_joined NotApplicable Deny ds = lines_joined NotApplicable Deny (some Deny ds) (some IndeterminateDenyPermit ds) (some IndeterminateDeny ds) (some IndeterminatePermit ds) (some Permit ds)
deny_overrides_joined NotApplicable NotApplicable ds = lines_joined NotApplicable NotApplicable (some Deny ds) (some IndeterminateDenyPermit ds) (some IndeterminateDeny ds) (some IndeterminatePermit ds) (some Permit ds)
deny_overrides_joined NotApplicable IndeterminatePermit ds = lines_joined NotApplicable IndeterminatePermit (some Deny ds) (some IndeterminateDenyPermit ds) (some IndeterminateDeny ds) (some IndeterminatePermit ds) (some Permit ds)
deny_overrides_joined NotApplicable IndeterminateDeny ds = lines_joined NotApplicable IndeterminateDeny (some Deny ds) (some IndeterminateDenyPermit ds) (some IndeterminateDeny ds) (some IndeterminatePermit ds) (some Permit ds)
deny_overrides_joined NotApplicable IndeterminateDenyPermit ds = lines_joined NotApplicable IndeterminateDenyPermit (some Deny ds) (some IndeterminateDenyPermit ds) (some IndeterminateDeny ds) (some IndeterminatePermit ds) (some Permit ds)
deny_overrides_joined IndeterminatePermit Permit ds = lines_joined IndeterminatePermit Permit (some Deny ds) (some IndeterminateDenyPermit ds) (some IndeterminateDeny ds) (some IndeterminatePermit ds) (some Permit ds)
deny_overrides_joined IndeterminatePermit Deny ds = lines_joined IndeterminatePermit Deny (some Deny ds) (some IndeterminateDenyPermit ds) (some IndeterminateDeny ds) (some IndeterminatePermit ds) (some Permit ds)
deny_overrides_joined IndeterminatePermit NotApplicable ds = lines_joined IndeterminatePermit NotApplicable (some Deny ds) (some IndeterminateDenyPermit ds) (some IndeterminateDeny ds) (some IndeterminatePermit ds) (some Permit ds)
deny_overrides_joined IndeterminatePermit IndeterminatePermit ds = lines_joined IndeterminatePermit IndeterminatePermit (some Deny ds) (some IndeterminateDenyPermit ds) (some IndeterminateDeny ds) (some IndeterminatePermit ds) (some Permit ds)
deny_overrides_joined IndeterminatePermit IndeterminateDeny ds = lines_joined IndeterminatePermit IndeterminateDeny (some Deny ds) (some IndeterminateDenyPermit ds) (some IndeterminateDeny ds) (some IndeterminatePermit ds) (some Permit ds)
deny_overrides_joined IndeterminatePermit IndeterminateDenyPermit ds = lines_joined IndeterminatePermit IndeterminateDenyPermit (some Deny ds) (some IndeterminateDenyPermit ds) (some IndeterminateDeny ds) (some IndeterminatePermit ds) (some Permit ds)
deny_overrides_joined IndeterminateDeny Permit ds = lines_joined IndeterminateDeny Permit (some Deny ds) (some IndeterminateDenyPermit ds) (some IndeterminateDeny ds) (some IndeterminatePermit ds) (some Permit ds)
deny_overrides_joined IndeterminateDeny Deny ds = lines_joined IndeterminateDeny Deny (some Deny ds) (some IndeterminateDenyPermit ds) (some IndeterminateDeny ds) (some IndeterminatePermit ds) (some Permit ds)
deny_overrides_joined IndeterminateDeny NotApplicable ds = lines_joined IndeterminateDeny NotApplicable (some Deny ds) (some IndeterminateDenyPermit ds) (some IndeterminateDeny ds) (some IndeterminatePermit ds) (some Permit ds)
deny_overrides_joined IndeterminateDeny IndeterminatePermit ds = lines_joined IndeterminateDeny IndeterminatePermit (some Deny ds) (some IndeterminateDenyPermit ds) (some IndeterminateDeny ds) (some IndeterminatePermit ds) (some Permit ds)
deny_overrides_joined IndeterminateDeny IndeterminateDeny ds = lines_joined IndeterminateDeny IndeterminateDeny (some Deny ds) (some IndeterminateDenyPermit ds) (some IndeterminateDeny ds) (some IndeterminatePermit ds) (some Permit ds)
deny_overrides_joined IndeterminateDeny IndeterminateDenyPermit ds = lines_joined IndeterminateDeny IndeterminateDenyPermit (some Deny ds) (some IndeterminateDenyPermit ds) (some IndeterminateDeny ds) (some IndeterminatePermit ds) (some Permit ds)
deny_overrides_joined IndeterminateDenyPermit Permit ds = lines_joined IndeterminateDenyPermit Permit (some Deny ds) (some IndeterminateDenyPermit ds) (some IndeterminateDeny ds) (some IndeterminatePermit ds) (some Permit ds)
deny_overrides_joined IndeterminateDenyPermit Deny ds = lines_joined IndeterminateDenyPermit Deny (some Deny ds) (some IndeterminateDenyPermit ds) (some IndeterminateDeny ds) (some IndeterminatePermit ds) (some Permit ds)
deny_overrides_joined IndeterminateDenyPermit NotApplicable ds = lines_joined IndeterminateDenyPermit NotApplicable (some Deny ds) (some IndeterminateDenyPermit ds) (some IndeterminateDeny ds) (some IndeterminatePermit ds) (some Permit ds)
deny_overrides_joined IndeterminateDenyPermit IndeterminatePermit ds = lines_joined IndeterminateDenyPermit IndeterminatePermit (some Deny ds) (some IndeterminateDenyPermit ds) (some IndeterminateDeny ds) (some IndeterminatePermit ds) (some Permit ds)
deny_overrides_joined IndeterminateDenyPermit IndeterminateDeny ds = lines_joined IndeterminateDenyPermit IndeterminateDeny (some Deny ds) (some IndeterminateDenyPermit ds) (some IndeterminateDeny ds) (some IndeterminatePermit ds) (some Permit ds)
deny_overrides_joined IndeterminateDenyPermit IndeterminateDenyPermit ds = lines_joined IndeterminateDenyPermit IndeterminateDenyPermit (some Deny ds) (some IndeterminateDenyPermit ds) (some IndeterminateDeny ds) (some IndeterminatePermit ds) (some Permit ds)
