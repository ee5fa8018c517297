-- Combining algorithms (XACML 3.0, core, appendix C), each over all children.
use Rattle.std.specs.Prelude.{Bool, true, false, not, ◌&&◌, ◌||◌, if◌then◌else◌}
use Rattle.std.specs.Prelude.{List, [], ◌∷◌, map, filter, find, unwrap_or}
use Rattle.std.specs.List.{list_any}
use Rattle.xa_expr.specs.Target.{is_match}
use Rattle.xa_expr.specs.Target as target
use Rattle.xa_policy.specs.declared.combining.Alg.{Alg}
use Rattle.xa_policy.specs.declared.combining.Alg.TheVariants.{DenyOverrides, PermitOverrides, OrderedDenyOverrides}
use Rattle.xa_policy.specs.declared.combining.Alg.TheVariants.{OrderedPermitOverrides, DenyUnlessPermit}
use Rattle.xa_policy.specs.declared.combining.Alg.TheVariants.{PermitUnlessDeny, FirstApplicable, OnlyOneApplicable}
use Rattle.xa_policy.specs.declared.combining.Child.{Child}
use Rattle.xa_policy.specs.declared.decision.Decision.{Decision}
use Rattle.xa_policy.specs.declared.decision.Decision.TheVariants.{Permit, Deny, NotApplicable, IndeterminatePermit}
use Rattle.xa_policy.specs.declared.decision.Decision.TheVariants.{IndeterminateDeny, IndeterminateDenyPermit}

-- whether two decisions are the same
abbrev pub is : Decision → Decision → Bool
is Permit Permit = true
is Deny Deny = true
is NotApplicable NotApplicable = true
is IndeterminatePermit IndeterminatePermit = true
is IndeterminateDeny IndeterminateDeny = true
is IndeterminateDenyPermit IndeterminateDenyPermit = true
is _ _ = false

-- Indeterminate, whichever decision it could have been (C.1)
abbrev pub is_indeterminate : Decision → Bool
is_indeterminate IndeterminatePermit = true
is_indeterminate IndeterminateDeny = true
is_indeterminate IndeterminateDenyPermit = true
is_indeterminate _ = false

-- the decision of a child
abbrev pub decision_of : Child → Decision
decision_of child = child.decision

-- deny-overrides (C.2): the first line that fits
unfoldable pub deny_overrides : List Decision → Decision
deny_overrides decisions =
    let some : Decision → Bool = λ d. list_any (is d) decisions in
    if some Deny then Deny
    else if some IndeterminateDenyPermit then IndeterminateDenyPermit
    else if some IndeterminateDeny && (some IndeterminatePermit || some Permit) then IndeterminateDenyPermit
    else if some IndeterminateDeny then IndeterminateDeny
    else if some Permit then Permit
    else if some IndeterminatePermit then IndeterminatePermit
    else NotApplicable

-- permit-overrides (C.4): the first line that fits
unfoldable pub permit_overrides : List Decision → Decision
permit_overrides decisions =
    let some : Decision → Bool = λ d. list_any (is d) decisions in
    if some Permit then Permit
    else if some IndeterminateDenyPermit then IndeterminateDenyPermit
    else if some IndeterminatePermit && (some IndeterminateDeny || some Deny) then IndeterminateDenyPermit
    else if some IndeterminatePermit then IndeterminatePermit
    else if some Deny then Deny
    else if some IndeterminateDeny then IndeterminateDeny
    else NotApplicable

-- deny-unless-permit (C.6)
unfoldable pub deny_unless_permit : List Decision → Decision
deny_unless_permit decisions = if list_any (is Permit) decisions then Permit else Deny

-- permit-unless-deny (C.7)
unfoldable pub permit_unless_deny : List Decision → Decision
permit_unless_deny decisions = if list_any (is Deny) decisions then Deny else Permit

-- first-applicable (C.8): the first decision but NotApplicable. It doesn't track extended Indeterminates, so its own
-- is {DP} (C.1).
unfoldable pub first_applicable : List Decision → Decision
first_applicable decisions =
    let first = unwrap_or (find (λ d. not (is NotApplicable d)) decisions) NotApplicable in
    if is_indeterminate first then IndeterminateDenyPermit else first

-- whether a child's target is Match
abbrev pub applies : Child → Bool
applies child = is_match child.target

-- whether a child's target is Indeterminate
abbrev pub may_apply : Child → Bool
may_apply child = target.is_indeterminate child.target

-- the only decision of the applicable children (C.9), and {DP} if there are more (C.1). That the only one stays {P} or
-- {D} if it is that, which C.1 by itself would make {DP}, is this project's choice.
abbrev pub the_only_one : List Decision → Decision
the_only_one [] = NotApplicable
the_only_one (decision ∷ []) = decision
the_only_one _ = IndeterminateDenyPermit

-- only-one-applicable (C.9), by the targets. It doesn't track extended Indeterminates, so an Indeterminate target
-- gives {DP} (C.1).
unfoldable pub only_one_applicable : List Child → Decision
only_one_applicable children =
    if list_any may_apply children then IndeterminateDenyPermit
    else the_only_one (map decision_of (filter applies children))

-- the decision of a combining algorithm on the children
abbrev pub combined_decision : Alg → List Child → Decision
combined_decision DenyOverrides children = deny_overrides (map decision_of children)
combined_decision PermitOverrides children = permit_overrides (map decision_of children)
combined_decision OrderedDenyOverrides children = deny_overrides (map decision_of children)
combined_decision OrderedPermitOverrides children = permit_overrides (map decision_of children)
combined_decision DenyUnlessPermit children = deny_unless_permit (map decision_of children)
combined_decision PermitUnlessDeny children = permit_unless_deny (map decision_of children)
combined_decision FirstApplicable children = first_applicable (map decision_of children)
combined_decision OnlyOneApplicable children = only_one_applicable children
