-- Permit and Deny exchanged.
use Rattle.std.specs.Prelude.{◌≡◌, List, map}
use Rattle.xa_policy.specs.declared.combining.Alg.{Alg}
use Rattle.xa_policy.specs.declared.combining.Child.{Child}
use Rattle.xa_policy.specs.declared.decision.Decision.{Decision}
use Rattle.xa_policy.specs.declared.decision.Decision.TheVariants.{Permit, Deny, NotApplicable, IndeterminatePermit}
use Rattle.xa_policy.specs.declared.decision.Decision.TheVariants.{IndeterminateDeny, IndeterminateDenyPermit}
use Rattle.xa_policy.specs.Combining.{combined_decision}

-- the decision with Permit and Deny exchanged
abbrev pub mirrored : Decision → Decision
mirrored Permit = Deny
mirrored Deny = Permit
mirrored NotApplicable = NotApplicable
mirrored IndeterminatePermit = IndeterminateDeny
mirrored IndeterminateDeny = IndeterminatePermit
mirrored IndeterminateDenyPermit = IndeterminateDenyPermit

-- the child with Permit and Deny exchanged in its decision
abbrev pub mirrored_child : Child → Child
mirrored_child child = record { decision = mirrored child.decision; target = child.target }

-- an algorithm is another with Permit and Deny exchanged, in the children and in what it makes of them
abbrev pub Mirrors : Alg → Alg → List Child → Type 0
Mirrors algorithm other children =
    combined_decision algorithm children ≡ mirrored (combined_decision other (map mirrored_child children))
