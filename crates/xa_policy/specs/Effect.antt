-- Effects as decisions (XACML 3.0, core, sections 5.22, 5.53 and 7.10).
use Rattle.xa_policy.specs.declared.decision.Decision.{Decision}
use Rattle.xa_policy.specs.declared.decision.Decision.TheVariants as decision
use Rattle.xa_policy.specs.declared.decision.Effect.{Effect}
use Rattle.xa_policy.specs.declared.decision.Effect.TheVariants.{Permit, Deny}

-- the decision of an effect
abbrev pub decision_with : Effect → Decision
decision_with Permit = decision.Permit
decision_with Deny = decision.Deny

-- the effect left open: {P} of Permit, {D} of Deny
abbrev pub decision_left_open : Effect → Decision
decision_left_open Permit = decision.IndeterminatePermit
decision_left_open Deny = decision.IndeterminateDeny
