-- The algorithms that prefer an effect, by that effect.
use Rattle.std.specs.Prelude.{List}
use Rattle.xa_policy.specs.declared.decision.Decision.{Decision}
use Rattle.xa_policy.specs.declared.decision.Effect.{Effect}
use Rattle.xa_policy.specs.declared.decision.Effect.TheVariants.{Permit, Deny}
use Rattle.xa_policy.specs.Combining.{deny_overrides, permit_overrides}

-- permit-overrides or deny-overrides
abbrev pub overrides : Effect → List Decision → Decision
overrides Permit = permit_overrides
overrides Deny = deny_overrides
