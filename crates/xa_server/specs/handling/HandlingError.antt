-- Why a message isn't answered with success.
use Rattle.xa_value.specs.declared.or_memory.OrMemory.{OrMemory}
use Rattle.xa_value.specs.declared.or_memory.OrMemory.TheVariants as or_memory
use Rattle.xa_http.specs.declared.route.RouteFault.{RouteFault}
use Rattle.xa_notation.specs.declared.notation_error.NotationError.{NotationError}
use Rattle.xa_records.specs.declared.refusal.ChangeError.{ChangeError}
use Rattle.xa_records.specs.declared.refusal.ChangeError.TheVariants as change
use Rattle.xa_records.specs.declared.refusal.Failure.TheVariants.{Memory}
use Rattle.xa_decide.specs.declared.limits.OverLimit.{OverLimit}
use Rattle.xa_server.specs.declared.cause.Cause.{Cause}
use Rattle.xa_server.specs.declared.cause.Cause.TheVariants as cause
use Rattle.xa_server.specs.declared.cause.Cause.TheVariants.{Wanting}
use Rattle.xa_server.specs.declared.error_code.ErrorCode.TheVariants.{Body, Keeper}
use Rattle.xa_server.specs.declared.handling_error.HandlingError.{HandlingError}
use Rattle.xa_server.specs.declared.handling_error.HandlingError.TheVariants.{Error, Failed}
use Rattle.xa_server.specs.ErrorCode.{code_of_route_fault}

-- what a change that wasn't made comes to
abbrev pub error_of_change : ChangeError → HandlingError
error_of_change (change.Failed failure) = Failed (Wanting failure)
error_of_change (change.Refused refusal) = Error (Keeper refusal)

-- what a body that wasn't read comes to
abbrev pub error_of_body : OrMemory NotationError → HandlingError
error_of_body or_memory.Memory = Failed (Wanting Memory)
error_of_body (or_memory.Error fault) = Error (Body fault)

-- what a route that wasn't found comes to
abbrev pub error_of_route : OrMemory RouteFault → HandlingError
error_of_route or_memory.Memory = Failed (Wanting Memory)
error_of_route (or_memory.Error fault) = Error (code_of_route_fault fault)

-- why a decision isn't given
abbrev pub cause_of_limit : OrMemory OverLimit → Cause
cause_of_limit or_memory.Memory = Wanting Memory
cause_of_limit (or_memory.Error over) = cause.OverLimit over
