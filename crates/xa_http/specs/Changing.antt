-- Messages that ask for a change, and streams that begin with one.
use Rattle.std.specs.Prelude.{◌≡◌, Bool, true, false, Result, Ok, Err}
use Rattle.xa_http.specs.declared.command.Command.TheVariants as asks
use Rattle.xa_http.specs.declared.message.Message.{Message}
use Rattle.xa_http.specs.declared.route.Route.{Route}
use Rattle.xa_http.specs.declared.route.Route.TheVariants as to
use Rattle.xa_http.specs.declared.route.RouteFault.{RouteFault}
use Rattle.xa_http.specs.Messages.{IsFirst}
use Rattle.xa_http.specs.Routes.{route_of}
use Rattle.xa_http.specs.Stream.{Stream}
use Rattle.xa_http.specs.Table.{changes}

-- what a route asks for changes what is kept
abbrev pub is_change : Route → Bool
is_change to.Domains = changes asks.Domains
is_change (to.Operator domain command) = changes (asks.Operator command)
is_change (to.Decide domain) = changes asks.Decide
is_change (to.Domain domain command) = changes (asks.Domain command)
is_change (to.Document domain parts command) = changes (asks.Document command)

-- a message without a route asks for no change
abbrev pub is_change_if : Result Route RouteFault → Bool
is_change_if (Ok route) = is_change route
is_change_if (Err fault) = false

-- a message asks for a change: what its route asks for changes what is kept. So one that gets 404, 405 or 415 asks for
-- none, and one that would get 401 or 403 asks for one
unfoldable pub asks_for_change : Message → Bool
asks_for_change message = is_change_if (route_of message)

-- whether the first message of a stream asks for a change; none does if no message is whole
abbrev pub TellsChange : Stream → Bool → Type 0
TellsChange stream true =
    (message : Message) × (rest : Stream) × IsFirst stream message rest × (asks_for_change message ≡ true)
TellsChange stream false =
    (message : Message) (rest : Stream) → IsFirst stream message rest → asks_for_change message ≡ false
