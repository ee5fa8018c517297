-- From what a message asks for to the message itself.
use Rattle.std.proofs.Common.{◌≡◌, ℕ, List, Option, Some, None, Result, Ok, Err, refl}
use Rattle.xa_value.specs.declared.or_memory.OrMemory.{OrMemory}
use Rattle.xa_value.specs.declared.or_memory.OrMemory.TheVariants as or_memory
use Rattle.xa_value.specs.Gives.{Gives}
use Rattle.xa_http.specs.declared.route.Route.{Route}
use Rattle.xa_http.specs.declared.route.RouteFault.{RouteFault}
use Rattle.xa_http.specs.Routes.{route_of}
use Rattle.xa_records.specs.Kept.{Kept}
use Rattle.xa_server.specs.declared.received_message.ReceivedMessage.{ReceivedMessage}
use Rattle.xa_server.specs.declared.handling_error.HandlingError.{HandlingError}
use Rattle.xa_server.specs.handling.Replying.{AnswersMessage, AnswersRoute}
use Rattle.xa_server.specs.Machine.{answer, general_answer}
use Rattle.xa_server.specs.handling.HandlingError.{error_of_route}

-- what the message asks for is answered
pub asked : (received : ReceivedMessage) (old new : Kept) (named : Option (List ℕ)) (route : Route) (result : Result (List ℕ) HandlingError)
    → route_of received.message.now ≡ Ok route → AnswersRoute received old new named route result → AnswersMessage received old new named result
unfolding answer general_answer
asked received old new None route result asks answers = rw asks answers
asked received old new (Some name) route result asks answers = rw asks answers

-- it asks for nothing that is served, or that wasn't found out
pub unasked : (received : ReceivedMessage) (kept : Kept) (named : Option (List ℕ)) (error : OrMemory RouteFault)
    → Gives {X = Route} (Err error) (route_of received.message.now) → AnswersMessage received kept kept named (Err (error_of_route error))
unfolding answer general_answer
unasked received kept None or_memory.Memory gives = refl
unasked received kept None (or_memory.Error fault) gives = rw gives (refl, refl)
unasked received kept (Some name) or_memory.Memory gives = refl
unasked received kept (Some name) (or_memory.Error fault) gives = rw gives (refl, refl)
