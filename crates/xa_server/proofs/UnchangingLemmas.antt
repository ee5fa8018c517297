-- A message that asks for no change leaves the state of its domain.
use Rattle.std.proofs.Common.{◌≡◌, ℕ, ℤ, true, false, List, Option, Some, None, Result, Ok, Err, refl}
use Rattle.xa_value.specs.Gives.{◌>>=◌}
use Rattle.xa_http.specs.declared.command.DocumentCommand.TheVariants as document
use Rattle.xa_http.specs.declared.command.DomainCommand.TheVariants as domain
use Rattle.xa_http.specs.declared.message.Message.{Message}
use Rattle.xa_http.specs.declared.route.Route.{Route}
use Rattle.xa_http.specs.declared.route.Route.TheVariants as to
use Rattle.xa_http.specs.declared.route.RouteFault.{RouteFault}
use Rattle.xa_http.specs.Changing.{asks_for_change, is_change, is_change_if}
use Rattle.xa_http.specs.Routes.{route_of}
use Rattle.xa_notation.specs.declared.token.Role.TheVariants.{Ask, Admin}
use Rattle.xa_policy.specs.declared.document_key.DocumentKey.{DocumentKey}
use Rattle.xa_records.specs.declared.refusal.Refusal.TheVariants.{Absent}
use Rattle.xa_records.specs.DomainState.{DomainState}
use Rattle.xa_records.specs.Listing.{listing_body}
use Rattle.xa_records.specs.Readings.{listing_of_state}
use Rattle.xa_decide.specs.Rows.{rows_body}
use Rattle.std.specs.Option.{ok_or}
use Rattle.xa_server.specs.declared.error_code.ErrorCode.{ErrorCode}
use Rattle.xa_server.specs.declared.error_code.ErrorCode.TheVariants.{Keeper}
use Rattle.xa_server.specs.DocumentKey.{key_of_parts}
use Rattle.xa_server.specs.Machine.{MachineAnswer, admitted, answer, by_route, next_state, reply_and_state, response_to, route_or_error, step, text_reply, told}
use Rattle.xa_server.specs.Replies.{json_reply}
use Rattle.xa_server.specs.TurningAway.{LeavesState}

-- an answer leaves the state
abbrev Leaves : Option DomainState → MachineAnswer → Type 0
Leaves state (Ok (bytes, after)) = after ≡ state
Leaves state (Err code) = Unit {0}

false_true : {X : Type 0} → true ≡ false → X
false_true e = absurd cc

then_leaves : {X : Type 0} (state : Option DomainState) (first : Result X ErrorCode) (rest : X → MachineAnswer) → ((x : X) → Leaves state (rest x)) → Leaves state (first >>= rest)
then_leaves state (Ok x) rest leaves = leaves x
then_leaves state (Err code) rest leaves = tt

told_leaves : (reply : DomainState → Result (List ℕ) ErrorCode) (state : Option DomainState) → Leaves state (told reply state)
told_leaves reply None = tt
told_leaves reply (Some kept) = then_leaves (Some kept) (reply kept) (λ bytes. Ok (bytes, Some kept)) (λ bytes. refl)

route_leaves : (operator : List ℕ) (state : Option DomainState) (message : Message) (moment : ℤ) (route : Route) → is_change route ≡ false → Leaves state (by_route operator state message moment route)
route_leaves operator state message moment to.Domains reads = tt
route_leaves operator state message moment (to.Operator name command) changes = false_true changes
route_leaves operator state message moment (to.Decide name) reads =
    then_leaves state (admitted Ask state message) (λ _. told (response_to message.body moment) state) (λ _. told_leaves (response_to message.body moment) state)
route_leaves operator state message moment (to.Domain name domain.List) reads =
    then_leaves state (admitted Admin state message) (λ _. told (λ kept. Ok (json_reply (listing_body (listing_of_state kept)))) state)
    (λ _. told_leaves (λ kept. Ok (json_reply (listing_body (listing_of_state kept)))) state)
route_leaves operator state message moment (to.Domain name domain.ShowSource) reads =
    then_leaves state (admitted Admin state message) (λ _. told (λ kept. Ok (json_reply (rows_body kept.source))) state)
    (λ _. told_leaves (λ kept. Ok (json_reply (rows_body kept.source))) state)
route_leaves operator state message moment (to.Domain name domain.Upload) changes = false_true changes
route_leaves operator state message moment (to.Domain name domain.SetRoot) changes = false_true changes
route_leaves operator state message moment (to.Domain name domain.SetSource) changes = false_true changes
route_leaves operator state message moment (to.Document name parts document.Show) reads =
    then_leaves state (admitted Admin state message) (λ _. ok_or (key_of_parts parts) (Keeper Absent) >>= (λ key. told (text_reply key) state))
    (λ _. then_leaves state (ok_or (key_of_parts parts) (Keeper Absent)) (λ key. told (text_reply key) state) (λ key. told_leaves (text_reply key) state))
route_leaves operator state message moment (to.Document name parts document.Delete) changes = false_true changes
route_leaves operator state message moment (to.Document name parts document.Activate) changes = false_true changes
route_leaves operator state message moment (to.Document name parts document.Deactivate) changes = false_true changes

routed_leaves : (operator : List ℕ) (state : Option DomainState) (message : Message) (moment : ℤ) (route : Result Route RouteFault) → is_change_if route ≡ false
    → Leaves state (route_or_error route >>= by_route operator state message moment)
routed_leaves operator state message moment (Ok route) reads = route_leaves operator state message moment route reads
routed_leaves operator state message moment (Err fault) reads = tt

after_leaves : (state : Option DomainState) (answered : MachineAnswer) → Leaves state answered → next_state (reply_and_state state answered) ≡ state
after_leaves state (Ok (bytes, after)) same = same
after_leaves state (Err code) none = refl

pub leaves_state : LeavesState
unfolding asks_for_change step answer
leaves_state operator state message moment reads = after_leaves state _ (routed_leaves operator state message moment (route_of message) reads)
