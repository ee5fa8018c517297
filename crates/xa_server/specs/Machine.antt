-- The machine of one domain. It knows that domain and no other: from the digest of the operator's token, the domain's
-- state, a message and the moment at which it is answered, it gives the bytes of the reply and the state after it.
use Rattle.std.specs.Prelude.{ℕ, ℤ, Bool, true, false, List, Option, Some, None, option_and_then, option_map, Result}
use Rattle.std.specs.Prelude.{Ok, Err, bytes_eq, if◌then◌else◌}
use Rattle.std.specs.FinMap.{get}
use Rattle.std.specs.Option.{ok_or}
use Rattle.sha2.specs.Sha256.{sha256}
use Rattle.xa_value.specs.Gives.{◌>>=◌}
use Rattle.xa_policy.specs.declared.document_key.DocumentKey.{DocumentKey}
use Rattle.xa_notation.specs.declared.notation_error.NotationError.{NotationError}
use Rattle.xa_notation.specs.declared.notation_error.NotationError.TheVariants.{NotJson}
use Rattle.xa_notation.specs.declared.token.Role.{Role}
use Rattle.xa_notation.specs.declared.token.Role.TheVariants.{Ask, Admin}
use Rattle.xa_notation.specs.Bodies.{new_token_of, old_token_of, root_of}
use Rattle.xa_notation.specs.Document.{document_of}
use Rattle.xa_decide.specs.Decision as decision
use Rattle.xa_decide.specs.Rows.{rows_body, rows_of}
use Rattle.xa_http.specs.declared.command.DocumentCommand.{DocumentCommand}
use Rattle.xa_http.specs.declared.command.DocumentCommand.TheVariants as document
use Rattle.xa_http.specs.declared.command.DomainCommand.{DomainCommand}
use Rattle.xa_http.specs.declared.command.DomainCommand.TheVariants as domain
use Rattle.xa_http.specs.declared.command.OperatorCommand.{OperatorCommand}
use Rattle.xa_http.specs.declared.command.OperatorCommand.TheVariants as operator
use Rattle.xa_http.specs.declared.message.Message.{Message}
use Rattle.xa_http.specs.declared.route.Route.{Route}
use Rattle.xa_http.specs.declared.route.Route.TheVariants as to
use Rattle.xa_http.specs.declared.route.RouteFault.{RouteFault}
use Rattle.xa_http.specs.Routes.{route_of}
use Rattle.xa_records.specs.declared.refusal.Refusal.{Refusal}
use Rattle.xa_records.specs.declared.refusal.Refusal.TheVariants.{Absent}
use Rattle.xa_records.specs.declared.upload.Upload.{Upload}
use Rattle.xa_records.specs.declared.upload.Upload.TheVariants.{New, Same}
use Rattle.xa_records.specs.Changes.{Change, activity_set, created, deleted, removed, root_set, source_set}
use Rattle.xa_records.specs.Changes.{token_dropped, token_put, upload_of, uploaded, within}
use Rattle.xa_records.specs.DomainState.{DomainState, key_of}
use Rattle.xa_records.specs.Listing.{listing_body, names_body}
use Rattle.xa_records.specs.Readings.{listing_of_state, text_in}
use Rattle.xa_server.specs.declared.error_code.ErrorCode.{ErrorCode}
use Rattle.xa_server.specs.declared.error_code.ErrorCode.TheVariants.{NoRoute, Unauthorized, Forbidden, BadDomain, Body}
use Rattle.xa_server.specs.declared.error_code.ErrorCode.TheVariants.{Keeper}
use Rattle.xa_server.specs.Authorization.{token_in}
use Rattle.xa_server.specs.DocumentKey.{key_of_parts}
use Rattle.xa_server.specs.ErrorCode.{code_of_route_fault, error_reply}
use Rattle.xa_server.specs.Replies.{created_reply, decision_reply, done_reply, json_reply}
use Rattle.xa_server.specs.View.{view_of}

-- an answer: the reply and the domain's state after it, or an error answer, which leaves the state
abbrev pub MachineAnswer : Type 0
MachineAnswer = Result (List ℕ × Option DomainState) ErrorCode

-- ---- 404, 405 and 415

abbrev pub route_or_error : Result Route RouteFault → Result Route ErrorCode
route_or_error (Ok route) = Ok route
route_or_error (Err fault) = Err (code_of_route_fault fault)

-- ---- 401 and 403

-- the digest of the token that the message shows
abbrev pub digest_shown : Message → Option (List ℕ)
digest_shown message = option_map sha256 (token_in message.fields)

-- whether a digest, if there is one, is that of the operator's token
abbrev pub is_operators : List ℕ → Option (List ℕ) → Bool
is_operators operator None = false
is_operators operator (Some digest) = bytes_eq digest operator

-- the message shows the operator's token
abbrev pub by_operator : List ℕ → Message → Result (Unit {0}) ErrorCode
by_operator operator message = if is_operators operator (digest_shown message) then Ok tt else Err Unauthorized

-- a message needs a role: `ask` for a decision, `admin` for anything else; `admin` may do both
abbrev pub permitted : Role → Role → Result (Unit {0}) ErrorCode
permitted Admin needed = Ok tt
permitted Ask Ask = Ok tt
permitted Ask Admin = Err Forbidden

-- the domain is there, and the digest that is shown is that of one of its tokens, whose role may do what is needed
abbrev pub admitted_by : Role → Option DomainState → Option (List ℕ) → Result (Unit {0}) ErrorCode
admitted_by needed state shown = do
  domain ← ok_or state Unauthorized
  role ← ok_or (option_and_then (get domain.tokens) shown) Unauthorized
  permitted role needed

-- the domain is there, and the message shows one of its tokens, whose role may do what is needed
abbrev pub admitted : Role → Option DomainState → Message → Result (Unit {0}) ErrorCode
admitted needed state message = admitted_by needed state (digest_shown message)

-- ---- 400, then 404 and 409

-- what a body says, or its fault
abbrev pub or_body_fault : {X : Type 0} → Result X NotationError → Result X ErrorCode
or_body_fault (Ok x) = Ok x
or_body_fault (Err fault) = Err (Body fault)

-- what a change makes, or why it is refused
abbrev pub or_refusal : {X : Type 0} → Result X Refusal → Result X ErrorCode
or_refusal (Ok x) = Ok x
or_refusal (Err refusal) = Err (Keeper refusal)

-- a change is made, and that is the reply
abbrev pub changed : List ℕ → Change → Option DomainState → MachineAnswer
changed reply change state = or_refusal (change state) >>= (λ after. Ok (reply, after))

-- the reply is read off the domain, which stays as it is
abbrev pub told : (DomainState → Result (List ℕ) ErrorCode) → Option DomainState → MachineAnswer
told reply state = do
  domain ← ok_or state (Keeper Absent)
  bytes ← reply domain
  Ok (bytes, state)

-- ---- what the operator asks for of one domain

abbrev pub by_operator_command : OperatorCommand → List ℕ → Option DomainState → MachineAnswer
by_operator_command operator.Create body state = changed created_reply created state
by_operator_command operator.Remove body state = changed done_reply removed state
by_operator_command operator.PutToken body state =
    or_body_fault (new_token_of body)
    >>= (λ new. changed done_reply (within (token_put (sha256 new.token) new.role)) state)
by_operator_command operator.DropToken body state =
    or_body_fault (old_token_of body) >>= (λ token. changed done_reply (within (token_dropped (sha256 token))) state)

-- ---- a decision

-- the response to a request, at a moment
unfoldable pub response_to : List ℕ → ℤ → DomainState → Result (List ℕ) ErrorCode
response_to body moment state =
    ok_or
    (option_map (λ answered. decision_reply (decision.body_of answered)) (decision.answer (view_of state) body moment))
    (Body NotJson)

-- ---- what else is asked for in a domain

-- an upload of what was there is no creation
abbrev pub upload_reply : Upload → List ℕ
upload_reply New = created_reply
upload_reply Same = done_reply

abbrev pub by_domain_command : DomainCommand → List ℕ → Option DomainState → MachineAnswer
by_domain_command domain.Upload body state =
    or_body_fault (document_of body)
    >>= (λ parsed.
    changed (upload_reply (upload_of (key_of parsed) state)) (within (uploaded (key_of parsed) body)) state)
by_domain_command domain.List body state =
    told (λ kept. Ok (json_reply (listing_body (listing_of_state kept)))) state
by_domain_command domain.SetRoot body state =
    or_body_fault (root_of body) >>= (λ root. changed done_reply (within (root_set root)) state)
by_domain_command domain.SetSource body state =
    or_body_fault (rows_of body) >>= (λ rows. changed done_reply (within (source_set rows)) state)
by_domain_command domain.ShowSource body state = told (λ kept. Ok (json_reply (rows_body kept.source))) state

-- ---- what is asked for of one document

-- the reply with the text of a document
abbrev pub text_reply : DocumentKey → DomainState → Result (List ℕ) ErrorCode
text_reply key kept = ok_or (text_in key kept) (Keeper Absent) >>= (λ text. Ok (json_reply text))

abbrev pub by_document_command : DocumentCommand → DocumentKey → Option DomainState → MachineAnswer
by_document_command document.Show key state = told (text_reply key) state
by_document_command document.Delete key state = changed done_reply (within (deleted key)) state
by_document_command document.Activate key state = changed done_reply (within (activity_set key true)) state
by_document_command document.Deactivate key state = changed done_reply (within (activity_set key false)) state

-- ---- the order of answers: the first question that is not passed decides

-- the list of all domains is of no domain
abbrev pub by_route : List ℕ → Option DomainState → Message → ℤ → Route → MachineAnswer
by_route operator state message moment to.Domains = Err NoRoute
by_route operator state message moment (to.Operator name command) = do
  _ ← by_operator operator message
  by_operator_command command message.body state
by_route operator state message moment (to.Decide name) = do
  _ ← admitted Ask state message
  told (response_to message.body moment) state
by_route operator state message moment (to.Domain name command) = do
  _ ← admitted Admin state message
  by_domain_command command message.body state
by_route operator state message moment (to.Document name parts command) = do
  _ ← admitted Admin state message
  key ← ok_or (key_of_parts parts) (Keeper Absent)
  by_document_command command key state

-- the answer to a message whose path names the domain
unfoldable pub answer : List ℕ → Option DomainState → Message → ℤ → MachineAnswer
answer operator state message moment = route_or_error (route_of message) >>= by_route operator state message moment

-- the reply and the state after it
abbrev pub reply_and_state : Option DomainState → MachineAnswer → List ℕ × Option DomainState
reply_and_state state (Ok (bytes, after)) = (bytes, after)
reply_and_state state (Err code) = (error_reply code, state)

-- one step of the domain's machine
unfoldable pub step : List ℕ → Option DomainState → Message → ℤ → List ℕ × Option DomainState
step operator state message moment = reply_and_state state (answer operator state message moment)

-- the reply of a step
abbrev pub reply_of : List ℕ × Option DomainState → List ℕ
reply_of taken = taken.0

-- the domain's state after a step
abbrev pub next_state : List ℕ × Option DomainState → Option DomainState
next_state taken = taken.1

-- ---- a message whose path names no domain

-- the answer to a message of no domain: of the domains there are, their names alone are looked at, and only by the
-- operator's list
abbrev pub general_by_route : List ℕ → List (List ℕ) → Message → Route → Result (List ℕ) ErrorCode
general_by_route operator names message to.Domains =
    by_operator operator message >>= (λ _. Ok (json_reply (names_body names)))
general_by_route operator names message (to.Operator name command) =
    by_operator operator message >>= (λ _. Err BadDomain)
general_by_route operator names message (to.Decide name) = Err Unauthorized
general_by_route operator names message (to.Domain name command) = Err Unauthorized
general_by_route operator names message (to.Document name parts command) = Err Unauthorized

unfoldable pub general_answer : List ℕ → List (List ℕ) → Message → Result (List ℕ) ErrorCode
general_answer operator names message = route_or_error (route_of message) >>= general_by_route operator names message

abbrev pub reply_or_error : Result (List ℕ) ErrorCode → List ℕ
reply_or_error (Ok bytes) = bytes
reply_or_error (Err code) = error_reply code

unfoldable pub general_reply : List ℕ → List (List ℕ) → Message → List ℕ
general_reply operator names message = reply_or_error (general_answer operator names message)
