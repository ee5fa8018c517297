-- The work of answering: a cached decision is given again; any other is evaluated, and cached if it stays true.
use Rattle.std.specs.Prelude.{◌≡◌, ◌⊎◌, ◌&&◌, ℕ, ℤ, Bool, true, false, List, [], ◌∷◌, Option, Some, None}
use Rattle.std.specs.Prelude.{option_and_then, option_map, Result, Ok, Err, length, nat_le, if◌then◌else◌}
use Rattle.std.specs.FinMap.{get}
use Rattle.xa_cache.specs.Bodies.{fits, found, kept, looked}
use Rattle.xa_cache.specs.declared.key.Key.{Key}
use Rattle.xa_decide.specs.declared.decision.Responded.{Responded}
use Rattle.xa_decide.specs.Decision as decision
use Rattle.xa_decide.specs.Decision.{Viewed}
use Rattle.xa_decide.specs.Timeless.{is_timeless_answer}
use Rattle.xa_http.specs.declared.message.Message.{Message}
use Rattle.xa_http.specs.declared.route.Route.{Route}
use Rattle.xa_http.specs.declared.route.Route.TheVariants as to
use Rattle.xa_http.specs.declared.route.RouteFault.{RouteFault}
use Rattle.xa_http.specs.Routes.{route_of}
use Rattle.xa_notation.specs.declared.token.Role.TheVariants.{Ask}
use Rattle.xa_records.specs.Keeper.{IsOneMore}
use Rattle.xa_records.specs.DomainState.{DomainState}
use Rattle.xa_records.specs.Kept.{Domain, Kept}
use Rattle.xa_server.specs.declared.error_code.ErrorCode.{ErrorCode}
use Rattle.xa_server.specs.declared.replies.Reply.{Reply}
use Rattle.xa_server.specs.declared.replies.Reply.TheVariants.{Sent, Refused}
use Rattle.xa_server.specs.declared.revision.Revision.{Revision}
use Rattle.xa_server.specs.Alone.{Event, message_of, moment_of}
use Rattle.xa_server.specs.Decisions.{DecisionsModel}
use Rattle.xa_server.specs.Machine.{admitted}
use Rattle.xa_server.specs.Owner.{name_if}
use Rattle.xa_server.specs.Served.{IsServed}
use Rattle.xa_server.specs.View.{view_of}
use Rattle.xa_server.specs.World.{World}

-- ---- which decision a message asks for

-- the domain, if it has let the message in
abbrev pub domain_if : Domain → Result (Unit {0}) ErrorCode → Option Domain
domain_if domain (Ok _) = Some domain
domain_if domain (Err code) = None

-- the domain of a name, if it lets the message ask for decisions
abbrev pub domain_asked : Kept → Message → List ℕ → Option Domain
domain_asked kept message name =
    option_and_then (λ d. domain_if d (admitted Ask (Some d.state) message)) (get kept.domains name)

-- the domain of which a route asks for a decision
abbrev pub domain_of_route : Kept → Message → Route → Option Domain
domain_of_route kept message (to.Decide part) = option_and_then (domain_asked kept message) (name_if part)
domain_of_route kept message _ = None

-- the domain of which a message asks for a decision
abbrev pub domain_of_message : Kept → Message → Result Route RouteFault → Option Domain
domain_of_message kept message (Ok route) = domain_of_route kept message route
domain_of_message kept message (Err fault) = None

-- the revision of a domain: its number and its epoch
abbrev pub domain_revision : Domain → Revision
domain_revision domain = record { number = domain.number; epoch = domain.epoch }

-- the key under which a decision is cached, by the revision of the domain that lets the message in
abbrev pub key_of_revision : Revision → List ℕ → Key
key_of_revision revision body = record { number = revision.number; epoch = revision.epoch; body = body }

-- the key under which a domain's decision on a body is cached
abbrev pub cache_key : Domain → List ℕ → Key
cache_key domain body = key_of_revision (domain_revision domain) body

-- the body of the response that is evaluated by what decides, and whether it is the same at every moment; nothing if
-- the request's body is no JSON
unfoldable pub response_of : Viewed → List ℕ → ℤ → Option Responded
response_of view body moment =
    option_map (λ answered. record { body = decision.body_of answered; timeless = is_timeless_answer view body })
    (decision.answer view body moment)

-- `response_of` what decides in a domain of that state
abbrev pub evaluated_response : DomainState → List ℕ → ℤ → Option Responded
evaluated_response state body moment = response_of (view_of state) body moment

-- ---- what becomes of the cached decisions, and of the counts

-- the cached body of the response to that body of a request; one of more than 16,384 bytes isn't looked up
abbrev pub cached_body : Key → List ℕ → DecisionsModel → Option (List ℕ)
cached_body key body decisions = if nat_le (length body) 16_384 then found key decisions.cached else None

-- the cached decisions after a look-up: that decision is now the most recently used
abbrev pub looked_up : Key → DecisionsModel → DecisionsModel
looked_up key decisions = record decisions { cached = looked key decisions.cached }

-- a body that is to be cached is cached, or is counted as not cached
abbrev pub IsKept : Key → List ℕ → DecisionsModel → DecisionsModel → Type 0
IsKept key body old new =
    ((new.cached ≡ kept key body old.cached) × (new.unkept ≡ old.unkept))
    ⊎ ((new.cached ≡ old.cached) × IsOneMore old.unkept new.unkept)

-- `IsKept` a body that may be cached; any other isn't
abbrev pub IsBodyCached : Bool → Key → List ℕ → DecisionsModel → DecisionsModel → Type 0
IsBodyCached true key body old new = IsKept key body old new
IsBodyCached false key body old new = (new.cached ≡ old.cached) × (new.unkept ≡ old.unkept)

-- a decision was evaluated: it is counted, and cached if it is the same at every moment and neither body is too large.
-- Of no JSON nothing is evaluated
abbrev pub IsEvaluated : Key → Option Responded → DecisionsModel → DecisionsModel → Type 0
IsEvaluated key None old new = new ≡ old
IsEvaluated key (Some responded) old new =
    IsOneMore old.evaluations new.evaluations
    × IsBodyCached (responded.timeless && fits key responded.body) key responded.body old new

-- the work of an ask whose decision is cached, or isn't. One that is refused may have done as much, or nothing
abbrev pub IsAskWork : Key → Option (List ℕ) → Option Responded → Reply → DecisionsModel → DecisionsModel → Type 0
IsAskWork key (Some body) worked (Sent _) old new = new ≡ looked_up key old
IsAskWork key (Some body) worked (Refused _) old new = (new ≡ old) ⊎ (new ≡ looked_up key old)
IsAskWork key None worked (Sent _) old new = IsEvaluated key worked old new
IsAskWork key None worked (Refused _) old new = (new ≡ old) ⊎ IsEvaluated key worked old new

-- the work of an ask of a domain; any other message does none
abbrev pub IsWorkOf : Option Domain → List ℕ → ℤ → Reply → DecisionsModel → DecisionsModel → Type 0
IsWorkOf None body moment reply old new = new ≡ old
IsWorkOf (Some domain) body moment reply old new =
    IsAskWork (cache_key domain body) (cached_body (cache_key domain body) body old)
    (evaluated_response domain.state body moment) reply old new

-- the work of one message
abbrev pub IsWork : Kept → ℤ → Message → Reply → DecisionsModel → DecisionsModel → Type 0
IsWork kept moment message reply old new =
    IsWorkOf (domain_of_message kept message (route_of message)) message.body moment reply old new

-- the work of the messages of a run, one after another
abbrev pub IsWorkOfRun : World → DecisionsModel → List Event → List Reply → World → DecisionsModel → Type 0
IsWorkOfRun old decisions [] [] new left = (new ≡ old) × (left ≡ decisions)
IsWorkOfRun old decisions (event ∷ events) (reply ∷ replies) new left =
    (mid : World) × (between : DecisionsModel) × IsServed old mid (moment_of event) (message_of event) reply
    × IsWork old.kept (moment_of event) (message_of event) reply decisions between
    × IsWorkOfRun mid between events replies new left
IsWorkOfRun old decisions [] (_ ∷ _) new left = ⊥
IsWorkOfRun old decisions (_ ∷ _) [] new left = ⊥
