-- How an ask, a request for a decision that a domain has let in, is answered.
use Rattle.std.specs.Option.{ok_or}
use Rattle.std.specs.Prelude.{◌≡◌, ◌⊎◌, ℕ, ℤ, ⊤, List, length, nat_le, OnErr, Option, Some, None, option_and_then}
use Rattle.std.specs.Prelude.{option_map, Result, Ok, Err, if◌then◌else◌}
use Rattle.xa_value.specs.Gives.{◌>>=◌}
use Rattle.xa_notation.specs.declared.notation_error.NotationError.TheVariants.{NotJson}
use Rattle.xa_records.specs.declared.refusal.Failure.TheVariants.{Memory}
use Rattle.xa_records.specs.declared.refusal.Refusal.TheVariants.{Absent}
use Rattle.xa_records.specs.DomainState.{DomainState}
use Rattle.xa_records.specs.Keeper.{Custody, IsOneMore}
use Rattle.xa_records.specs.Kept.{Domain, Kept, state_of}
use Rattle.xa_cache.specs.declared.key.Key.{Key}
use Rattle.xa_decide.specs.declared.decision.Responded.{Responded}
use Rattle.xa_decide.specs.Decision.{Viewed}
use Rattle.xa_http.specs.declared.route.Route.{Route}
use Rattle.xa_http.specs.Routes.{route_of}
use Rattle.xa_server.specs.declared.asks.Ask.{Ask}
use Rattle.xa_server.specs.declared.asks.ReadAsk.{ReadAsk}
use Rattle.xa_server.specs.declared.cause.Cause.TheVariants as cause
use Rattle.xa_server.specs.declared.cause.Cause.TheVariants.{Wanting}
use Rattle.xa_server.specs.declared.error_code.ErrorCode.{ErrorCode}
use Rattle.xa_server.specs.declared.error_code.ErrorCode.TheVariants as error
use Rattle.xa_server.specs.declared.cached_view.CachedView.{CachedView}
use Rattle.xa_server.specs.declared.received_message.ReceivedMessage.{ReceivedMessage}
use Rattle.xa_server.specs.declared.revision.Revision.{Revision}
use Rattle.xa_server.specs.declared.handling_error.HandlingError.{HandlingError}
use Rattle.xa_server.specs.declared.handling_error.HandlingError.TheVariants.{Error, Failed}
use Rattle.xa_server.specs.handling.Gates.{revision_of}
use Rattle.xa_server.specs.handling.Replying.{OnlyReads, Sharing, Shows}
use Rattle.xa_server.specs.Decisions.{DecisionsModel}
use Rattle.xa_server.specs.Replies.{decision_reply}
use Rattle.xa_server.specs.Resources.{AllStand, ResourcesModel}
use Rattle.xa_server.specs.View.{view_of}
use Rattle.xa_server.specs.Work.{IsEvaluated, cache_key, cached_body, domain_of_message, domain_of_route, looked_up}
use Rattle.xa_server.specs.Work.{evaluated_response, key_of_revision, response_of}

-- what a domain evaluates: the body of the response, and whether it is the same at every moment; nothing of an absent
-- domain, or if the request's body is no JSON
abbrev pub evaluated_in : Option DomainState → List ℕ → ℤ → Option Responded
evaluated_in state body moment = option_and_then (λ s. evaluated_response s body moment) state

-- `evaluated_in` a domain, or why there is nothing
abbrev pub response_told : List ℕ → ℤ → Option DomainState → Result Responded ErrorCode
response_told body moment state =
    ok_or state (error.Keeper Absent) >>= (λ s. ok_or (evaluated_response s body moment) (error.Body NotJson))

-- what decides in a domain, or that it is absent
abbrev pub view_told : Option DomainState → Result Viewed ErrorCode
view_told state = ok_or (option_map view_of state) (error.Keeper Absent)

-- the reply to what was evaluated; or the body is no JSON; or there was no memory
abbrev pub IsResponseReply : Option Responded → Result (List ℕ) HandlingError → Type 0
IsResponseReply meant (Ok bytes) =
    option_map (λ (response : Responded). decision_reply response.body) meant ≡ Some bytes
IsResponseReply meant (Err (Error code)) = (meant ≡ None) × (code ≡ error.Body NotJson)
IsResponseReply meant (Err (Failed (Wanting failure))) = failure ≡ Memory
IsResponseReply meant (Err (Failed (cause.OverLimit over))) = ⊤

-- a view was made ready, at that revision; or an error answer says why not, or it failed; and nothing has changed
abbrev pub IsMadeReady : Kept → Kept → Revision → Result CachedView HandlingError → Result Viewed ErrorCode → Type 0
IsMadeReady old new revision (Ok ready) meant = (meant ≡ Ok ready.view) × (ready.revision ≡ revision) × (new ≡ old)
IsMadeReady old new revision (Err (Error code)) meant = (meant ≡ Err code) × (new ≡ old)
IsMadeReady old new revision (Err (Failed failure)) meant = new ≡ old

-- `IsMadeReady` of the domain that has let an ask in, if the keeper is sound
abbrev pub MakesReady : Custody → Custody → Ask → Result CachedView HandlingError → Type 0
MakesReady old new ask result =
    new.sound → IsMadeReady old.kept new.kept ask.revision result (view_told (state_of ask.name.now old.kept))

-- the reply to a request by the state of a domain
abbrev pub reply_told : List ℕ → ℤ → Option DomainState → Result (List ℕ) ErrorCode
reply_told body moment state = response_told body moment state >>= (λ response. Ok (decision_reply response.body))

-- the key, if its body isn't too large: it has at most 16,384 bytes
abbrev pub key_within : Key → Option Key
key_within key = if nat_le (length key.body) 16_384 then Some key else None

-- a decision was evaluated, and counted; without a key it isn't cached
abbrev pub IsNoted : Option Key → Responded → DecisionsModel → DecisionsModel → Type 0
IsNoted (Some key) responded old new = IsEvaluated key (Some responded) old new
IsNoted None responded old new =
    IsOneMore old.evaluations new.evaluations × (new.cached ≡ old.cached) × (new.unkept ≡ old.unkept)

-- the domain that has let an ask in is there, at the ask's revision
abbrev pub IsLetIn : Kept → Ask → Type 0
IsLetIn kept ask = revision_of ask.name.now kept ≡ Some ask.revision

-- the claim holds if a domain has let the ask in, if all that the server shares stood before, and if the keeper is
-- sound after
abbrev pub IfLetIn : Custody → Custody → Ask → ResourcesModel → Type 0 → Type 0
IfLetIn old new ask before claim = IsLetIn old.kept ask → AllStand old.kept before → new.sound → claim

-- the key under which the decision of an ask is cached
abbrev pub key_asked : Ask → List ℕ → Key
key_asked ask body = key_of_revision ask.revision body

-- a read ask has the key of its body, if the body isn't too large
abbrev pub HasItsKey : ReadAsk → Type 0
HasItsKey read = read.key ≡ key_within (key_asked read.ask.now read.body)

-- what an ask evaluates, by what decides
abbrev pub response_asked : Viewed → Ask → List ℕ → Option Responded
response_asked view ask body = response_of view body ask.moment

-- what an ask evaluates, by what decides in its domain
abbrev pub evaluated_asked : Kept → Ask → List ℕ → Option Responded
evaluated_asked kept ask body = evaluated_in (state_of ask.name.now kept) body ask.moment

-- the reply to an ask
abbrev pub reply_asked : Kept → Ask → List ℕ → Result (List ℕ) ErrorCode
reply_asked kept ask body = reply_told body ask.moment (state_of ask.name.now kept)

-- a decision was evaluated, with success; by an error answer nothing was there to be evaluated, and a failure has left
-- all
abbrev pub IsFresh : Key → Option Responded → Result (List ℕ) HandlingError → DecisionsModel → DecisionsModel
    → Type 0
IsFresh key worked (Ok bytes) old new = IsEvaluated key worked old new
IsFresh key worked (Err (Error code)) old new = (worked ≡ None) × (new ≡ old)
IsFresh key worked (Err (Failed failure)) old new = new ≡ old

-- a look-up of a decision that is cached, or isn't
abbrev pub IsLookedUp : Option (List ℕ) → Key → DecisionsModel → DecisionsModel → Type 0
IsLookedUp None key old new = new ≡ old
IsLookedUp (Some body) key old new = new ≡ looked_up key old

-- an ask that was let in, whose decision is cached, or isn't
abbrev pub IsAsked : Key → Option (List ℕ) → Option Responded → Result (List ℕ) HandlingError
    → DecisionsModel → DecisionsModel → Type 0
IsAsked key (Some body) worked (Ok bytes) old new = new ≡ looked_up key old
IsAsked key (Some body) worked (Err (Error code)) old new = ⊥
IsAsked key (Some body) worked (Err (Failed failure)) old new = (new ≡ old) ⊎ (new ≡ looked_up key old)
IsAsked key None worked result old new = IsFresh key worked result old new

-- an ask that was let in was answered by a decision that is evaluated
pub record FreshReply (old new : Custody) (ask : Ask) (body : List ℕ) (before after : ResourcesModel)
    (result : Result (List ℕ) HandlingError) : Type 0 where
  pub tells : IfLetIn old new ask before (Shows old.kept new.kept result (reply_asked old.kept ask body))
  pub works : IfLetIn old new ask before
      (IsFresh (key_asked ask body) (evaluated_asked old.kept ask body) result before.decisions after.decisions)
  pub stands : IfLetIn old new ask before (AllStand old.kept after)
  pub views : OnErr result (after.views ≡ before.views)
  pub keeper : OnlyReads old new result

-- ---- what was done to cached decisions

-- what was done to cached decisions by a message, by the domain that it asks
abbrev pub WorksOf : Option Domain → List ℕ → ℤ → Result (List ℕ) HandlingError → DecisionsModel → DecisionsModel
    → Type 0
WorksOf None body moment result old new = new ≡ old
WorksOf (Some domain) body moment result old new =
    IsAsked (cache_key domain body) (cached_body (cache_key domain body) body old)
    (evaluated_response domain.state body moment) result old new

-- `WorksOf` a message of a route
abbrev pub WorksRoute : ReceivedMessage → Kept → Route → Result (List ℕ) HandlingError → DecisionsModel → DecisionsModel
    → Type 0
WorksRoute received kept route result old new =
    WorksOf (domain_of_route kept received.message.now route) received.message.now.body received.moment result old new

-- `WorksOf` a message
abbrev pub WorksMessage : ReceivedMessage → Kept → Result (List ℕ) HandlingError → DecisionsModel → DecisionsModel
    → Type 0
WorksMessage received kept result old new =
    WorksOf (domain_of_message kept received.message.now (route_of received.message.now)) received.message.now.body
    received.moment result old new

-- `Sharing` after a message of a route
abbrev pub SharesRoute : Custody → Custody → ReceivedMessage → Route → ResourcesModel → ResourcesModel
    → Result (List ℕ) HandlingError → Type 0
SharesRoute old new received route before after result =
    Sharing old new before after result (WorksRoute received old.kept route result before.decisions after.decisions)

-- `Sharing` after a message
abbrev pub SharesMessage : Custody → Custody → ReceivedMessage → ResourcesModel → ResourcesModel
    → Result (List ℕ) HandlingError → Type 0
SharesMessage old new received before after result =
    Sharing old new before after result (WorksMessage received old.kept result before.decisions after.decisions)
