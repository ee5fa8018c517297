-- What was done for a message to cached decisions.
use Rattle.std.proofs.Common.{◌≡◌, ℕ, ℤ, List, [], ◌∷◌, ◌++◌, refl, sym, subst, inl, inr}
use Rattle.std.specs.Prelude.{Option, Some, None, Result, Ok, Err}
use Rattle.std.specs.FinMap.{get}
use Rattle.xa_cache.specs.declared.key.Key.{Key}
use Rattle.xa_decide.specs.declared.decision.Responded.{Responded}
use Rattle.xa_value.specs.declared.or_memory.OrMemory.{OrMemory}
use Rattle.xa_value.specs.declared.or_memory.OrMemory.TheVariants as or_memory
use Rattle.xa_value.specs.Gives.{Gives}
use Rattle.xa_http.specs.declared.route.RouteFault.{RouteFault}
use Rattle.xa_http.specs.declared.route.Route.{Route}
use Rattle.xa_http.specs.Routes.{route_of}
use Rattle.xa_records.specs.declared.gate.Gate.{Gate}
use Rattle.xa_records.specs.declared.refusal.Failure.TheVariants.{Memory}
use Rattle.xa_records.specs.Kept.{Domain, Kept}
use Rattle.xa_records.specs.Readings.{gate_of, gate_of_domain}
use Rattle.xa_server.specs.Alone.{Event}
use Rattle.xa_server.specs.declared.cause.Cause.{Cause}
use Rattle.xa_server.specs.declared.cause.Cause.TheVariants.{Wanting}
use Rattle.xa_server.specs.declared.replies.Reply.{Reply}
use Rattle.xa_server.specs.declared.revision.Revision.{Revision}
use Rattle.xa_server.specs.declared.received_message.ReceivedMessage.{ReceivedMessage}
use Rattle.xa_server.specs.declared.handling_error.HandlingError.{HandlingError}
use Rattle.xa_server.specs.declared.handling_error.HandlingError.TheVariants.{Error, Failed}
use Rattle.xa_server.specs.handling.Gates.{revision_by, revision_of}
use Rattle.xa_server.specs.handling.Asking.{IsAsked, IsFresh, WorksMessage, WorksOf, WorksRoute}
use Rattle.xa_server.specs.handling.Replying.{IsReplyOf}
use Rattle.xa_server.specs.handling.HandlingError.{error_of_route}
use Rattle.xa_server.specs.Decisions.{DecisionsModel}
use Rattle.xa_server.specs.Served.{IsServed}
use Rattle.xa_server.specs.Work.{IsAskWork, IsEvaluated, IsWork, IsWorkOf, IsWorkOfRun, cache_key, cached_body, domain_of_message, evaluated_response}
use Rattle.xa_server.specs.World.{World}

-- ---- a message that failed, or was turned away, before anything was done

failed_ask : (key : Key) (held : Option (List ℕ)) (worked : Option Responded) (why : Cause) (decisions : DecisionsModel) → IsAsked key held worked (Err (Failed why)) decisions decisions
failed_ask key None worked why decisions = refl
failed_ask key (Some body) worked why decisions = inl refl

pub failed : (asked : Option Domain) (body : List ℕ) (moment : ℤ) (why : Cause) (decisions : DecisionsModel) → WorksOf asked body moment (Err (Failed why)) decisions decisions
failed None body moment why decisions = refl
failed (Some domain) body moment why decisions =
    failed_ask (cache_key domain body) (cached_body (cache_key domain body) body decisions) (evaluated_response domain.state body moment) why decisions

-- ---- a message that was let in

-- the domain of the gate
pub gate_opens : (kept : Kept) (name : List ℕ) (gate : Gate) → gate_of name kept ≡ Some gate
    → (domain : Domain) × (get kept.domains name ≡ Some domain) × (gate_of_domain domain ≡ gate)
gate_opens kept name gate opens = by_domain (get kept.domains name) refl where
  by_domain : (found : Option Domain) → get kept.domains name ≡ found → (domain : Domain) × (get kept.domains name ≡ Some domain) × (gate_of_domain domain ≡ gate)
  by_domain None there = let e : None ≡ Some gate = rw there at opens in absurd cc
  by_domain (Some domain) there = let e : Some (gate_of_domain domain) ≡ Some gate = rw there at opens in (domain, there, cc)

-- and that of its revision
pub domain_of_revision : (kept : Kept) (name : List ℕ) (revision : Revision) → revision_of name kept ≡ Some revision
    → (domain : Domain) × (get kept.domains name ≡ Some domain) × (revision_by (gate_of_domain domain) ≡ revision)
domain_of_revision kept name revision opens = by_domain (get kept.domains name) refl where
  by_domain : (found : Option Domain) → get kept.domains name ≡ found → (domain : Domain) × (get kept.domains name ≡ Some domain) × (revision_by (gate_of_domain domain) ≡ revision)
  by_domain None there = let e : None ≡ Some revision = rw there at opens in absurd cc
  by_domain (Some domain) there = let e : Some (revision_by (gate_of_domain domain)) ≡ Some revision = rw there at opens in (domain, there, cc)

-- ---- what the message asks for

pub asked_work : (received : ReceivedMessage) (kept : Kept) (route : Route) (result : Result (List ℕ) HandlingError) (old new : DecisionsModel) → route_of received.message.now ≡ Ok route
    → WorksRoute received kept route result old new → WorksMessage received kept result old new
asked_work received kept route result old new asks work = rw asks work

pub unasked_work : (received : ReceivedMessage) (kept : Kept) (error : OrMemory RouteFault) (decisions : DecisionsModel) → Gives {X = Route} (Err error) (route_of received.message.now)
    → WorksMessage received kept (Err (error_of_route error)) decisions decisions
unasked_work received kept or_memory.Memory decisions gives =
    failed (domain_of_message kept received.message.now (route_of received.message.now)) received.message.now.body received.moment (Wanting Memory) decisions
unasked_work received kept (or_memory.Error fault) decisions gives = rw gives refl

-- ---- what goes back

fresh_work : (key : Key) (worked : Option Responded) (result : Result (List ℕ) HandlingError) (reply : Reply) (old new : DecisionsModel)
    → IsFresh key worked result old new → IsReplyOf result reply → IsAskWork key None worked reply old new
fresh_work key worked (Ok bytes) reply old new work is = subst (λ r. IsAskWork key None worked r old new) (sym is) work
fresh_work key worked (Err (Failed failure)) reply old new work is = subst (λ r. IsAskWork key None worked r old new) (sym is) (inl work)
fresh_work key worked (Err (Error code)) reply old new (none, same) (inl is) =
    subst (λ r. IsAskWork key None worked r old new) (sym is) (subst (λ w. IsEvaluated key w old new) (sym none) same)
fresh_work key worked (Err (Error code)) reply old new (none, same) (inr is) = subst (λ r. IsAskWork key None worked r old new) (sym is) (inl same)

ask_work : (key : Key) (held : Option (List ℕ)) (worked : Option Responded) (result : Result (List ℕ) HandlingError) (reply : Reply) (old new : DecisionsModel)
    → IsAsked key held worked result old new → IsReplyOf result reply → IsAskWork key held worked reply old new
ask_work key None worked result reply old new work is = fresh_work key worked result reply old new work is
ask_work key (Some body) worked (Ok bytes) reply old new work is = subst (λ r. IsAskWork key (Some body) worked r old new) (sym is) work
ask_work key (Some body) worked (Err (Failed failure)) reply old new work is = subst (λ r. IsAskWork key (Some body) worked r old new) (sym is) work
ask_work key (Some body) worked (Err (Error code)) reply old new work is = elim work [ ]

pub work_of : (asked : Option Domain) (body : List ℕ) (moment : ℤ) (result : Result (List ℕ) HandlingError) (reply : Reply) (old new : DecisionsModel)
    → WorksOf asked body moment result old new → IsReplyOf result reply → IsWorkOf asked body moment reply old new
work_of None body moment result reply old new work is = work
work_of (Some domain) body moment result reply old new work is =
    ask_work (cache_key domain body) (cached_body (cache_key domain body) body old) (evaluated_response domain.state body moment) result reply old new work is

-- a run goes on by one message
pub run_more : (old mid new : World) (held between left : DecisionsModel) (events : List Event) (replies : List Reply) (event : Event) (reply : Reply)
    → IsWorkOfRun old held events replies mid between → IsServed mid new event.0 event.1 reply → IsWork mid.kept event.0 event.1 reply between left
    → IsWorkOfRun old held (events ++ event ∷ []) (replies ++ reply ∷ []) new left
run_more old mid new held between left [] [] event reply run served work = (
  new,
  left,
  subst (λ (w : World). IsServed w new event.0 event.1 reply) run.0 served,
  subst (λ (t : DecisionsModel). IsWork old.kept event.0 event.1 reply t left) run.1 (subst (λ (w : World). IsWork w.kept event.0 event.1 reply between left) run.0 work),
  (refl, refl),
)
run_more old mid new held between left (e ∷ events) (r ∷ replies) event reply run served work =
    (run.0, run.1, run.2, run.3, run_more run.0 mid new run.1 between left events replies event reply run.4 served work)
run_more old mid new held between left [] (r ∷ replies) event reply run served work = elim run [ ]
run_more old mid new held between left (e ∷ events) [] event reply run served work = elim run [ ]
