-- A decision that is cached, and one that is evaluated, as the machine tells it.
use Rattle.std.proofs.Common.{◌≡◌, ℕ, ℤ, List, refl, sym, ap, ◌∙◌, subst, cond, true, false}
use Rattle.std.specs.Option.{ok_or}
use Rattle.std.specs.Prelude.{Bool, ◌&&◌, nat_le, length, Option, Some, None, option_map, Result, Ok, Err, IfSome, OnErr}
use Rattle.std.specs.FinMap.{get}
use Rattle.xa_value.specs.Gives.{◌>>=◌}
use Rattle.xa_cache.specs.Bodies.{found}
use Rattle.xa_cache.specs.declared.key.Key.{Key}
use Rattle.xa_decide.specs.declared.decision.Responded.{Responded}
use Rattle.xa_decide.proofs.AskedLemmas.{others_alike}
use Rattle.xa_decide.specs.Asked.{asks_policies}
use Rattle.xa_decide.specs.Decision as decision
use Rattle.xa_decide.specs.Decision.{Viewed}
use Rattle.xa_decide.specs.Timeless.{is_timeless_answer}
use Rattle.xa_notation.specs.declared.notation_error.NotationError.TheVariants.{NotJson}
use Rattle.xa_records.specs.declared.refusal.Failure.TheVariants.{Memory, Store}
use Rattle.xa_records.specs.declared.refusal.Refusal.TheVariants.{Absent}
use Rattle.xa_records.specs.DomainState.{DomainState}
use Rattle.xa_records.specs.Keeper.{Custody}
use Rattle.xa_records.specs.Kept.{Domain, Kept, state_of}
use Rattle.xa_records.specs.Readings.{gate_of_domain}
use Rattle.xa_server.specs.declared.cause.Cause.TheVariants as cause
use Rattle.xa_server.specs.declared.cause.Cause.TheVariants.{Wanting}
use Rattle.xa_server.specs.declared.error_code.ErrorCode.{ErrorCode}
use Rattle.xa_server.specs.declared.error_code.ErrorCode.TheVariants as error
use Rattle.xa_server.specs.declared.revision.Revision.{Revision}
use Rattle.xa_server.specs.declared.handling_error.HandlingError.{HandlingError}
use Rattle.xa_server.specs.declared.handling_error.HandlingError.TheVariants.{Error, Failed}
use Rattle.xa_server.specs.handling.Gates.{revision_by, revision_of}
use Rattle.xa_server.specs.handling.Asking.{IsFresh, IsNoted, IsResponseReply, evaluated_in, key_within, reply_told, response_told, view_told}
use Rattle.xa_server.specs.handling.Replying.{Answers, OnlyReads, Shows}
use Rattle.xa_server.specs.Decisions.{DecisionsModel}
use Rattle.xa_server.specs.Machine.{response_to, told}
use Rattle.xa_server.specs.Replies.{decision_reply}
use Rattle.xa_server.specs.ValidCache.{AreValid, response_body_at}
use Rattle.xa_server.specs.View.{view_of}
use Rattle.xa_server.specs.handling.Viewing.{nothing_viewed}
use Rattle.xa_server.specs.Work.{IsBodyCached, IsEvaluated, cached_body, key_of_revision, response_of}
use Rattle.xa_server.proofs.GrowthLemmas.{stays}
use Rattle.xa_server.proofs.ValidLemmas.{found_right}
use Rattle.xa_server.proofs.WorkLemmas.{domain_of_revision}

-- ---- what was responded

-- a response has that body and that mark
one_response : (r : Responded) (body : List ℕ) (timeless : Bool) → r.body ≡ body → r.timeless ≡ timeless → r ≡ record { body = body; timeless = timeless }
one_response r body timeless body_is marked = λ i. record { body = body_is i; timeless = marked i }

-- a response with its mark is what is evaluated
response_is : (view : Viewed) (body : List ℕ) (moment : ℤ) (sent : Option Responded) → option_map (λ r. r.body) sent ≡ option_map decision.body_of (decision.answer view body moment)
    → IfSome sent (λ r. r.timeless ≡ is_timeless_answer view body) → response_of view body moment ≡ sent
unfolding response_of
response_is view body moment sent is timeless = by_answer (decision.answer view body moment) refl sent is timeless where
  by_answer : (answered : Option decision.Answered) → decision.answer view body moment ≡ answered → (s : Option Responded)
      → option_map (λ r. r.body) s ≡ option_map decision.body_of (decision.answer view body moment) → IfSome s (λ r. r.timeless ≡ is_timeless_answer view body)
      → response_of view body moment ≡ s
  by_answer None e None is timeless = rw e refl
  by_answer None e (Some r) is timeless = let none : Some r.body ≡ None = is ∙ ap (option_map decision.body_of) e in absurd cc
  by_answer (Some answered) e None is timeless = let none : None ≡ Some (decision.body_of answered) = is ∙ ap (option_map decision.body_of) e in absurd cc
  by_answer (Some answered) e (Some r) is timeless =
      let some : Some r.body ≡ Some (decision.body_of answered) = is ∙ ap (option_map decision.body_of) e in
      let body_is : r.body ≡ decision.body_of answered = cc in
      rw e (ap Some (sym (one_response r (decision.body_of answered) (is_timeless_answer view body) body_is timeless)))

-- where it is told, or why there is none
pub response_so : (view : Viewed) (body : List ℕ) (moment : ℤ) (sent : Option Responded) (responded : Responded) → ok_or sent (error.Body NotJson) ≡ Ok responded
    → option_map (λ r. r.body) sent ≡ option_map decision.body_of (decision.answer view body moment) → IfSome sent (λ r. r.timeless ≡ is_timeless_answer view body)
    → response_of view body moment ≡ Some responded
response_so view body moment None responded told is timeless = absurd cc
response_so view body moment (Some r) responded told is timeless =
    let same : r ≡ responded = (let it : Ok r ≡ Ok responded = told in cc) in
    response_is view body moment (Some r) is timeless ∙ ap Some same

pub no_response : (view : Viewed) (body : List ℕ) (moment : ℤ) (sent : Option Responded) (code : ErrorCode) → ok_or sent (error.Body NotJson) ≡ Err code
    → option_map (λ r. r.body) sent ≡ option_map decision.body_of (decision.answer view body moment) → IfSome sent (λ r. r.timeless ≡ is_timeless_answer view body)
    → IsResponseReply (response_of view body moment) (Err (Error code))
no_response view body moment (Some r) code told is timeless = absurd cc
no_response view body moment None code told is timeless =
    let same : code ≡ error.Body NotJson = (let it : error.Body NotJson ≡ code = (let e : Err (error.Body NotJson) ≡ Err code = told in cc) in sym it) in
    (response_is view body moment None is timeless, same)

-- ---- what the response comes to

-- the view of a domain that is there is that of its state
by_view : (state : Option DomainState) (view : Viewed) (body : List ℕ) (moment : ℤ) → view_told state ≡ Ok view
    → response_told body moment state ≡ ok_or (response_of view body moment) (error.Body NotJson)
by_view None view body moment is = absurd cc
by_view (Some state) view body moment is =
    let same : view_of state ≡ view = let it : Ok (view_of state) ≡ Ok view = is in cc in ap (λ v. ok_or (response_of v body moment) (error.Body NotJson)) same

-- the reply is that of the domain
pub replied : (old new : Kept) (name body : List ℕ) (moment : ℤ) (view : Viewed) (result : Result (List ℕ) HandlingError) → view_told (state_of name old) ≡ Ok view
    → IsResponseReply (response_of view body moment) result → new ≡ old → Shows old new result (reply_told body moment (state_of name old))
replied old new name body moment view result is meant same =
    subst (λ (told : Result Responded ErrorCode). Shows old new result (told >>= (λ response. Ok (decision_reply response.body)))) (sym (by_view (state_of name old) view body moment is))
    (by_response (response_of view body moment) result meant) where
      by_response : (response : Option Responded) (r : Result (List ℕ) HandlingError) → IsResponseReply response r → Shows old new r (ok_or response (error.Body NotJson) >>= (λ (sent : Responded). Ok (decision_reply sent.body)))
      by_response (Some sent) (Ok bytes) meant = (let e : decision_reply sent.body ≡ bytes = cc in ap Ok e, same)
      by_response None (Ok bytes) meant = absurd cc
      by_response (Some sent) (Err (Error code)) (none, no_json) = absurd cc
      by_response None (Err (Error code)) (none, no_json) = (ap Err (sym no_json), same)
      by_response response (Err (Failed failure)) meant = same

-- what the view gives is what is evaluated in the domain
worked_by : (state : Option DomainState) (view : Viewed) (body : List ℕ) (moment : ℤ) → view_told state ≡ Ok view → response_of view body moment ≡ evaluated_in state body moment
worked_by None view body moment is = absurd cc
worked_by (Some state) view body moment is =
    let same : view_of state ≡ view = let it : Ok (view_of state) ≡ Ok view = is in cc in ap (λ v. response_of v body moment) (sym same)

pub works_by : (state : Option DomainState) (view : Viewed) (body : List ℕ) (moment : ℤ) (key : Key) (result : Result (List ℕ) HandlingError) (old new : DecisionsModel) → view_told state ≡ Ok view
    → IsFresh key (response_of view body moment) result old new → IsFresh key (evaluated_in state body moment) result old new
works_by state view body moment key result old new is works = subst (λ worked. IsFresh key worked result old new) (worked_by state view body moment is) works

-- an absent domain has no reply, and nothing is evaluated for it
pub absent_reply : (state : Option DomainState) (body : List ℕ) (moment : ℤ) (code : ErrorCode) → view_told state ≡ Err code → reply_told body moment state ≡ Err code
absent_reply None body moment code is = let e : error.Keeper Absent ≡ code = cc in ap Err e
absent_reply (Some state) body moment code is = absurd cc

pub absent_worked : (state : Option DomainState) (body : List ℕ) (moment : ℤ) (code : ErrorCode) → view_told state ≡ Err code → evaluated_in state body moment ≡ None
absent_worked None body moment code is = refl
absent_worked (Some state) body moment code is = absurd cc

-- the machine tells the same
machine_tells : (state : Option DomainState) (body : List ℕ) (moment : ℤ) → told (response_to body moment) state ≡ (reply_told body moment state >>= λ bytes. Ok (bytes, state))
unfolding response_to response_of
machine_tells None body moment = refl
machine_tells (Some state) body moment = by_answer (decision.answer (view_of state) body moment) refl where
  by_answer : (answered : Option decision.Answered) → decision.answer (view_of state) body moment ≡ answered
      → told (response_to body moment) (Some state) ≡ (reply_told body moment (Some state) >>= λ bytes. Ok (bytes, Some state))
  by_answer None e = rw e refl
  by_answer (Some answered) e = rw e refl

pub answers : (old new : Kept) (name body : List ℕ) (moment : ℤ) (result : Result (List ℕ) HandlingError) → Shows old new result (reply_told body moment (state_of name old))
    → Answers old new name result (told (response_to body moment) (state_of name old))
answers old new name body moment (Ok bytes) (meant, same) =
    (state_of name old, machine_tells (state_of name old) body moment ∙ ap (λ told. told >>= λ bs. Ok (bs, state_of name old)) meant, stays old new name same)
answers old new name body moment (Err (Error code)) (meant, same) =
    (machine_tells (state_of name old) body moment ∙ ap (λ told. told >>= λ bs. Ok (bs, state_of name old)) meant, same)
answers old new name body moment (Err (Failed failure)) same = same

-- nothing has changed
pub told_same : (old new : Kept) (result : Result (List ℕ) HandlingError) (meant : Result (List ℕ) ErrorCode) → Shows old new result meant → new ≡ old
told_same old new (Ok bytes) meant told = told.1
told_same old new (Err (Error code)) meant told = told.1
told_same old new (Err (Failed failure)) meant same = same

-- the keeper isn't asked, and the views are as they were
pub keeper_left : (custody : Custody) (view : Viewed) (body : List ℕ) (moment : ℤ) (result : Result (List ℕ) HandlingError) → IsResponseReply (response_of view body moment) result → OnlyReads custody custody result
keeper_left custody view body moment (Ok bytes) meant = record { sound = λ sound. sound; clean = λ clean. clean; stays = λ clean sound on. sound; leaves = λ clean sound left is. is; counts = refl; was_open = λ on. on; stays_open = λ other on. on }
keeper_left custody view body moment (Err (Error code)) meant = record { sound = λ sound. sound; clean = λ clean. clean; stays = λ clean sound on. sound; leaves = λ clean sound left is. is; counts = refl; was_open = λ on. on; stays_open = λ other on. on }
keeper_left custody view body moment (Err (Failed (Wanting Memory))) meant = record { sound = λ sound. sound; clean = λ clean. clean; stays = λ clean sound on. sound; leaves = λ clean sound left is. is; counts = refl; was_open = λ on. on; stays_open = λ other on. on }
keeper_left custody view body moment (Err (Failed (cause.OverLimit over))) meant = record { sound = λ sound. sound; clean = λ clean. clean; stays = λ clean sound on. sound; leaves = λ clean sound left is. is; counts = refl; was_open = λ on. on; stays_open = λ other on. on }
keeper_left custody view body moment (Err (Failed (Wanting Store))) meant = let none : Store ≡ Memory = meant in absurd cc

pub views_left : (result : Result (List ℕ) HandlingError) (claim : Type 0) → claim → OnErr result claim
views_left (Ok bytes) claim holds = tt
views_left (Err handling_error) claim holds = holds

-- ---- the key of a body

and_false : (a other : Bool) → (a && (false && other)) ≡ false
and_false true other = refl
and_false false other = refl

-- a decision that was evaluated is cached under the key of its body, if that isn't too large
pub noted : (key : Key) (given : Option Key) (responded : Responded) (old new : DecisionsModel) → given ≡ key_within key → IsNoted given responded old new
    → IsEvaluated key (Some responded) old new
noted key given responded old new is = subst (λ (g : Option Key). IsNoted g responded old new → IsEvaluated key (Some responded) old new) (sym is) (by_size (nat_le (length key.body) 16_384) refl) where
  by_size : (small : Bool) → nat_le (length key.body) 16_384 ≡ small → IsNoted (cond small (Some key) None) responded old new → IsEvaluated key (Some responded) old new
  by_size true e work = work
  by_size false e (more, held, unkept) =
      (more, subst (λ (b : Bool). IsBodyCached b key responded.body old new) (sym (ap (λ (b : Bool). responded.timeless && (b && nat_le (length responded.body) 16_384)) e ∙ and_false responded.timeless (nat_le (length responded.body) 16_384))) (held, unkept))

-- the key is the one that was given, and what is cached under it is found
pub key_is : (key small : Key) → Some small ≡ key_within key → small ≡ key
key_is key small is = by_size (nat_le (length key.body) 16_384) is where
  by_size : (b : Bool) → Some small ≡ cond b (Some key) None → small ≡ key
  by_size true e = cc
  by_size false e = absurd cc

pub held_within : (key small : Key) (decisions : DecisionsModel) → Some small ≡ key_within key → cached_body key key.body decisions ≡ found small decisions.cached
held_within key small decisions is = by_size (nat_le (length key.body) 16_384) is where
  by_size : (b : Bool) → Some small ≡ cond b (Some key) None → cond b (found key decisions.cached) None ≡ found small decisions.cached
  by_size true e = let same : small ≡ key = cc in ap (λ k. found k decisions.cached) (sym same)
  by_size false e = absurd cc

-- without a key nothing is
pub held_beyond : (key : Key) (decisions : DecisionsModel) → None ≡ key_within key → cached_body key key.body decisions ≡ None
held_beyond key decisions is = by_size (nat_le (length key.body) 16_384) is where
  by_size : (b : Bool) → None ≡ cond b (Some key) None → cond b (found key decisions.cached) None ≡ None
  by_size true e = absurd cc
  by_size false e = refl

-- ---- a decision that is cached

held_is : (key : Key) (body decided : List ℕ) (decisions : DecisionsModel) → cached_body key body decisions ≡ Some decided → found key decisions.cached ≡ Some decided
held_is key body decided decisions is = by_size (nat_le (length body) 16_384) is where
  by_size : (small : Bool) → cond small (found key decisions.cached) None ≡ Some decided → found key decisions.cached ≡ Some decided
  by_size true is = is
  by_size false is = absurd cc

-- the machine tells it
pub hit : (kept : Kept) (name body decided : List ℕ) (moment : ℤ) (revision : Revision) (decisions : DecisionsModel) → revision_of name kept ≡ Some revision → AreValid kept decisions.cached
    → cached_body (key_of_revision revision body) body decisions ≡ Some decided → reply_told body moment (state_of name kept) ≡ Ok (decision_reply decided)
unfolding response_body_at response_of
hit kept name body decided moment revision decisions opens valid held = by_gate (domain_of_revision kept name revision opens) where
  by_answer : (state : DomainState) → response_body_at state body moment ≡ Some decided → (answered : Option decision.Answered) → decision.answer (view_of state) body moment ≡ answered
      → reply_told body moment (Some state) ≡ Ok (decision_reply decided)
  by_answer state right None e = let none : None ≡ Some decided = rw e at right in absurd cc
  by_answer state right (Some answered) e =
      let same : Some (decision.body_of answered) ≡ Some decided = rw e at right in
      let body_is : decision.body_of answered ≡ decided = cc in rw e (ap (λ b. Ok (decision_reply b)) body_is)

  by_gate : ((d : Domain) × (get kept.domains name ≡ Some d) × (revision_by (gate_of_domain d) ≡ revision)) → reply_told body moment (state_of name kept) ≡ Ok (decision_reply decided)
  by_gate (d, there, is) =
      let key : found (key_of_revision (revision_by (gate_of_domain d)) body) decisions.cached ≡ Some decided =
      subst (λ o. found (key_of_revision o body) decisions.cached ≡ Some decided) (sym is) (held_is (key_of_revision revision body) body decided decisions held) in
      let right = found_right kept name d decisions.cached body decided moment valid there key in
      rw there (by_answer d.state right (decision.answer (view_of d.state) body moment) refl)

-- the reply by it is the machine's
pub hit_reply : (kept : Kept) (name body : List ℕ) (moment : ℤ) (revision : Revision) (decisions : DecisionsModel) (reply : List ℕ) → revision_of name kept ≡ Some revision → AreValid kept decisions.cached
    → Some reply ≡ option_map decision_reply (cached_body (key_of_revision revision body) body decisions)
    → Answers kept kept name (Ok reply) (told (response_to body moment) (state_of name kept))
hit_reply kept name body moment revision decisions reply opens valid is = by_held (cached_body (key_of_revision revision body) body decisions) refl is where
  by_held : (held : Option (List ℕ)) → cached_body (key_of_revision revision body) body decisions ≡ held → Some reply ≡ option_map decision_reply held
      → Answers kept kept name (Ok reply) (told (response_to body moment) (state_of name kept))
  by_held None e is = absurd cc
  by_held (Some decided) e is =
      let same : reply ≡ decision_reply decided = cc in
      answers kept kept name body moment (Ok reply) (hit kept name body decided moment revision decisions opens valid e ∙ ap Ok (sym same), refl)

-- ---- a body that doesn't ask the policies

-- a view of nothing gives what any gives
unasked : (view : Viewed) (body : List ℕ) (moment : ℤ) → asks_policies body ≡ false → response_of nothing_viewed body moment ≡ response_of view body moment
unfolding response_of
unasked view body moment none =
    let alike = others_alike body none nothing_viewed view moment moment in
    let marked : Bool → decision.Answered → Responded = λ timeless answered. record { body = decision.body_of answered; timeless = timeless } in
    ap (λ (timeless : Bool). option_map (marked timeless) (decision.answer nothing_viewed body moment)) alike.1
    ∙ ap (option_map (marked (is_timeless_answer view body))) alike.0

module _ (kept : Kept) (name body : List ℕ) (moment : ℤ) (revision : Revision) (opens : revision_of name kept ≡ Some revision) (none : asks_policies body ≡ false) where
  -- the reply by it is that of the domain
  pub unasked_reply : (result : Result (List ℕ) HandlingError) → IsResponseReply (response_of nothing_viewed body moment) result → Shows kept kept result (reply_told body moment (state_of name kept))
  unasked_reply result meant = by_domain (domain_of_revision kept name revision opens) where
    by_domain : ((d : Domain) × (get kept.domains name ≡ Some d) × (revision_by (gate_of_domain d) ≡ revision)) → Shows kept kept result (reply_told body moment (state_of name kept))
    by_domain (d, there, is) =
        replied kept kept name body moment (view_of d.state) result (rw there refl) (subst (λ r. IsResponseReply r result) (unasked (view_of d.state) body moment none) meant) refl

  -- and so is the work
  pub unasked_works : (key : Key) (result : Result (List ℕ) HandlingError) (old new : DecisionsModel) → IsFresh key (response_of nothing_viewed body moment) result old new
      → IsFresh key (evaluated_in (state_of name kept) body moment) result old new
  unasked_works key result old new works = by_domain (domain_of_revision kept name revision opens) where
    by_domain : ((d : Domain) × (get kept.domains name ≡ Some d) × (revision_by (gate_of_domain d) ≡ revision)) → IsFresh key (evaluated_in (state_of name kept) body moment) result old new
    by_domain (d, there, is) =
        works_by (state_of name kept) (view_of d.state) body moment key result old new (rw there refl) (subst (λ r. IsFresh key r result old new) (unasked (view_of d.state) body moment none) works)
