-- Cached decisions stay right.
use Rattle.std.proofs.Common.{◌≡◌, ℕ, ℤ, List, refl, sym, ap, ◌∙◌, subst, inl, inr}
use Rattle.std.specs.Prelude.{Bool, true, false, ◌&&◌, Option, Some, None, option_map, Result, Ok, Err}
use Rattle.std.specs.FinMap.{get}
use Rattle.xa_cache.specs.Bodies.{fits, found}
use Rattle.xa_cache.specs.declared.key.Key.{Key}
use Rattle.xa_cache.proofs.BodyLemmas.{all_found, all_kept, all_looked}
use Rattle.xa_decide.specs.declared.decision.Responded.{Responded}
use Rattle.xa_decide.specs.Decision as decision
use Rattle.xa_decide.specs.Timeless.{is_timeless_answer}
use Rattle.xa_decide.proofs.TimelessLemmas.{timeless_answers_stay}
use Rattle.xa_records.specs.DomainState.{DomainState}
use Rattle.xa_records.specs.Kept.{DecidesAlike, Domain, IsNumbered, Kept, state_of}
use Rattle.xa_records.specs.Readings.{gate_of_domain}
use Rattle.xa_server.specs.declared.revision.Revision.{Revision}
use Rattle.xa_server.specs.declared.handling_error.HandlingError.{HandlingError}
use Rattle.xa_server.specs.declared.handling_error.HandlingError.TheVariants.{Error, Failed}
use Rattle.xa_server.specs.handling.Gates.{revision_by, revision_of}
use Rattle.xa_server.specs.handling.Asking.{IsFresh, IsLookedUp, evaluated_in}
use Rattle.xa_server.specs.Decisions.{DecisionsModel}
use Rattle.xa_server.specs.ValidCache.{AreValid, GivesBody, IsValid, response_body_at}
use Rattle.xa_server.specs.View.{view_of}
use Rattle.xa_server.specs.Work.{IsBodyCached, IsEvaluated, cache_key, evaluated_response, key_of_revision, response_of}
use Rattle.xa_server.proofs.GrowthLemmas.{HasGrown}
use Rattle.xa_server.proofs.StandingLemmas.{all_implied, found_holds, made_stands, stands_on}
use Rattle.xa_server.proofs.WorkLemmas.{domain_of_revision}

-- ---- as domains go on

-- what decides alike responds alike
alike_gives : (entry : Key × List ℕ) (a b : DomainState) → DecidesAlike a b → GivesBody entry a → GivesBody entry b
unfolding response_body_at
alike_gives entry a b alike gives =
    λ moment. let same : response_body_at b entry.0.body moment ≡ response_body_at a entry.0.body moment = rw (alike.documents, alike.root, alike.source) refl in same ∙ gives moment

pub valid_grown : (old new : Kept) → HasGrown old new → (held : List (Key × List ℕ)) → AreValid old held → AreValid new held
valid_grown old new grows held valid =
    all_implied (IsValid old) (IsValid new) (λ entry. stands_on (GivesBody entry) (alike_gives entry) old new grows entry.0.number entry.0.epoch) held valid

-- ---- a decision that is cached

pub found_right : (kept : Kept) (name : List ℕ) (domain : Domain) (held : List (Key × List ℕ)) (body decided : List ℕ) (moment : ℤ) → AreValid kept held
    → get kept.domains name ≡ Some domain → found (cache_key domain body) held ≡ Some decided → response_body_at domain.state body moment ≡ Some decided
found_right kept name domain held body decided moment valid there is =
    found_holds (GivesBody (cache_key domain body, decided)) kept name domain there (all_found (IsValid kept) (cache_key domain body) held decided valid is) moment

-- ---- a decision that was evaluated

one_response : (a b : Responded) → Some a ≡ Some b → a ≡ b
one_response a b e = cc

-- the body is that of the response
is_body : (state : DomainState) (body : List ℕ) (responded : Responded) (moment : ℤ) → evaluated_response state body moment ≡ Some responded
    → (response_body_at state body moment ≡ Some responded.body) × (is_timeless_answer (view_of state) body ≡ responded.timeless)
unfolding response_body_at response_of
is_body state body responded moment worked = by_answer (decision.answer (view_of state) body moment) refl where
  by_answer : (answered : Option decision.Answered) → decision.answer (view_of state) body moment ≡ answered
      → (response_body_at state body moment ≡ Some responded.body) × (is_timeless_answer (view_of state) body ≡ responded.timeless)
  by_answer None e = let none : None ≡ Some responded = rw e at worked in absurd cc
  by_answer (Some answered) e =
      let given : Responded = record { body = decision.body_of answered; timeless = is_timeless_answer (view_of state) body } in
      let same : given ≡ responded = one_response given responded (rw e at worked) in
      (rw e (ap (λ (r : Responded). Some r.body) same), ap (λ (r : Responded). r.timeless) same)

-- one that stays is right at every moment
stays_right : (state : DomainState) (body : List ℕ) (responded : Responded) (moment other : ℤ) → evaluated_response state body moment ≡ Some responded → responded.timeless ≡ true
    → response_body_at state body other ≡ Some responded.body
unfolding response_body_at
stays_right state body responded moment other worked marked =
    let is = is_body state body responded moment worked in
    ap (option_map decision.body_of) (timeless_answers_stay (view_of state) body (is.1 ∙ marked) other moment) ∙ is.0

worked_valid : (kept : Kept) (name : List ℕ) (domain : Domain) (body : List ℕ) (responded : Responded) (moment : ℤ) → IsNumbered kept → get kept.domains name ≡ Some domain
    → evaluated_response domain.state body moment ≡ Some responded → responded.timeless ≡ true → IsValid kept (cache_key domain body, responded.body)
worked_valid kept name domain body responded moment numbered there worked marked =
    made_stands (GivesBody (cache_key domain body, responded.body)) kept name domain numbered there (λ at. stays_right domain.state body responded moment at worked marked)

-- ---- what is cached after a message

module _ (kept' : Kept) (numbered : IsNumbered kept') (name : List ℕ) (domain' : Domain) (there : get kept'.domains name ≡ Some domain') (body : List ℕ) (moment : ℤ) where
  valid_held : (responded : Responded) (holds : Bool) → (holds ≡ true → responded.timeless ≡ true) → (old new : DecisionsModel) → evaluated_response domain'.state body moment ≡ Some responded
      → IsBodyCached holds (cache_key domain' body) responded.body old new → AreValid kept' old.cached → AreValid kept' new.cached
  valid_held responded false so old new worked (held, unkept) valid = subst (AreValid kept') (sym held) valid
  valid_held responded true so old new worked (inr (held, unkept)) valid = subst (AreValid kept') (sym held) valid
  valid_held responded true so old new worked (inl (held, unkept)) valid =
      subst (AreValid kept') (sym held)
      (all_kept (IsValid kept') (cache_key domain' body) responded.body old.cached
      (worked_valid kept' name domain' body responded moment numbered there worked (so refl)) valid)

  first : (a b : Bool) → (a && b) ≡ true → a ≡ true
  first true b h = refl
  first false b h = absurd cc

  valid_worked : (worked : Option Responded) (old new : DecisionsModel) → evaluated_response domain'.state body moment ≡ worked → IsEvaluated (cache_key domain' body) worked old new
      → AreValid kept' old.cached → AreValid kept' new.cached
  valid_worked None old new e same valid = subst (λ t. AreValid kept' t.cached) (sym same) valid
  valid_worked (Some responded) old new e (counted, held) valid =
      valid_held responded (responded.timeless && fits (cache_key domain' body) responded.body) (first responded.timeless (fits (cache_key domain' body) responded.body)) old new e held valid

  valid_fresh : (result : Result (List ℕ) HandlingError) (old new : DecisionsModel) → IsFresh (cache_key domain' body) (evaluated_response domain'.state body moment) result old new
      → AreValid kept' old.cached → AreValid kept' new.cached
  valid_fresh (Ok bytes) old new work valid = valid_worked (evaluated_response domain'.state body moment) old new refl work valid
  valid_fresh (Err (Error code)) old new (none, same) valid = subst (λ t. AreValid kept' t.cached) (sym same) valid
  valid_fresh (Err (Failed failure)) old new same valid = subst (λ t. AreValid kept' t.cached) (sym same) valid

-- after a look-up
pub looked_valid : (kept : Kept) (held : Option (List ℕ)) (key : Key) (old new : DecisionsModel) → IsLookedUp held key old new → AreValid kept old.cached → AreValid kept new.cached
looked_valid kept None key old new same valid = subst (λ t. AreValid kept t.cached) (sym same) valid
looked_valid kept (Some body) key old new moved valid = subst (λ t. AreValid kept t.cached) (sym moved) (all_looked (IsValid kept) key old.cached valid)

-- after a decision was evaluated in the domain of that revision
pub fresh_valid : (kept : Kept) (name body : List ℕ) (moment : ℤ) (revision : Revision) (result : Result (List ℕ) HandlingError) (old new : DecisionsModel) → IsNumbered kept → revision_of name kept ≡ Some revision
    → IsFresh (key_of_revision revision body) (evaluated_in (state_of name kept) body moment) result old new → AreValid kept old.cached → AreValid kept new.cached
fresh_valid kept name body moment revision result old new numbered opens work valid = by_gate (domain_of_revision kept name revision opens) where
  by_gate : ((d : Domain) × (get kept.domains name ≡ Some d) × (revision_by (gate_of_domain d) ≡ revision)) → AreValid kept new.cached
  by_gate (d, there, is) =
      let of_domain : IsFresh (cache_key d body) (evaluated_in (state_of name kept) body moment) result old new =
      subst (λ o. IsFresh (key_of_revision o body) (evaluated_in (state_of name kept) body moment) result old new) (sym is) work in
      valid_fresh kept numbered name d there body moment result old new (rw there at of_domain) valid
