-- A body that doesn't ask the policies is answered alike whatever decides.
use Rattle.std.proofs.Common.{◌≡◌, refl, sym, ap, ◌∙◌, ℕ, ℤ, Bool, true, false, cond, List, [], ◌∷◌}
use Rattle.std.specs.Prelude.{is_ok, Some, Result, Ok, Err}
use Rattle.std.proofs.lemmas.Bool.{true≢false}
use Rattle.xa_expr.specs.declared.fault.Fault.TheVariants.{ProcessingError}
use Rattle.xa_profile.specs.declared.individuals.Individual.{Individual}
use Rattle.xa_profile.specs.declared.individuals.TooMany.{TooMany}
use Rattle.xa_profile.specs.declared.request.Request.{Request}
use Rattle.xa_profile.specs.declared.request_error.RequestError.{RequestError}
use Rattle.xa_profile.specs.declared.request_error.RequestError.TheVariants.{NotJson, NotProfile}
use Rattle.xa_profile.specs.Individuals.{individuals}
use Rattle.xa_profile.specs.Request.{request_of}
use Rattle.xa_decide.specs.Asked.{OthersAreAnsweredAlike, asks_policies, read_asks, request_asks}
use Rattle.xa_decide.specs.Decision.{Viewed, answer, answer_to, decided, result_without_objects, results_of}
use Rattle.xa_decide.specs.Timeless.{are_timeless, is_timeless_answer, is_timeless_read, is_timeless_request}

-- ---- a request

decided_alike : (request : Request) → request_asks request ≡ false → (one other : Viewed) (first second : ℤ) → decided one request first ≡ decided other request second
unfolding decided
decided_alike request none one other first second = by_combined request.combined_decision (individuals request) none where
  by_combined : (b : Bool) (them : Result (List Individual) TooMany) → cond b false (is_ok them) ≡ false
      → cond b (result_without_objects ProcessingError ∷ []) (results_of one request.return_policy_id_list request.objects first them)
      ≡ cond b (result_without_objects ProcessingError ∷ []) (results_of other request.return_policy_id_list request.objects second them)
  by_combined true them e = refl
  by_combined false (Ok them) e = absurd (true≢false e)
  by_combined false (Err x) e = refl

timeless_alike : (request : Request) → request_asks request ≡ false → (one other : Viewed) → is_timeless_request one request ≡ is_timeless_request other request
unfolding is_timeless_request
timeless_alike request none one other = by_combined request.combined_decision (individuals request) none where
  by_combined : (b : Bool) (them : Result (List Individual) TooMany) → cond b false (is_ok them) ≡ false → cond b true (are_timeless one them) ≡ cond b true (are_timeless other them)
  by_combined true them e = refl
  by_combined false (Ok them) e = absurd (true≢false e)
  by_combined false (Err x) e = refl

-- ---- a body

answered_alike : (read : Result Request RequestError) → read_asks read ≡ false → (one other : Viewed) (first second : ℤ) → answer_to one first read ≡ answer_to other second read
answered_alike (Ok request) none one other first second =
    ap (λ results. Some (record { objects = request.objects; results = results })) (decided_alike request none one other first second)
answered_alike (Err NotJson) none one other first second = refl
answered_alike (Err NotProfile) none one other first second = refl

read_alike : (read : Result Request RequestError) → read_asks read ≡ false → (one other : Viewed) → is_timeless_read one read ≡ is_timeless_read other read
read_alike (Ok request) none one other = timeless_alike request none one other
read_alike (Err e) none one other = refl

pub others_alike : OthersAreAnsweredAlike
unfolding asks_policies answer is_timeless_answer
others_alike body none one other first second = (answered_alike (request_of body) none one other first second, read_alike (request_of body) none one other)
