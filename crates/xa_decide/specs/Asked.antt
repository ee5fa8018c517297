-- Whether a body asks the policies (XACML 3.0, core, section 5.42; Multiple Decision Profile of XACML 3.0).
use Rattle.std.specs.Prelude.{◌≡◌, ℕ, ℤ, Bool, false, List, is_ok, Result, Ok, Err, if◌then◌else◌}
use Rattle.xa_profile.specs.declared.request.Request.{Request}
use Rattle.xa_profile.specs.declared.request_error.RequestError.{RequestError}
use Rattle.xa_profile.specs.Individuals.{individuals}
use Rattle.xa_profile.specs.Request.{request_of}
use Rattle.xa_decide.specs.Decision.{Viewed, answer}
use Rattle.xa_decide.specs.Timeless.{is_timeless_answer}

-- a request asks policies, unless one decision for all individual requests is wanted (CombinedDecision), or there are
-- too many of them
abbrev pub request_asks : Request → Bool
request_asks request = if request.combined_decision then false else is_ok (individuals request)

-- what was read as a request asks policies, if it is one that does
abbrev pub read_asks : Result Request RequestError → Bool
read_asks (Ok request) = request_asks request
read_asks (Err e) = false

-- a body asks policies
unfoldable pub asks_policies : List ℕ → Bool
asks_policies body = read_asks (request_of body)

-- law: a body that asks no policies is answered alike whatever decides, and at every moment
abbrev pub OthersAreAnsweredAlike : Type 0
OthersAreAnsweredAlike =
    (body : List ℕ) → asks_policies body ≡ false → (one other : Viewed) (first second : ℤ)
    → (answer one body first ≡ answer other body second) × (is_timeless_answer one body ≡ is_timeless_answer other body)
