-- Whether what is answered to a body is the same at every moment: no attribute that the clock gives is asked for
-- (XACML 3.0, core, section 7.3.6 and appendix B.7).
use Rattle.std.specs.Prelude.{◌≡◌, ℕ, Bool, true, List, Option, Some, None, Result, Ok, Err, ℤ, if◌then◌else◌}
use Rattle.xa_expr.specs.Timeless.{SameButForTheClock, is_timeless}
use Rattle.xa_policy.specs.declared.linked.Linked.{Linked}
use Rattle.xa_policy.specs.Designators.{designators_of_linked}
use Rattle.xa_link.specs.declared.link_error.LinkError.{LinkError}
use Rattle.xa_profile.specs.declared.category_object.CategoryObject.{CategoryObject}
use Rattle.xa_profile.specs.declared.individuals.Individual.{Individual}
use Rattle.xa_profile.specs.declared.individuals.TooMany.{TooMany}
use Rattle.xa_profile.specs.declared.request.Request.{Request}
use Rattle.xa_profile.specs.declared.request_error.RequestError.{RequestError}
use Rattle.xa_profile.specs.Individuals.{individuals}
use Rattle.xa_profile.specs.Request.{request_of}
use Rattle.xa_decide.specs.declared.source_row.SourceRow.{SourceRow}
use Rattle.xa_decide.specs.Context.{values_of}
use Rattle.xa_decide.specs.Decision.{Viewed, answer, decided}

-- no designator of the tree names the clock. If there is no tree, or it is too large, no attribute is asked for
abbrev pub is_timeless_tree : Option (Result Linked LinkError) → Bool
is_timeless_tree None = true
is_timeless_tree (Some (Err e)) = true
is_timeless_tree (Some (Ok tree)) = is_timeless (designators_of_linked tree)

-- individual requests are timeless if the tree is, whatever they are; one result stands for too many of them
abbrev pub are_timeless : Viewed → Result (List Individual) TooMany → Bool
are_timeless view (Ok individuals) = is_timeless_tree view.tree
are_timeless view (Err e) = true

-- a request is timeless if its individual requests are; if one decision for all is wanted (CombinedDecision), one
-- result stands for it
unfoldable pub is_timeless_request : Viewed → Request → Bool
is_timeless_request view request = if request.combined_decision then true else are_timeless view (individuals request)

-- what was read as a request is timeless if the request is. JSON that is no request always has the same result. What is
-- no JSON never has an answer
abbrev pub is_timeless_read : Viewed → Result Request RequestError → Bool
is_timeless_read view (Ok request) = is_timeless_request view request
is_timeless_read view (Err e) = true

-- what is answered to a body is timeless if what was read of it is
unfoldable pub is_timeless_answer : Viewed → List ℕ → Bool
is_timeless_answer view body = is_timeless_read view (request_of body)

-- law: what a context gives to designators differs at two moments in the clock's attributes alone
abbrev pub ContextsDifferInTheClock : Type 0
ContextsDifferInTheClock =
    (objects : List CategoryObject) (source : List SourceRow) (first second : ℤ)
    → SameButForTheClock (values_of (record { objects = objects; source = source; moment = first }))
    (values_of (record { objects = objects; source = source; moment = second }))

-- law: what is decided of a timeless request is the same at every two moments
abbrev pub TimelessRequestsStay : Type 0
TimelessRequestsStay =
    (view : Viewed) (request : Request) → is_timeless_request view request ≡ true → (first second : ℤ)
    → decided view request first ≡ decided view request second

-- law: a timeless answer is the same at every two moments
abbrev pub TimelessAnswersStay : Type 0
TimelessAnswersStay =
    (view : Viewed) (body : List ℕ) → is_timeless_answer view body ≡ true → (first second : ℤ)
    → answer view body first ≡ answer view body second
