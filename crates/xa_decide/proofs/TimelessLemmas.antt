-- What is answered is the same at every two moments, where no attribute that the clock gives is asked for.
use Rattle.std.proofs.Common.{◌≡◌, refl, ap, sym, ◌∙◌, ℕ, Bool, true, false, cond, List, [], ◌∷◌, map}
use Rattle.std.specs.Prelude.{◌&&◌, ◌||◌, bytes_eq, is_none, Option, Some, None, Result, Ok, Err, ℤ}
use Rattle.std.proofs.lemmas.Bool.{true≢false}
use Rattle.xa_value.specs.declared.category.Category.TheVariants.{Environment}
use Rattle.xa_value.specs.declared.data_type.DataType.{DataType}
use Rattle.xa_value.specs.declared.data_type.DataType.TheVariants as type
use Rattle.xa_value.specs.declared.value.Value.TheVariants as value
use Rattle.xa_value.specs.Category.{uri_of}
use Rattle.xa_value.specs.Moment.{date_of, date_time_of, time_of}
use Rattle.xa_expr.specs.declared.designator.Designator.{Designator}
use Rattle.xa_expr.specs.declared.fault.Fault.TheVariants.{ProcessingError}
use Rattle.xa_expr.specs.Evaluation.{Attributes}
use Rattle.xa_expr.specs.Timeless.{SameButForTheClock, is_clock_id, is_some_clock_id, names_the_clock}
use Rattle.xa_policy.specs.declared.linked.Linked.{Linked}
use Rattle.xa_policy.specs.Evaluation.{as_asked}
use Rattle.xa_policy.proofs.DesignatorLemmas.{steady}
use Rattle.xa_link.specs.declared.link_error.LinkError.{LinkError}
use Rattle.xa_profile.specs.declared.category_object.CategoryObject.{CategoryObject}
use Rattle.xa_profile.specs.declared.individuals.Individual.{Individual}
use Rattle.xa_profile.specs.declared.individuals.Individual.TheVariants.{Places, BadReference}
use Rattle.xa_profile.specs.declared.individuals.TooMany.{TooMany}
use Rattle.xa_profile.specs.declared.request.Request.{Request}
use Rattle.xa_profile.specs.declared.request_error.RequestError.{RequestError}
use Rattle.xa_profile.specs.declared.request_error.RequestError.TheVariants.{NotJson, NotProfile}
use Rattle.xa_profile.specs.Individuals.{individuals}
use Rattle.xa_profile.specs.Request.{request_of}
use Rattle.xa_decide.specs.declared.source_row.SourceRow.{SourceRow}
use Rattle.xa_decide.specs.Context.{clock_value, clock_value_in, entity, if_any, or_else, outside_values, request_values, source_values, values_of}
use Rattle.xa_decide.specs.Decision.{Viewed, answer, answer_to, decided, decision, evaluated_by_tree, objects_at, result_of, result_without_objects, results_of}
use Rattle.xa_decide.specs.Timeless.{ContextsDifferInTheClock, TimelessAnswersStay, TimelessRequestsStay, are_timeless, is_timeless_answer, is_timeless_read, is_timeless_request, is_timeless_tree}

-- ---- the clock

none_of : (a b c : Bool) → (a || (b || c)) ≡ false → (a ≡ false) × ((b ≡ false) × (c ≡ false))
none_of true b c e = absurd (true≢false e)
none_of false true c e = absurd (true≢false e)
none_of false false true e = absurd (true≢false e)
none_of false false false e = (refl, (refl, refl))

-- it gives nothing to an id that isn't one of its own
no_clock_value : (moment : ℤ) (id : List ℕ) (t : DataType) → is_some_clock_id id ≡ false → clock_value moment id t ≡ None
unfolding is_some_clock_id is_clock_id
no_clock_value moment id t e = by_type t where
  own : (is_clock_id type.Time id ≡ false) × ((is_clock_id type.Date id ≡ false) × (is_clock_id type.DateTime id ≡ false))
  own = none_of (is_clock_id type.Time id) (is_clock_id type.Date id) (is_clock_id type.DateTime id) e

  by_type : (t : DataType) → clock_value moment id t ≡ None
  by_type type.Time = ap (λ b. cond b (Some (value.Time (time_of moment))) None) own.0
  by_type type.Date = ap (λ b. cond b (Some (value.Date (date_of moment))) None) own.1.0
  by_type type.DateTime = ap (λ b. cond b (Some (value.DateTime (date_time_of moment))) None) own.1.1
  by_type type.String = refl
  by_type type.Boolean = refl
  by_type type.Integer = refl
  by_type type.DayTimeDuration = refl
  by_type type.YearMonthDuration = refl
  by_type type.AnyUri = refl
  by_type type.HexBinary = refl
  by_type type.Base64Binary = refl

clock_silent : (moment : ℤ) (d : Designator) → names_the_clock d ≡ false → clock_value_in moment d ≡ None
unfolding names_the_clock
clock_silent moment d = by_issuer (is_none d.issuer) (bytes_eq d.category (uri_of Environment)) where
  by_issuer : (unissued b : Bool) → (b && is_some_clock_id d.attribute_id) ≡ false
      → cond (unissued && b) (clock_value moment d.attribute_id d.data_type) None ≡ None
  by_issuer false b e = refl
  by_issuer true true e = no_clock_value moment d.attribute_id d.data_type e
  by_issuer true false e = refl

-- ---- one individual request

-- what a context gives to a designator that doesn't name the clock
without_clock : (objects : List CategoryObject) (source : List SourceRow) (moment : ℤ) (d : Designator) → names_the_clock d ≡ false
    → values_of (record { objects = objects; source = source; moment = moment }) d
    ≡ or_else (request_values objects d) (source_values source (entity objects d.category) d)
unfolding values_of outside_values
without_clock objects source moment d e =
    ap (λ given. or_else (request_values objects d) (or_else (if_any given) (source_values source (entity objects d.category) d))) (clock_silent moment d e)

-- it differs at two moments in the clock's attributes alone
pub same_but_for_the_clock : ContextsDifferInTheClock
same_but_for_the_clock objects source first second d e = without_clock objects source first d e ∙ sym (without_clock objects source second d e)

by_tree_same : (tree : Option (Result Linked LinkError)) → is_timeless_tree tree ≡ true → (a b : Attributes) → SameButForTheClock a b → evaluated_by_tree a tree ≡ evaluated_by_tree b tree
by_tree_same None timeless a b same = refl
by_tree_same (Some (Err e)) timeless a b same = refl
by_tree_same (Some (Ok tree)) timeless a b same = steady tree timeless a b same

decision_same : (view : Viewed) → is_timeless_tree view.tree ≡ true → (objects : List CategoryObject) (first second : ℤ)
    → decision view objects first ≡ decision view objects second
unfolding decision
decision_same view timeless objects first second =
    by_tree_same view.tree timeless (values_of (record { objects = objects; source = view.source; moment = first }))
    (values_of (record { objects = objects; source = view.source; moment = second })) (same_but_for_the_clock objects view.source first second)

-- ---- a request

result_same : (view : Viewed) → is_timeless_tree view.tree ≡ true → (asked : Bool) (objects : List CategoryObject) (first second : ℤ) (individual : Individual)
    → result_of view asked objects first individual ≡ result_of view asked objects second individual
result_same view timeless asked objects first second (Places places) =
    ap (λ e. record { evaluated = as_asked asked e; places = places }) (decision_same view timeless (objects_at objects places) first second)
result_same view timeless asked objects first second BadReference = refl

each_same : (view : Viewed) → is_timeless_tree view.tree ≡ true → (asked : Bool) (objects : List CategoryObject) (first second : ℤ) (them : List Individual)
    → map (result_of view asked objects first) them ≡ map (result_of view asked objects second) them
each_same view timeless asked objects first second [] = refl
each_same view timeless asked objects first second (x ∷ them) =
    ap (λ r. r ∷ map (result_of view asked objects first) them) (result_same view timeless asked objects first second x)
    ∙ ap (λ rs. result_of view asked objects second x ∷ rs) (each_same view timeless asked objects first second them)

results_same : (view : Viewed) (them : Result (List Individual) TooMany) → are_timeless view them ≡ true → (asked : Bool) (objects : List CategoryObject) (first second : ℤ)
    → results_of view asked objects first them ≡ results_of view asked objects second them
results_same view (Ok them) timeless asked objects first second = each_same view timeless asked objects first second them
results_same view (Err e) timeless asked objects first second = refl

pub decided_same : TimelessRequestsStay
unfolding decided is_timeless_request
decided_same view request timeless first second = by_combined request.combined_decision timeless where
  by_combined : (b : Bool) → cond b true (are_timeless view (individuals request)) ≡ true
      → cond b (result_without_objects ProcessingError ∷ []) (results_of view request.return_policy_id_list request.objects first (individuals request))
      ≡ cond b (result_without_objects ProcessingError ∷ []) (results_of view request.return_policy_id_list request.objects second (individuals request))
  by_combined true e = refl
  by_combined false e = results_same view (individuals request) e request.return_policy_id_list request.objects first second

-- ---- a body

answer_to_same : (view : Viewed) (read : Result Request RequestError) → is_timeless_read view read ≡ true → (first second : ℤ) → answer_to view first read ≡ answer_to view second read
answer_to_same view (Ok request) timeless first second =
    ap (λ results. Some (record { objects = request.objects; results = results })) (decided_same view request timeless first second)
answer_to_same view (Err NotJson) timeless first second = refl
answer_to_same view (Err NotProfile) timeless first second = refl

pub timeless_answers_stay : TimelessAnswersStay
unfolding answer is_timeless_answer
timeless_answers_stay view body timeless first second = answer_to_same view (request_of body) timeless first second
