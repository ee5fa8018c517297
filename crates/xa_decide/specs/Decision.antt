-- The decision on a request (XACML 3.0, core, sections 7.17 and 7.19; Multiple Decision Profile of XACML 3.0).
use Rattle.std.specs.Prelude.{ℕ, Bool, List, [], ◌∷◌, map, Option, Some, None, Result, Ok, Err, ℤ, if◌then◌else◌}
use Rattle.std.specs.List.{filter_map, slice_get}
use Rattle.xa_expr.specs.declared.fault.Fault.{Fault}
use Rattle.xa_expr.specs.declared.fault.Fault.TheVariants.{SyntaxError, ProcessingError}
use Rattle.xa_expr.specs.Evaluation.{Attributes}
use Rattle.xa_policy.specs.declared.evaluated.Evaluated.{Evaluated}
use Rattle.xa_policy.specs.declared.linked.Linked.{Linked}
use Rattle.xa_policy.specs.declared.reference.Reference.{Reference}
use Rattle.xa_policy.specs.Evaluation.{as_asked, evaluation, without_ids}
use Rattle.xa_policy.specs.Rule.{not_applicable, undecided}
use Rattle.xa_link.specs.declared.active.Active.{Active}
use Rattle.xa_link.specs.declared.link_error.LinkError.{LinkError}
use Rattle.xa_link.specs.Linking.{link}
use Rattle.xa_profile.specs.declared.category_object.CategoryObject.{CategoryObject}
use Rattle.xa_profile.specs.declared.individuals.Individual.{Individual}
use Rattle.xa_profile.specs.declared.individuals.Individual.TheVariants.{Places, BadReference}
use Rattle.xa_profile.specs.declared.individuals.TooMany.{TooMany}
use Rattle.xa_profile.specs.declared.request.Request.{Request}
use Rattle.xa_profile.specs.declared.request_error.RequestError.{RequestError}
use Rattle.xa_profile.specs.declared.request_error.RequestError.TheVariants.{NotJson, NotProfile}
use Rattle.xa_profile.specs.declared.response.ResultObject.{ResultObject}
use Rattle.xa_profile.specs.Individuals.{individuals}
use Rattle.xa_profile.specs.Request.{request_of}
use Rattle.xa_profile.specs.Response.{response_body}
use Rattle.xa_decide.specs.declared.source_row.SourceRow.{SourceRow}
use Rattle.xa_decide.specs.Context.{values_of}

-- what decides: the tree that the root stands for, if one is set, which may be too large, and the rows of the source
-- of attributes
pub record Viewed : Type 0 where
  pub tree : Option (Result Linked LinkError)
  pub source : List SourceRow

-- the tree that a root stands for among the active documents, if there is one: it may be too large
abbrev pub tree_of : List Active → Option Reference → Option (Result Linked LinkError)
tree_of active None = None
tree_of active (Some root) = Some (link active root)

-- what decides by the active documents, the reference to the root, if one is set, and the rows
abbrev pub view_by : List Active → Option Reference → List SourceRow → Viewed
view_by active root source = record { tree = tree_of active root; source = source }

-- ---- one individual request

-- what is decided by the tree: NotApplicable without one, and Indeterminate if it is too large
abbrev pub evaluated_by_tree : Attributes → Option (Result Linked LinkError) → Evaluated
evaluated_by_tree values_of None = without_ids not_applicable
evaluated_by_tree values_of (Some (Ok tree)) = evaluation values_of tree
evaluated_by_tree values_of (Some (Err e)) = without_ids (undecided ProcessingError)

-- what is decided of an individual request that has these Category objects, and the policies and policy sets that are
-- named with it
unfoldable pub decision : Viewed → List CategoryObject → ℤ → Evaluated
decision view objects moment =
    evaluated_by_tree (values_of (record { objects = objects; source = view.source; moment = moment })) view.tree

-- ---- a request

-- the one result of a request whose individual requests aren't decided, and that of a bad reference
abbrev pub result_without_objects : Fault → ResultObject
result_without_objects fault = record { evaluated = without_ids (undecided fault); places = [] }

-- the objects that have these places
abbrev pub objects_at : List CategoryObject → List ℕ → List CategoryObject
objects_at objects places = filter_map (slice_get objects) places

-- the result of an individual request; policies and policy sets are named in it if they are asked for
abbrev pub result_of : Viewed → Bool → List CategoryObject → ℤ → Individual → ResultObject
result_of view asked objects moment (Places places) =
    record { evaluated = as_asked asked (decision view (objects_at objects places) moment); places = places }
result_of view asked objects moment BadReference = result_without_objects SyntaxError

-- the results of all individual requests; one result if there are too many
abbrev pub results_of : Viewed → Bool → List CategoryObject → ℤ → Result (List Individual) TooMany → List ResultObject
results_of view asked objects moment (Ok individuals) = map (result_of view asked objects moment) individuals
results_of view asked objects moment (Err e) = result_without_objects ProcessingError ∷ []

-- the results of a request. One decision for all individual requests (CombinedDecision, core, section 5.42; Multiple
-- Decision Profile) isn't given
unfoldable pub decided : Viewed → Request → ℤ → List ResultObject
decided view request moment =
    if request.combined_decision then result_without_objects ProcessingError ∷ []
    else results_of view request.return_policy_id_list request.objects moment (individuals request)

-- ---- a body

-- the Category objects of a request, and its results
pub record Answered : Type 0 where
  pub objects : List CategoryObject
  pub results : List ResultObject

-- what is answered to what was read as a request: nothing if it is no JSON, and one result if it is JSON but no request
abbrev pub answer_to : Viewed → ℤ → Result Request RequestError → Option Answered
answer_to view moment (Ok request) = Some (record { objects = request.objects; results = decided view request moment })
answer_to view moment (Err NotJson) = None
answer_to view moment (Err NotProfile) =
    Some (record { objects = []; results = result_without_objects SyntaxError ∷ [] })

-- what is answered to a body
unfoldable pub answer : Viewed → List ℕ → ℤ → Option Answered
answer view body moment = answer_to view moment (request_of body)

-- the body of the response
abbrev pub body_of : Answered → List ℕ
body_of answered = response_body answered.objects answered.results
