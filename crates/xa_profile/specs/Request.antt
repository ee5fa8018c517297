-- Requests (JSON Profile of XACML 3.0, section 4; Multiple Decision Profile of XACML 3.0, section 2), by cases on
-- their JSON.
use Rattle.std.specs.Prelude.{ℕ, Bool, false, not, ◌||◌, List, [], ◌∷◌, ◌++◌, Option, Some, None, bytes_eq, Result, Ok}
use Rattle.std.specs.List.{list_any, filter_map}
use Rattle.std.specs.Option.{ok_or}
use Rattle.serde_json.specs.Data.{Data}
use Rattle.serde_json.specs.Find.{get}
use Rattle.xa_value.specs.Category.{shorthand_of, uri_of, all_categories, category_uri}
use Rattle.xa_value.specs.Gives.{◌>>=◌}
use Rattle.xa_value.specs.declared.category.Category.{Category}
use Rattle.xa_profile.specs.Attribute.{attribute}
use Rattle.xa_profile.specs.declared.category_object.CategoryObject.{CategoryObject}
use Rattle.xa_profile.specs.declared.member.Member.TheVariants as member
use Rattle.xa_profile.specs.declared.request.Request.{Request}
use Rattle.xa_profile.specs.declared.request_error.RequestError.{RequestError}
use Rattle.xa_profile.specs.declared.request_error.RequestError.TheVariants.{NotProfile}
use Rattle.xa_profile.specs.Json.{json, at, holds_or_not_profile, check_object, text, needed_text}
use Rattle.xa_profile.specs.Json.{optional_text, flag, items_or_itself, items_if_any, each}

-- the category that an object names
abbrev pub named_category : Option Data → Result (List ℕ) RequestError
named_category d = needed_text d >>= λ name. Ok (category_uri name)

-- the category of an object: that of the shorthand under which it stands, else the one that it names
abbrev pub category_of : Option Category → Data → Result (List ℕ) RequestError
category_of (Some category) d = Ok (uri_of category)
category_of None d = named_category (at member.CategoryId d)

-- a Category object, under a shorthand or not
unfoldable pub category_object : Option Category → Data → Result CategoryObject RequestError
category_object shorthand d = do
  _ ← check_object d
  category ← category_of shorthand d
  id ← optional_text (at member.Id d)
  attributes ← each attribute (items_if_any (at member.Attribute d))
  Ok (record { category = category; id = id; attributes = attributes })

-- the objects under shorthands, in the order of these
abbrev pub under_shorthands : List Category → Data → Result (List CategoryObject) RequestError
under_shorthands [] d = Ok []
under_shorthands (category ∷ others) d = do
  objects ← each (category_object (Some category)) (items_if_any (get (shorthand_of category) d))
  more ← under_shorthands others d
  Ok (objects ++ more)

-- all objects: those of the member Category, and then those under shorthands
unfoldable pub all_objects : Data → Result (List CategoryObject) RequestError
all_objects d = do
  objects ← each (category_object None) (items_if_any (at member.Category d))
  more ← under_shorthands all_categories d
  Ok (objects ++ more)

-- some text stands twice
abbrev pub has_twice : List (List ℕ) → Bool
has_twice [] = false
has_twice (t ∷ ts) = list_any (bytes_eq t) ts || has_twice ts

-- the ids of those objects that have one
abbrev pub ids_of : List CategoryObject → List (List ℕ)
ids_of objects = filter_map (λ object. object.id) objects

-- one of the several requests of MultiRequests: the ids of its objects
unfoldable pub reference : Data → Result (List (List ℕ)) RequestError
reference d = do
  ids ← ok_or (at member.ReferenceId d) NotProfile
  each text (items_or_itself ids)

-- all requests of MultiRequests, each as the ids of its objects
unfoldable pub references_in : Data → Result (List (List (List ℕ))) RequestError
references_in d = do
  references ← ok_or (at member.RequestReference d) NotProfile
  each reference (items_or_itself references)

-- all requests of MultiRequests; none if that is left out
abbrev pub all_references : Option Data → Result (List (List (List ℕ))) RequestError
all_references None = Ok []
all_references (Some d) = references_in d

-- a request: an object in which no two objects have the same id
unfoldable pub request : Data → Result Request RequestError
request d = do
  _ ← check_object d
  return_policy_id_list ← flag (at member.ReturnPolicyIdList d)
  combined_decision ← flag (at member.CombinedDecision d)
  objects ← all_objects d
  _ ← holds_or_not_profile (not (has_twice (ids_of objects)))
  references ← all_references (at member.MultiRequests d)
  Ok (record {
    return_policy_id_list = return_policy_id_list;
    combined_decision = combined_decision;
    objects = objects;
    references = references;
  })

-- the request that a body is
unfoldable pub request_of : List ℕ → Result Request RequestError
request_of body = do
  d ← json body
  member ← ok_or (at member.Request d) NotProfile
  request member
