-- The individual requests of a request (Multiple Decision Profile of XACML 3.0, section 2; JSON Profile, section 4.2):
-- those that MultiRequests names, or one for each combination of one object a category.
use Rattle.std.specs.Prelude.{ℕ, Bool, false, ◌==◌, nat_lt, List, [], ◌∷◌, ◌++◌, map, filter, length, Option}
use Rattle.std.specs.Prelude.{Some, None, is_none, option_map, bytes_eq, Result, Ok, Err, if◌then◌else◌}
use Rattle.std.specs.List.{list_any, position, filter_map, flat_map, fold, range_with_len, slice_get}
use Rattle.xa_profile.specs.declared.category_object.CategoryObject.{CategoryObject}
use Rattle.xa_profile.specs.declared.individuals.Individual.{Individual}
use Rattle.xa_profile.specs.declared.individuals.Individual.TheVariants.{Places, BadReference}
use Rattle.xa_profile.specs.declared.individuals.TooMany.{TooMany}
use Rattle.xa_profile.specs.declared.request.Request.{Request}
use Rattle.xa_profile.specs.Request.{has_twice}

-- a place is one of the chosen ones
abbrev pub is_chosen : List ℕ → ℕ → Bool
is_chosen chosen place = list_any (λ p. p == place) chosen

-- an individual is the places of its objects among all objects of the request, in the request's order and each once
abbrev pub in_request_order : List CategoryObject → List ℕ → List ℕ
in_request_order objects chosen = filter (is_chosen chosen) (range_with_len 0 (length objects))

-- the object has the id
abbrev pub has_id : List ℕ → Option (List ℕ) → Bool
has_id id None = false
has_id id (Some own) = bytes_eq own id

-- the place of the object that an id names
abbrev pub place_named : List CategoryObject → List ℕ → Option ℕ
place_named objects id = position (λ object. has_id id object.id) objects

-- the places that ids name, in the order of the ids
abbrev pub places_named : List CategoryObject → List (List ℕ) → List ℕ
places_named objects ids = filter_map (place_named objects) ids

-- some id names no object
abbrev pub has_unknown : List CategoryObject → List (List ℕ) → Bool
has_unknown objects ids = list_any (λ id. is_none (place_named objects id)) ids

-- the category of the object at a place
abbrev pub category_at : List CategoryObject → ℕ → Option (List ℕ)
category_at objects place = option_map (λ object. object.category) (slice_get objects place)

-- the categories of the objects at places
abbrev pub categories_at : List CategoryObject → List ℕ → List (List ℕ)
categories_at objects places = filter_map (category_at objects) places

-- an individual of these places, if no two of its objects have the same category
abbrev pub of_places : List CategoryObject → List ℕ → Individual
of_places objects places = if has_twice (categories_at objects places) then BadReference else Places places

-- the individual that a reference names by the ids of its objects
unfoldable pub individual_named : List CategoryObject → List (List ℕ) → Individual
individual_named objects ids =
    if has_unknown objects ids then BadReference
    else of_places objects (in_request_order objects (places_named objects ids))

-- texts, and one more after them unless it is there
abbrev pub with_new : List (List ℕ) → List ℕ → List (List ℕ)
with_new texts text = if list_any (bytes_eq text) texts then texts else texts ++ text ∷ []

-- the categories of a request, in order of first appearance
abbrev pub categories : List CategoryObject → List (List ℕ)
categories objects = fold with_new [] (map (λ object. object.category) objects)

-- an object of a category that may be absent is of this one
abbrev pub is_of : List ℕ → Option (List ℕ) → Bool
is_of category None = false
is_of category (Some own) = bytes_eq category own

-- the places of a category's objects
abbrev pub places_of : List CategoryObject → List ℕ → List ℕ
places_of objects category =
    filter (λ place. is_of category (category_at objects place)) (range_with_len 0 (length objects))

-- each combination so far with each of the places after it, the place changing fastest
abbrev pub with_each : List (List ℕ) → List ℕ → List (List ℕ)
with_each combinations places = flat_map (λ combination. map (λ place. combination ++ place ∷ []) places) combinations

-- all combinations of one place of each list
abbrev pub combinations : List (List ℕ) → List (List ℕ)
combinations lists = fold with_each ([] ∷ []) lists

-- all combinations of one object a category
unfoldable pub all_combinations : List CategoryObject → List (List ℕ)
all_combinations objects = combinations (map (places_of objects) (categories objects))

-- all individuals: by references, or without any by combinations
abbrev pub all_individuals : List CategoryObject → List (List (List ℕ)) → List Individual
all_individuals objects [] =
    map (λ combination. Places (in_request_order objects combination)) (all_combinations objects)
all_individuals objects (first ∷ others) = map (individual_named objects) (first ∷ others)

-- the items, if there are no more than a request may have
abbrev pub at_most_64 : {X : Type 0} → List X → Result (List X) TooMany
at_most_64 xs = if nat_lt 64 (length xs) then Err (record {}) else Ok xs

-- the individuals of a request, or that they are too many
unfoldable pub individuals : Request → Result (List Individual) TooMany
individuals request = at_most_64 (all_individuals request.objects request.references)
