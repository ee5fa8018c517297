-- The values of an attribute in the context of a decision (XACML 3.0, core, section 7.3): those that the request has,
-- else the one that the clock gives (section 7.3.6), else those that the source of attributes has (section 7.3.5),
-- else none.
use Rattle.std.specs.Prelude.{ℕ, Bool, false, true, ◌&&◌, bytes_eq, codes, find, List, []}
use Rattle.std.specs.Prelude.{◌∷◌, map, filter, Option, Some, None, is_none, ℤ, if◌then◌else◌}
use Rattle.std.specs.List.{flat_map}
use Rattle.xa_value.specs.declared.category.Category.{Category}
use Rattle.xa_value.specs.declared.category.Category.TheVariants.{Environment, Resource, Action}
use Rattle.xa_value.specs.declared.data_type.DataType.{DataType}
use Rattle.xa_value.specs.declared.data_type.DataType.TheVariants as type
use Rattle.xa_value.specs.declared.value.Value.{Value}
use Rattle.xa_value.specs.declared.value.Value.TheVariants as value
use Rattle.xa_value.specs.Category.{all_categories, is_subject, uri_of}
use Rattle.xa_value.specs.Moment.{date_of, date_time_of, time_of}
use Rattle.xa_value.specs.Order.{type_of}
use Rattle.xa_expr.specs.declared.designator.Designator.{Designator}
use Rattle.xa_expr.specs.Timeless.{is_clock_id}
use Rattle.xa_value.specs.Types.{same_type}
use Rattle.xa_profile.specs.declared.attribute.Attribute.{Attribute}
use Rattle.xa_profile.specs.declared.category_object.CategoryObject.{CategoryObject}
use Rattle.xa_decide.specs.declared.source_row.SourceRow.{SourceRow}

-- what the values come from: the Category objects of an individual request, the rows of the source, and a moment
pub record AskContext : Type 0 where
  pub objects : List CategoryObject
  pub source : List SourceRow
  pub moment : ℤ

-- ---- the request

-- the issuer will do: any, if none is named
abbrev pub is_issuer : Option (List ℕ) → Option (List ℕ) → Bool
is_issuer None own = true
is_issuer (Some issuer) None = false
is_issuer (Some issuer) (Some own) = bytes_eq own issuer

-- an attribute of that id, type and issuer
abbrev pub is_named : List ℕ → DataType → Option (List ℕ) → Attribute → Bool
is_named id t issuer a = bytes_eq a.id id && (same_type a.values.data_type t && is_issuer issuer a.issuer)

-- an attribute that the designator names
abbrev pub is_named_by : Designator → Attribute → Bool
is_named_by d a = is_named d.attribute_id d.data_type d.issuer a

-- the values of a Category object's attributes that the designator names
abbrev pub object_values : Designator → CategoryObject → List Value
object_values d o = flat_map (λ a. a.values.values) (filter (is_named_by d) o.attributes)

-- the values that a request has for a designator: of all objects of its category, in request order
unfoldable pub request_values : List CategoryObject → Designator → List Value
request_values objects d = flat_map (object_values d) (filter (λ o. bytes_eq o.category d.category) objects)

-- ---- the clock

-- a moment as a time, a date or both, by UTC
abbrev pub moment_as : ℤ → DataType → Option Value
moment_as moment type.Time = Some (value.Time (time_of moment))
moment_as moment type.Date = Some (value.Date (date_of moment))
moment_as moment type.DateTime = Some (value.DateTime (date_time_of moment))
moment_as moment _ = None

-- the value that the clock gives to an attribute of that id and type
abbrev pub clock_value : ℤ → List ℕ → DataType → Option Value
clock_value moment id t = if is_clock_id t id then moment_as moment t else None

-- ---- the source

-- the category of a URI
unfoldable pub category_of : List ℕ → Option Category
category_of uri = find (λ category. bytes_eq uri (uri_of category)) all_categories

-- the id of the attribute that names a category's entity, if one does (core, appendix B.4 to B.6)
abbrev pub naming_id : Category → Option (List ℕ)
naming_id Resource = Some (codes "urn:oasis:names:tc:xacml:1.0:resource:resource-id")
naming_id Action = Some (codes "urn:oasis:names:tc:xacml:1.0:action:action-id")
naming_id category =
    if is_subject category then Some (codes "urn:oasis:names:tc:xacml:1.0:subject:subject-id") else None

-- the text of a value; the empty text of a value that is none
abbrev pub text_of : Value → List ℕ
text_of (value.String text) = text
text_of _ = []

-- the text, if there is one value; else the empty text
abbrev pub only_text : List Value → List ℕ
only_text [] = []
only_text (v ∷ []) = text_of v
only_text (v ∷ w ∷ vs) = []

-- the strings of that category and id, of any issuer
abbrev pub strings_of : List ℕ → List ℕ → Designator
strings_of category id =
    record { category = category; attribute_id = id; data_type = type.String; must_be_present = false; issuer = None }

-- the entity of a category: the one string that the request has as the attribute that names it; the empty text if it
-- has none or several
abbrev pub named_entity : List CategoryObject → List ℕ → Option (List ℕ) → List ℕ
named_entity objects category None = []
named_entity objects category (Some id) = only_text (request_values objects (strings_of category id))

abbrev pub naming_id_of : Option Category → Option (List ℕ)
naming_id_of None = None
naming_id_of (Some category) = naming_id category

unfoldable pub entity : List CategoryObject → List ℕ → List ℕ
entity objects category = named_entity objects category (naming_id_of (category_of category))

-- a row of the entity's attribute that the designator names, by an issuer that will do
abbrev pub is_row : List ℕ → Designator → SourceRow → Bool
is_row entity d row =
    bytes_eq row.category d.category
    && (bytes_eq row.entity entity
    && (bytes_eq row.attribute_id d.attribute_id
    && (same_type (type_of row.value) d.data_type && is_issuer d.issuer row.issuer)))

-- the values of the source's rows for a designator, in their order
unfoldable pub source_values : List SourceRow → List ℕ → Designator → List Value
source_values rows entity d = map (λ row. row.value) (filter (is_row entity d) rows)

-- ---- request, clock and source together

-- the first values; if there is none of them, the others
abbrev pub or_else : List Value → List Value → List Value
or_else [] others = others
or_else (v ∷ vs) others = v ∷ vs

-- the value, if there is one
abbrev pub if_any : Option Value → List Value
if_any None = []
if_any (Some v) = v ∷ []

-- the value that the clock gives to a designator: its attributes are the environment's, and have no issuer
abbrev pub clock_value_in : ℤ → Designator → Option Value
clock_value_in moment d =
    if is_none d.issuer && bytes_eq d.category (uri_of Environment) then clock_value moment d.attribute_id d.data_type
    else None

-- the values for a designator from outside the request: the one that the clock gives, else those that the source has
unfoldable pub outside_values : AskContext → Designator → List Value
outside_values c d =
    or_else (if_any (clock_value_in c.moment d)) (source_values c.source (entity c.objects d.category) d)

-- the values of a designator's bag: those that the request has, else the others
unfoldable pub values_of : AskContext → Designator → List Value
values_of c d = or_else (request_values c.objects d) (outside_values c d)
