-- The response to a request (JSON Profile of XACML 3.0, section 5; core, sections 5.32 to 5.36 and 5.47 to 5.55). The
-- members of an object stand in the order of their names' bytes.
use Rattle.std.specs.Prelude.{ℕ, Bool, List, [], ◌∷◌, map, filter, codes, Option, Some, None, if◌then◌else◌}
use Rattle.std.specs.List.{list_any, filter_map, slice_get}
use Rattle.serde_json.specs.Data.{Data, boolean, number, string, array, object, Members, no_members, member}
use Rattle.serde_json.specs.Find.{of_integer}
use Rattle.serde_json.specs.View.{items_of}
use Rattle.serde_json.specs.Written.{compact_text}
use Rattle.xa_value.specs.declared.data_type.DataType.{DataType}
use Rattle.xa_value.specs.declared.plain.Plain.{Plain}
use Rattle.xa_value.specs.declared.plain.Plain.TheVariants as plain
use Rattle.xa_value.specs.declared.value.Value.{Value}
use Rattle.xa_value.specs.Order.{type_of}
use Rattle.xa_value.specs.Plain.{to_plain}
use Rattle.xa_value.specs.Types.{uri_of}
use Rattle.xa_func.specs.declared.status.Status.{Status}
use Rattle.xa_func.specs.Status as status
use Rattle.xa_policy.specs.declared.decision.Decision.{Decision}
use Rattle.xa_policy.specs.declared.decision.Decision.TheVariants.{Permit, Deny, NotApplicable, IndeterminatePermit}
use Rattle.xa_policy.specs.declared.decision.Decision.TheVariants.{IndeterminateDeny, IndeterminateDenyPermit}
use Rattle.xa_policy.specs.declared.document_key.DocumentKey.{DocumentKey}
use Rattle.xa_policy.specs.declared.duty.AttributeAssignment.{AttributeAssignment}
use Rattle.xa_policy.specs.declared.duty.Duty.{Duty}
use Rattle.xa_policy.specs.declared.reference.DocumentKind.{DocumentKind}
use Rattle.xa_policy.specs.declared.reference.DocumentKind.TheVariants.{Policy, PolicySet}
use Rattle.xa_policy.specs.DocumentKey.{same_kind}
use Rattle.xa_policy.specs.Version.{version_text}
use Rattle.xa_profile.specs.declared.attribute.Attribute.{Attribute}
use Rattle.xa_profile.specs.declared.category_object.CategoryObject.{CategoryObject}
use Rattle.xa_profile.specs.declared.member.Member.{Member}
use Rattle.xa_profile.specs.declared.member.Member.TheVariants as member
use Rattle.xa_profile.specs.declared.response.ResultObject.{ResultObject}
use Rattle.xa_profile.specs.Member.{name_of}

-- ---- members

-- a member, and those after it
abbrev pub with : Member → Data → Members → Members
with name d others = member (name_of name) d others

-- a text that is left out if there is none
abbrev pub with_text_if_any : Member → Option (List ℕ) → Members → Members
with_text_if_any name None others = others
with_text_if_any name (Some text) others = with name (string text) others

-- an array
abbrev pub listing : List Data → Data
listing ds = array (items_of ds)

-- an array that is left out if it is empty
abbrev pub with_items_if_any : Member → List Data → Members → Members
with_items_if_any name [] others = others
with_items_if_any name (d ∷ ds) others = with name (listing (d ∷ ds)) others

-- an object of one member
abbrev pub only : Member → Data → Data
only name d = object (with name d no_members)

-- ---- values

-- a data type, by its whole URI
unfoldable pub type_data : DataType → Data
type_data t = string (uri_of t)

-- a value: a boolean and an integer as such, and any other as its text
abbrev pub plain_data : Plain (List ℕ) → Data
plain_data (plain.Text text) = string text
plain_data (plain.Boolean b) = boolean b
plain_data (plain.Integer z) = number (of_integer z)

abbrev pub value_data : Value → Data
value_data v = plain_data (to_plain v)

-- the values of an attribute: one stands by itself, and several or none in an array
abbrev pub values_data : List Value → Data
values_data [] = listing []
values_data (v ∷ []) = value_data v
values_data (v ∷ w ∷ vs) = listing (map value_data (v ∷ w ∷ vs))

-- ---- attributes of the request

-- an attribute
unfoldable pub attribute_data : Attribute → Data
attribute_data a =
    object
    (with member.AttributeId (string a.id)
    (with member.DataType (type_data a.values.data_type)
    (with_text_if_any member.Issuer a.issuer (with member.Value (values_data a.values.values) no_members))))

-- the attributes that are to stand in the result
abbrev pub included_attributes : List Attribute → List Attribute
included_attributes attributes = filter (λ a. a.include_in_result) attributes

abbrev pub has_included : CategoryObject → Bool
has_included o = list_any (λ a. a.include_in_result) o.attributes

-- a Category object, with those attributes alone that are to stand in the result
unfoldable pub category_data : CategoryObject → Data
category_data o =
    object
    (with member.Attribute (listing (map attribute_data (included_attributes o.attributes)))
    (with member.CategoryId (string o.category) no_members))

-- the object, if it has an attribute that is to stand in the result
abbrev pub if_included : Option CategoryObject → Option CategoryObject
if_included None = None
if_included (Some o) = if has_included o then Some o else None

-- the objects at places that have an attribute that is to stand in the result
abbrev pub included_objects : List CategoryObject → List ℕ → List CategoryObject
included_objects objects places = filter_map (λ place. if_included (slice_get objects place)) places

-- ---- obligations and advice

-- an attribute that an obligation or a piece of advice carries
unfoldable pub assignment_data : AttributeAssignment → Data
assignment_data a =
    object
    (with member.AttributeId (string a.attribute_id)
    (with_text_if_any member.Category a.category
    (with member.DataType (type_data (type_of a.value))
    (with_text_if_any member.Issuer a.issuer (with member.Value (value_data a.value) no_members)))))

-- an obligation, or a piece of advice
unfoldable pub duty_data : Duty → Data
duty_data d =
    object
    (with_items_if_any member.AttributeAssignment (map assignment_data d.assignments)
    (with member.Id (string d.id) no_members))

-- ---- policies and policy sets that are named

-- a policy or a policy set that is named, by its id and its version
unfoldable pub identifier_data : DocumentKey → Data
identifier_data k =
    object (with member.Id (string k.id) (with member.Version (string (version_text k.version)) no_members))

-- the policies, or the policy sets, that are named
abbrev pub of_kind : DocumentKind → List DocumentKey → List Data
of_kind kind keys = map identifier_data (filter (λ k. same_kind kind k.kind) keys)

-- the policies and then the policy sets, each left out if there are none
unfoldable pub identifiers_data : List DocumentKey → Data
identifiers_data keys =
    object
    (with_items_if_any member.PolicyIdReference (of_kind Policy keys)
    (with_items_if_any member.PolicySetIdReference (of_kind PolicySet keys) no_members))

-- the policies and policy sets that are named, left out if there are none
abbrev pub with_identifiers_if_any : List DocumentKey → Members → Members
with_identifiers_if_any [] others = others
with_identifiers_if_any (k ∷ ks) others = with member.PolicyIdentifierList (identifiers_data (k ∷ ks)) others

-- ---- results

-- the four decisions that are shown (core, section 5.53)
unfoldable pub decision_text : Decision → List ℕ
decision_text Permit = codes "Permit"
decision_text Deny = codes "Deny"
decision_text NotApplicable = codes "NotApplicable"
decision_text IndeterminatePermit = codes "Indeterminate"
decision_text IndeterminateDeny = codes "Indeterminate"
decision_text IndeterminateDenyPermit = codes "Indeterminate"

-- a status is its code
unfoldable pub status_data : Status → Data
status_data s = only member.StatusCode (only member.Value (string (status.uri_of s)))

-- a result, the places of its objects being among these objects
unfoldable pub result_data : List CategoryObject → ResultObject → Data
result_data objects r =
    object (with_items_if_any member.AssociatedAdvice (map duty_data r.evaluated.duties.advice)
    (with_items_if_any member.Category (map category_data (included_objects objects r.places))
    (with member.Decision (string (decision_text r.evaluated.decision))
    (with_items_if_any member.Obligations (map duty_data r.evaluated.duties.obligations)
    (with_identifiers_if_any r.evaluated.ids (with member.Status (status_data r.evaluated.status) no_members))))))

-- the response: its results, in order
unfoldable pub response_data : List CategoryObject → List ResultObject → Data
response_data objects results = only member.Response (listing (map (result_data objects) results))

-- the body of a response: compact JSON
unfoldable pub response_body : List CategoryObject → List ResultObject → List ℕ
response_body objects results = compact_text (response_data objects results)
