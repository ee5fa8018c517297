-- Attributes of a request and their values (JSON Profile of XACML 3.0, sections 3.3 and 4.2).
use Rattle.std.specs.Prelude.{ℕ, Bool, true, List, [], ◌∷◌, Option, Some, None}
use Rattle.std.specs.Prelude.{option_and_then, option_map, Result, Ok, Err}
use Rattle.std.specs.List.{list_all}
use Rattle.std.specs.Option.{ok_or}
use Rattle.serde_json.specs.Data.{Data, null, boolean, number, string, array, object, Items}
use Rattle.serde_json.specs.Find.{as_str, as_integer}
use Rattle.xa_value.specs.Gives.{◌>>=◌}
use Rattle.xa_value.specs.declared.data_type.DataType.{DataType}
use Rattle.xa_value.specs.declared.data_type.DataType.TheVariants as type
use Rattle.xa_value.specs.declared.plain.Plain.{Plain}
use Rattle.xa_value.specs.declared.plain.Plain.TheVariants as plain
use Rattle.xa_value.specs.declared.read_error.ReadError.{ReadError}
use Rattle.xa_value.specs.declared.value.Value.{Value}
use Rattle.xa_value.specs.Plain.{type_of_plain, from_plain}
use Rattle.xa_value.specs.Types.{type_named, same_type}
use Rattle.xa_bag.specs.Bag.{Contents, bag_of}
use Rattle.xa_profile.specs.declared.attribute.Attribute.{Attribute}
use Rattle.xa_profile.specs.declared.member.Member.TheVariants as member
use Rattle.xa_profile.specs.declared.request_error.RequestError.{RequestError}
use Rattle.xa_profile.specs.declared.request_error.RequestError.TheVariants.{NotProfile}
use Rattle.xa_profile.specs.Json.{at, holds_or_not_profile, needed_text, optional_text, flag, items_if_any, each}

-- a text, a boolean or a whole number
abbrev pub plain_of : Data → Option (Plain (List ℕ))
plain_of null = None
plain_of (boolean b) = Some (plain.Boolean b)
plain_of (number n) = option_map (λ z. plain.Integer z) (as_integer n)
plain_of (string s) = Some (plain.Text s)
plain_of (array ds) = None
plain_of (object ms) = None

-- the data type of a value's JSON type, which the value has if none is named
unfoldable pub kind : Data → Result DataType RequestError
kind d = ok_or (option_map type_of_plain (plain_of d)) NotProfile

-- all values of an attribute are of one JSON type
abbrev pub is_one_kind : List DataType → Bool
is_one_kind [] = true
is_one_kind (first ∷ others) = list_all (λ other. same_type other first) others

-- the type of an attribute's values: the one that is named, else that of their JSON type, and string if there is no
-- value either
abbrev pub type_of_values : Option DataType → List DataType → DataType
type_of_values (Some named) kinds = named
type_of_values None [] = type.String
type_of_values None (first ∷ others) = first

-- a value that was read, or the fault NotProfile
abbrev pub or_not_of_type : Result Value ReadError → Result Value RequestError
or_not_of_type (Ok v) = Ok v
or_not_of_type (Err e) = Err NotProfile

-- a value of the type
unfoldable pub value : DataType → Data → Result Value RequestError
value t d = ok_or (plain_of d) NotProfile >>= λ p. or_not_of_type (from_plain t p)

-- the bag of the values
abbrev pub bag : DataType → Items → Result Contents RequestError
bag t ds = each (value t) ds >>= λ values. Ok (bag_of t values)

-- the values of an attribute, under the type that it names, else by their JSON type
unfoldable pub values : Option DataType → Items → Result Contents RequestError
values named ds = do
  kinds ← each kind ds
  _ ← holds_or_not_profile (is_one_kind kinds)
  bag (type_of_values named kinds) ds

-- the type that an attribute names
abbrev pub named_type : Option Data → Result (Option DataType) RequestError
named_type None = Ok None
named_type (Some d) = ok_or (option_and_then type_named (as_str d)) NotProfile >>= λ t. Ok (Some t)

-- an attribute; IncludeInResult is false if it is left out
unfoldable pub attribute : Data → Result Attribute RequestError
attribute d = do
  id ← needed_text (at member.AttributeId d)
  issuer ← optional_text (at member.Issuer d)
  include ← flag (at member.IncludeInResult d)
  named ← named_type (at member.DataType d)
  contents ← values named (items_if_any (at member.Value d))
  Ok (record { id = id; issuer = issuer; include_in_result = include; values = contents })
