-- How many bytes of a body each part of a result takes.
use Rattle.std.specs.Prelude.{ℕ, ◌+◌, List, [], ◌∷◌, length, Option, Some, None, if◌then◌else◌}
use Rattle.json.specs.Print.{escape}
use Rattle.serde_json.specs.Data.{Data}
use Rattle.serde_json.specs.Written.{compact_text}
use Rattle.xa_policy.specs.declared.document_key.DocumentKey.{DocumentKey}
use Rattle.xa_policy.specs.declared.duty.AttributeAssignment.{AttributeAssignment}
use Rattle.xa_policy.specs.declared.duty.Duty.{Duty}
use Rattle.xa_profile.specs.declared.attribute.Attribute.{Attribute}
use Rattle.xa_profile.specs.declared.category_object.CategoryObject.{CategoryObject}
use Rattle.xa_profile.specs.declared.response.ResultObject.{ResultObject}
use Rattle.xa_profile.specs.Response.{assignment_data, attribute_data, category_data, duty_data, has_included}
use Rattle.xa_profile.specs.Response.{identifier_data, result_data, value_data}
use Rattle.xa_value.specs.declared.value.Value.{Value}
use Rattle.xa_value.specs.declared.value.Value.TheVariants as value

-- the bytes of what is written
abbrev pub bytes_of : Data → ℕ
bytes_of d = length (compact_text d)

-- the bytes of a text, without its quotation marks
abbrev pub bytes_of_text : List ℕ → ℕ
bytes_of_text text = length (escape text)

abbrev pub bytes_of_text_if_any : Option (List ℕ) → ℕ
bytes_of_text_if_any None = 0
bytes_of_text_if_any (Some text) = bytes_of_text text

abbrev pub bytes_of_value : Value → ℕ
bytes_of_value v = bytes_of (value_data v)

-- the bytes of a value's text or of its binary; none of another type's
abbrev pub length_of : Value → ℕ
length_of (value.String text) = length text
length_of (value.AnyUri text) = length text
length_of (value.HexBinary bytes) = length bytes
length_of (value.Base64Binary bytes) = length bytes
length_of _ = 0

-- an attribute, if it is to stand in a result
abbrev pub bytes_of_attribute : Attribute → ℕ
bytes_of_attribute a = if a.include_in_result then bytes_of (attribute_data a) else 0

-- an object, if one of its attributes is to stand in a result
abbrev pub bytes_of_object : CategoryObject → ℕ
bytes_of_object o = if has_included o then bytes_of (category_data o) else 0

-- the object at a place, if there is one
abbrev pub bytes_of_object_if_any : Option CategoryObject → ℕ
bytes_of_object_if_any None = 0
bytes_of_object_if_any (Some o) = bytes_of_object o

abbrev pub bytes_of_assignment : AttributeAssignment → ℕ
bytes_of_assignment a = bytes_of (assignment_data a)

abbrev pub bytes_of_duty : Duty → ℕ
bytes_of_duty d = bytes_of (duty_data d)

abbrev pub bytes_of_key : DocumentKey → ℕ
bytes_of_key k = bytes_of (identifier_data k)

abbrev pub bytes_of_result : List CategoryObject → ResultObject → ℕ
bytes_of_result objects r = bytes_of (result_data objects r)

-- several together
abbrev pub bytes_of_all : {X : Type 0} → (X → ℕ) → List X → ℕ
bytes_of_all bytes [] = 0
bytes_of_all bytes (x ∷ xs) = bytes x + bytes_of_all bytes xs
