-- Values as plain members: the texts, booleans and whole numbers of a notation that knows no other types (the JSON
-- profile of XACML 3.0, on the values of attributes).
use Rattle.std.specs.Prelude.{◌≡◌, ℕ, Bool, true, false, ◌&&◌, if◌then◌else◌}
use Rattle.std.specs.Prelude.{List, ℤ, pos, neg_ℤ, int_le, Result, Ok, Err}
use Rattle.xa_value.specs.declared.data_type.DataType.{DataType}
use Rattle.xa_value.specs.declared.data_type.DataType.TheVariants as type
use Rattle.xa_value.specs.declared.plain.Plain.{Plain}
use Rattle.xa_value.specs.declared.plain.Plain.TheVariants as plain
use Rattle.xa_value.specs.declared.read_error.ReadError.{ReadError}
use Rattle.xa_value.specs.declared.read_error.ReadError.TheVariants.{NotThisType, OutOfRange}
use Rattle.xa_value.specs.declared.value.Value.{Value}
use Rattle.xa_value.specs.declared.value.Value.TheVariants as value
use Rattle.xa_value.specs.Printing.{printed}
use Rattle.xa_value.specs.Reading.{read, grows}

-- the type of a member if none is named
abbrev pub type_of_plain : {T : Type 0} → Plain T → DataType
type_of_plain (plain.Text text) = type.String
type_of_plain (plain.Boolean b) = type.Boolean
type_of_plain (plain.Integer z) = type.Integer

-- a boolean fits boolean alone
abbrev pub from_boolean : DataType → Bool → Result Value ReadError
from_boolean type.Boolean b = Ok (value.Boolean b)
from_boolean _ b = Err NotThisType

-- a whole number within 64 bits
abbrev pub is_integer : ℤ → Bool
is_integer z = int_le (neg_ℤ (pos 9_223_372_036_854_775_808)) z && int_le z (pos 9_223_372_036_854_775_807)

-- a whole number fits integer alone
abbrev pub from_integer : DataType → ℤ → Result Value ReadError
from_integer type.Integer z = if is_integer z then Ok (value.Integer z) else Err OutOfRange
from_integer _ z = Err NotThisType

-- the value of a member under a type, by which a text is read
abbrev pub from_plain : DataType → Plain (List ℕ) → Result Value ReadError
from_plain type (plain.Text text) = read type text
from_plain type (plain.Boolean b) = from_boolean type b
from_plain type (plain.Integer z) = from_integer type z

-- only a text may want memory, as reading it does
abbrev pub plain_grows : DataType → Plain (List ℕ) → Bool
plain_grows type (plain.Text text) = grows type
plain_grows type (plain.Boolean b) = false
plain_grows type (plain.Integer z) = false

-- a value as a member: a boolean and an integer stand for themselves, any other value is its text
abbrev pub to_plain : Value → Plain (List ℕ)
to_plain (value.Boolean b) = plain.Boolean b
to_plain (value.Integer z) = plain.Integer z
to_plain v = plain.Text (printed v)

-- the types whose values are written as texts
abbrev pub is_text : DataType → Bool
is_text type.Boolean = false
is_text type.Integer = false
is_text _ = true

-- the value that a text stands for is the value of the member as which it is written
abbrev pub PlainBack : DataType → List ℕ → Type 0
PlainBack type text = (v : Value) → read type text ≡ Ok v → from_plain type (to_plain v) ≡ Ok v
