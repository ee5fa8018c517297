-- The data types of XACML 3.0 and their names (core, appendix A.2, B.3).
use Rattle.std.specs.Prelude.{ℕ, Bool, ◌||◌, ◌==◌, List, [], ◌∷◌, ◌++◌, codes, bytes_eq, find, Option}
use Rattle.xa_value.specs.declared.data_type.DataType.{DataType}
use Rattle.xa_value.specs.declared.data_type.DataType.TheVariants.{String, Boolean, Integer, Date, Time}
use Rattle.xa_value.specs.declared.data_type.DataType.TheVariants.{DateTime, DayTimeDuration, YearMonthDuration}
use Rattle.xa_value.specs.declared.data_type.DataType.TheVariants.{AnyUri, HexBinary, Base64Binary}

-- what stands before a type's name in its URI
abbrev pub namespace : List ℕ
namespace = codes "http://www.w3.org/2001/XMLSchema#"

-- a type's name in XML Schema
abbrev pub name_of : DataType → List ℕ
name_of String = codes "string"
name_of Boolean = codes "boolean"
name_of Integer = codes "integer"
name_of Date = codes "date"
name_of Time = codes "time"
name_of DateTime = codes "dateTime"
name_of DayTimeDuration = codes "dayTimeDuration"
name_of YearMonthDuration = codes "yearMonthDuration"
name_of AnyUri = codes "anyURI"
name_of HexBinary = codes "hexBinary"
name_of Base64Binary = codes "base64Binary"

-- a type's URI
abbrev pub uri_of : DataType → List ℕ
uri_of type = namespace ++ name_of type

-- all types
abbrev pub all_types : List DataType
all_types =
    String ∷ Boolean ∷ Integer ∷ Date ∷ Time ∷ DateTime ∷ DayTimeDuration ∷ YearMonthDuration ∷ AnyUri
    ∷ HexBinary ∷ Base64Binary ∷ []

-- a type's place in the list of types
abbrev pub place_of : DataType → ℕ
place_of String = 0
place_of Boolean = 1
place_of Integer = 2
place_of Date = 3
place_of Time = 4
place_of DateTime = 5
place_of DayTimeDuration = 6
place_of YearMonthDuration = 7
place_of AnyUri = 8
place_of HexBinary = 9
place_of Base64Binary = 10

-- two types are one
abbrev pub same_type : DataType → DataType → Bool
same_type t u = place_of t == place_of u

-- the type that has that place
abbrev pub type_at : ℕ → Option DataType
type_at place = find (λ type. place_of type == place) all_types

-- the text is the type's URI, or its name alone
unfoldable pub names : List ℕ → DataType → Bool
names text type = bytes_eq text (uri_of type) || bytes_eq text (name_of type)

-- the type that a text names
unfoldable pub type_named : List ℕ → Option DataType
type_named text = find (names text) all_types
