-- The functions of XACML 3.0 and their names (core, appendix A.3). A name has three parts: the version of the
-- standard, the subject that the function is of, and the verb that tells what it does. Each family of functions is
-- one row of the table.
use Rattle.std.specs.Prelude.{ℕ, Bool, true, false, ◌&&◌, ◌||◌, if◌then◌else◌, List, [], ◌++◌, codes, bytes_eq}
use Rattle.xa_value.specs.declared.data_type.DataType.{DataType}
use Rattle.xa_value.specs.declared.data_type.DataType.TheVariants as type
use Rattle.xa_value.specs.Types.{name_of}
use Rattle.xa_func.specs.declared.func_id.FuncId.{FuncId}
use Rattle.xa_func.specs.declared.func_id.FuncId.TheVariants as function
use Rattle.xa_func.specs.declared.func_id.OrderedType.{OrderedType}
use Rattle.xa_func.specs.declared.func_id.OrderedType.TheVariants as ordered
use Rattle.xa_func.specs.declared.func_id.TextType.{TextType}
use Rattle.xa_func.specs.declared.func_id.TextType.TheVariants as text
use Rattle.xa_func.specs.declared.func_id.PrintedType.{PrintedType}
use Rattle.xa_func.specs.declared.func_id.PrintedType.TheVariants as printed
use Rattle.xa_func.specs.declared.func_id.Arithmetic.{Arithmetic}
use Rattle.xa_func.specs.declared.func_id.Arithmetic.TheVariants as arithmetic
use Rattle.xa_func.specs.declared.func_id.Comparison.{Comparison}
use Rattle.xa_func.specs.declared.func_id.Comparison.TheVariants as comparison
use Rattle.xa_func.specs.declared.func_id.Logic.{Logic}
use Rattle.xa_func.specs.declared.func_id.Logic.TheVariants as logic
use Rattle.xa_func.specs.declared.func_id.TextFunction.{TextFunction}
use Rattle.xa_func.specs.declared.func_id.TextFunction.TheVariants as text_function
use Rattle.xa_func.specs.declared.func_id.TextPart.{TextPart}
use Rattle.xa_func.specs.declared.func_id.TextPart.TheVariants as part
use Rattle.xa_func.specs.declared.func_id.Moved.{Moved}
use Rattle.xa_func.specs.declared.func_id.Moved.TheVariants as moved
use Rattle.xa_func.specs.declared.func_id.Direction.{Direction}
use Rattle.xa_func.specs.declared.func_id.Direction.TheVariants as direction
use Rattle.xa_func.specs.declared.func_id.BagFunction.{BagFunction}
use Rattle.xa_func.specs.declared.func_id.BagFunction.TheVariants as bag
use Rattle.xa_func.specs.declared.func_id.HigherOrder.{HigherOrder}
use Rattle.xa_func.specs.declared.func_id.HigherOrder.TheVariants as higher

-- a function of values: it takes no bag and no function
abbrev pub is_scalar : FuncId → Bool
is_scalar (function.Bag f t) = false
is_scalar (function.HigherOrder f) = false
is_scalar _ = true

-- the types that have an order
abbrev pub ordered_type : OrderedType → DataType
ordered_type ordered.Integer = type.Integer
ordered_type ordered.String = type.String
ordered_type ordered.Time = type.Time
ordered_type ordered.Date = type.Date
ordered_type ordered.DateTime = type.DateTime

-- the types that are texts
abbrev pub text_type : TextType → DataType
text_type text.String = type.String
text_type text.AnyUri = type.AnyUri

-- the types that are printed as a string and read from one
abbrev pub printed_type : PrintedType → DataType
printed_type printed.Boolean = type.Boolean
printed_type printed.Integer = type.Integer
printed_type printed.Date = type.Date
printed_type printed.Time = type.Time
printed_type printed.DateTime = type.DateTime
printed_type printed.AnyUri = type.AnyUri
printed_type printed.DayTimeDuration = type.DayTimeDuration
printed_type printed.YearMonthDuration = type.YearMonthDuration

-- what each version of the standard puts before its functions
abbrev pub first_version : List ℕ
first_version = codes "urn:oasis:names:tc:xacml:1.0:function:"

abbrev pub second_version : List ℕ
second_version = codes "urn:oasis:names:tc:xacml:2.0:function:"

abbrev pub third_version : List ℕ
third_version = codes "urn:oasis:names:tc:xacml:3.0:function:"

-- the durations came with the third version
abbrev pub is_duration : DataType → Bool
is_duration type.DayTimeDuration = true
is_duration type.YearMonthDuration = true
is_duration _ = false

-- a name: the version, what the function is of, and what it does
pub record Name : Type 0 where
  pub version : List ℕ
  pub subject : List ℕ
  pub verb : List ℕ

abbrev pub row : List ℕ → List ℕ → List ℕ → Name
row version subject verb = record { version = version; subject = subject; verb = verb }

-- the verbs of a family's members
abbrev pub comparison_verb : Comparison → List ℕ
comparison_verb comparison.GreaterThan = codes "-greater-than"
comparison_verb comparison.GreaterThanOrEqual = codes "-greater-than-or-equal"
comparison_verb comparison.LessThan = codes "-less-than"
comparison_verb comparison.LessThanOrEqual = codes "-less-than-or-equal"

abbrev pub arithmetic_verb : Arithmetic → List ℕ
arithmetic_verb arithmetic.Add = codes "-add"
arithmetic_verb arithmetic.Multiply = codes "-multiply"
arithmetic_verb arithmetic.Subtract = codes "-subtract"
arithmetic_verb arithmetic.Divide = codes "-divide"
arithmetic_verb arithmetic.Mod = codes "-mod"

abbrev pub logic_verb : Logic → List ℕ
logic_verb logic.Or = codes "or"
logic_verb logic.And = codes "and"
logic_verb logic.NOf = codes "n-of"
logic_verb logic.Not = codes "not"

abbrev pub part_verb : TextPart → List ℕ
part_verb part.StartsWith = codes "-starts-with"
part_verb part.EndsWith = codes "-ends-with"
part_verb part.Contains = codes "-contains"

abbrev pub printed_verb : PrintedType → List ℕ
printed_verb printed.Boolean = codes "-from-boolean"
printed_verb printed.Integer = codes "-from-integer"
printed_verb printed.Date = codes "-from-date"
printed_verb printed.Time = codes "-from-time"
printed_verb printed.DateTime = codes "-from-dateTime"
printed_verb printed.AnyUri = codes "-from-anyURI"
printed_verb printed.DayTimeDuration = codes "-from-dayTimeDuration"
printed_verb printed.YearMonthDuration = codes "-from-yearMonthDuration"

abbrev pub bag_verb : BagFunction → List ℕ
bag_verb bag.OneAndOnly = codes "-one-and-only"
bag_verb bag.BagSize = codes "-bag-size"
bag_verb bag.IsIn = codes "-is-in"
bag_verb bag.Bag = codes "-bag"
bag_verb bag.Intersection = codes "-intersection"
bag_verb bag.Union = codes "-union"
bag_verb bag.AtLeastOneMemberOf = codes "-at-least-one-member-of"
bag_verb bag.Subset = codes "-subset"
bag_verb bag.SetEquals = codes "-set-equals"

-- the functions that give a text, which came with different versions
abbrev pub text_row : TextFunction → Name
text_row text_function.NormalizeSpace = row first_version (codes "string") (codes "-normalize-space")
text_row text_function.Concatenate = row second_version (codes "string") (codes "-concatenate")
text_row text_function.Substring = row third_version (codes "string") (codes "-substring")

-- the functions that move a date, which are of different subjects
abbrev pub move_row : Moved → Direction → Name
move_row moved.DateTimeByDayTime direction.Add = row third_version (codes "dateTime") (codes "-add-dayTimeDuration")
move_row moved.DateTimeByDayTime direction.Subtract =
    row third_version (codes "dateTime") (codes "-subtract-dayTimeDuration")
move_row moved.DateTimeByYearMonth direction.Add = row third_version (codes "dateTime") (codes "-add-yearMonthDuration")
move_row moved.DateTimeByYearMonth direction.Subtract =
    row third_version (codes "dateTime") (codes "-subtract-yearMonthDuration")
move_row moved.DateByYearMonth direction.Add = row third_version (codes "date") (codes "-add-yearMonthDuration")
move_row moved.DateByYearMonth direction.Subtract =
    row third_version (codes "date") (codes "-subtract-yearMonthDuration")

-- the higher-order functions, which came with different versions
abbrev pub higher_row : HigherOrder → Name
higher_row higher.AnyOf = row third_version [] (codes "any-of")
higher_row higher.AllOf = row third_version [] (codes "all-of")
higher_row higher.AnyOfAny = row third_version [] (codes "any-of-any")
higher_row higher.Map = row third_version [] (codes "map")
higher_row higher.AllOfAny = row first_version [] (codes "all-of-any")
higher_row higher.AllOfAll = row first_version [] (codes "all-of-all")

-- the table: the row of each function
abbrev pub row_of : FuncId → Name
row_of (function.Equal t) = row (if is_duration t then third_version else first_version) (name_of t) (codes "-equal")
row_of (function.Compare c t) = row first_version (name_of (ordered_type t)) (comparison_verb c)
row_of (function.Arithmetic f) = row first_version (codes "integer") (arithmetic_verb f)
row_of function.IntegerAbs = row first_version (codes "integer") (codes "-abs")
row_of (function.Logic f) = row first_version [] (logic_verb f)
row_of (function.Text f) = text_row f
row_of (function.Part p t) = row third_version (name_of (text_type t)) (part_verb p)
row_of (function.StringFrom t) = row third_version (codes "string") (printed_verb t)
row_of (function.FromString t) = row third_version (name_of (printed_type t)) (codes "-from-string")
row_of (function.Move m d) = move_row m d
row_of function.TimeInRange = row second_version [] (codes "time-in-range")
row_of (function.Bag f t) = row first_version (name_of t) (bag_verb f)
row_of (function.HigherOrder f) = higher_row f

-- the functions of bags of durations have a name in the third version beside that in the first
abbrev pub has_later_name : FuncId → Bool
has_later_name (function.Bag f t) = is_duration t
has_later_name _ = false

-- the whole name, in a version
abbrev pub uri_in : List ℕ → Name → List ℕ
uri_in version name = version ++ (name.subject ++ name.verb)

-- the text is a name of the function
unfoldable pub names : List ℕ → FuncId → Bool
names text f =
    bytes_eq text (uri_in (row_of f).version (row_of f))
    || (has_later_name f && bytes_eq text (uri_in third_version (row_of f)))
