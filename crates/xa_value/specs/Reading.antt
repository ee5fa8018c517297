-- Which texts are values of a data type, which are out of its range, and which are neither (XACML 3.0, core, appendix
-- A.2).
use Rattle.std.specs.Prelude.{◌≡◌, ℕ, Bool, true, false, if◌then◌else◌, ◌⊎◌, List, Result, Ok, Err, ⊤}
use Rattle.xa_value.specs.declared.data_type.DataType.{DataType}
use Rattle.xa_value.specs.declared.data_type.DataType.TheVariants as type
use Rattle.xa_value.specs.declared.value.Value.{Value}
use Rattle.xa_value.specs.declared.value.Value.TheVariants as value
use Rattle.xa_value.specs.declared.read_error.ReadError.{ReadError}
use Rattle.xa_value.specs.declared.read_error.ReadError.TheVariants.{NotThisType, OutOfRange}
use Rattle.xa_value.specs.Lexical.{trimmed}
use Rattle.xa_value.specs.Binary.{without_blanks}
use Rattle.xa_value.specs.BooleanGrammar.{Word, print_word, word_value}
use Rattle.xa_value.specs.NumberGrammar.{Integer, IsInteger, print_integer, integer_value, is_integer_in_range}
use Rattle.xa_value.specs.TimeGrammar.{Time, IsTime, print_time, time_value, is_time_in_range, Date}
use Rattle.xa_value.specs.TimeGrammar.{IsDate, print_date, date_value, is_date_in_range, DateTime}
use Rattle.xa_value.specs.TimeGrammar.{IsDateTime, print_date_time, date_time_value, is_date_time_in_range}
use Rattle.xa_value.specs.DurationGrammar.{YearMonth, IsYearMonth, print_year_month, year_month_value}
use Rattle.xa_value.specs.DurationGrammar.{is_year_month_in_range, DayTime, IsDayTime}
use Rattle.xa_value.specs.DurationGrammar.{print_day_time, day_time_value, is_day_time_in_range}
use Rattle.xa_value.specs.BinaryGrammar.{HexByte, IsHex, print_hex, hex_value}
use Rattle.xa_value.specs.BinaryGrammar.{Base64, IsBase64, print_base64, base64_value}
use Rattle.xa_value.specs.parsing.Number.{read_boolean, read_integer}
use Rattle.xa_value.specs.parsing.Time.{read_time}
use Rattle.xa_value.specs.parsing.Calendar.{read_date, read_date_time}
use Rattle.xa_value.specs.parsing.Duration.{read_day_time, read_year_month}
use Rattle.xa_value.specs.parsing.Binary.{read_hex, read_base64}

-- what a text reads as by a grammar: trees, which of them are valid, the text and the value of each, and which are in
-- range; `plain` drops the white space that does not count
pub record IsReadBy (Tree : Type 0) (IsTree : Tree → Type 0) (print : Tree → List ℕ) (value_of : Tree → Value)
    (is_in_range : Tree → Bool) (plain : List ℕ → List ℕ) (text : List ℕ) (answer : Result Value ReadError)
    : Type 0 where
  -- the text of a valid tree: the tree's value if that is in range, else OutOfRange
  pub means : (tree : Tree) → IsTree tree → plain text ≡ print tree
      → answer ≡ (if is_in_range tree then Ok (value_of tree) else Err OutOfRange)
  -- every other text is not of the type
  pub covers : ((tree : Tree) × IsTree tree × (plain text ≡ print tree)) ⊎ (answer ≡ Err NotThisType)
  -- a tree's text has no such white space
  pub solid : (tree : Tree) → IsTree tree → plain (print tree) ≡ print tree

-- The white space of a string counts, base64 drops all of it, and any other type drops it at both ends (XML Schema,
-- part 2, sections 4.3.6 and 3.2.16). For each type and text this allows one answer alone.
abbrev pub IsReading : DataType → List ℕ → Result Value ReadError → Type 0
IsReading type.String = IsReadBy (List ℕ) (λ any. ⊤) (λ whole. whole) value.String (λ any. true) (λ text. text)
IsReading type.Boolean =
    IsReadBy Word (λ any. ⊤) print_word (λ word. value.Boolean (word_value word)) (λ any. true) trimmed
IsReading type.Integer =
    IsReadBy Integer IsInteger print_integer (λ i. value.Integer (integer_value i)) is_integer_in_range trimmed
IsReading type.Date = IsReadBy Date IsDate print_date (λ d. value.Date (date_value d)) is_date_in_range trimmed
IsReading type.Time = IsReadBy Time IsTime print_time (λ t. value.Time (time_value t)) is_time_in_range trimmed
IsReading type.DateTime =
    IsReadBy DateTime IsDateTime print_date_time (λ d. value.DateTime (date_time_value d)) is_date_time_in_range trimmed
IsReading type.DayTimeDuration =
    IsReadBy DayTime IsDayTime print_day_time
    (λ d. value.DayTimeDuration (day_time_value d)) is_day_time_in_range trimmed
IsReading type.YearMonthDuration =
    IsReadBy YearMonth IsYearMonth print_year_month
    (λ d. value.YearMonthDuration (year_month_value d)) is_year_month_in_range trimmed
IsReading type.AnyUri = IsReadBy (List ℕ) (λ uri. trimmed uri ≡ uri) (λ uri. uri) value.AnyUri (λ any. true) trimmed
IsReading type.HexBinary =
    IsReadBy (List HexByte) IsHex print_hex (λ h. value.HexBinary (hex_value h)) (λ any. true) trimmed
IsReading type.Base64Binary =
    IsReadBy Base64 IsBase64 print_base64 (λ b. value.Base64Binary (base64_value b)) (λ any. true) without_blanks

-- the types whose values hold text or bytes: reading one of them alone may want memory
abbrev pub grows : DataType → Bool
grows type.String = true
grows type.AnyUri = true
grows type.HexBinary = true
grows type.Base64Binary = true
grows _ = false

-- ---- the answer, as the code finds it: `IsReading` says what it is, so that nobody has to sign what stands below

-- what was read, as a value of its type
abbrev pub read_as : {A : Type 0} → (A → Value) → Result A ReadError → Result Value ReadError
read_as variant (Ok a) = Ok (variant a)
read_as variant (Err e) = Err e

abbrev pub read : DataType → List ℕ → Result Value ReadError
read type.String text = Ok (value.String text)
read type.Boolean text = read_as value.Boolean (read_boolean (trimmed text))
read type.Integer text = read_as value.Integer (read_integer (trimmed text))
read type.Date text = read_as value.Date (read_date (trimmed text))
read type.Time text = read_as value.Time (read_time (trimmed text))
read type.DateTime text = read_as value.DateTime (read_date_time (trimmed text))
read type.DayTimeDuration text = read_as value.DayTimeDuration (read_day_time (trimmed text))
read type.YearMonthDuration text = read_as value.YearMonthDuration (read_year_month (trimmed text))
read type.AnyUri text = Ok (value.AnyUri (trimmed text))
read type.HexBinary text = read_as value.HexBinary (read_hex (trimmed text))
read type.Base64Binary text = read_as value.Base64Binary (read_base64 (trimmed text))
