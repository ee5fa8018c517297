-- Every value that was read prints as a text that reads as the same value.
use Rattle.std.proofs.Common.{◌≡◌, ℕ, List, Result, Ok, Err, refl, ap, subst}
use Rattle.base64.specs.GeneralPurpose.{IsBytes}
use Rattle.xa_value.specs.declared.data_type.DataType.{DataType}
use Rattle.xa_value.specs.declared.data_type.DataType.TheVariants as type
use Rattle.xa_value.specs.declared.value.Value.{Value}
use Rattle.xa_value.specs.declared.value.Value.TheVariants as value
use Rattle.xa_value.specs.declared.read_error.ReadError.{ReadError}
use Rattle.xa_value.specs.Lexical.{trimmed}
use Rattle.xa_value.specs.parsing.Number.{read_boolean, read_integer}
use Rattle.xa_value.specs.parsing.Time.{read_time}
use Rattle.xa_value.specs.parsing.Calendar.{read_date, read_date_time}
use Rattle.xa_value.specs.parsing.Duration.{read_day_time, read_year_month}
use Rattle.xa_value.specs.parsing.Binary.{read_hex, read_base64}
use Rattle.xa_value.specs.Reading.{read_as, read}
use Rattle.xa_value.specs.Printing.{printed}
use Rattle.xa_value.specs.RoundTrip.{ReadsBack}
use Rattle.xa_value.proofs.NumberReads.{boolean_reads, integer_read, integer_reads}
use Rattle.xa_value.proofs.TimeReads.{time_reads}
use Rattle.xa_value.proofs.CalendarReads.{date_reads, date_time_reads}
use Rattle.xa_value.proofs.DurationReads.{day_time_reads, year_month_reads}
use Rattle.xa_value.proofs.BinaryReads.{hex_reads, base64_reads, IsBytes-trimmed, trimmed_again}

-- a value that was read under a variant is of that variant
read_as_ok : {A : Type 0} (variant : A → Value) (r : Result A ReadError) (v : Value) → read_as variant r ≡ Ok v → (a : A) × (r ≡ Ok a) × (variant a ≡ v)
read_as_ok variant (Ok a) v h = (a, refl, cc)
read_as_ok variant (Err e) v h = absurd (cc)

-- it reads back as itself
abbrev Back : DataType → Value → Type 0
Back t v = read t (printed v) ≡ Ok v

pub reads_back_at : (t : DataType) (text : List ℕ) → IsBytes text → ReadsBack t text
reads_back_at type.String text byte v h = let e : value.String text ≡ v = cc in subst (Back type.String) e refl
reads_back_at type.Boolean text byte v h =
    let k = read_as_ok value.Boolean (read_boolean (trimmed text)) v h in
    subst (Back type.Boolean) k.2 (ap (read_as value.Boolean) (boolean_reads k.0))
reads_back_at type.Integer text byte v h =
    let k = read_as_ok value.Integer (read_integer (trimmed text)) v h in
    subst (Back type.Integer) k.2 (ap (read_as value.Integer) (integer_reads k.0 (integer_read (trimmed text) k.0 k.1)))
reads_back_at type.Date text byte v h =
    let k = read_as_ok value.Date (read_date (trimmed text)) v h in
    subst (Back type.Date) k.2 (ap (read_as value.Date) (date_reads (trimmed text) k.0 k.1))
reads_back_at type.Time text byte v h =
    let k = read_as_ok value.Time (read_time (trimmed text)) v h in
    subst (Back type.Time) k.2 (ap (read_as value.Time) (time_reads (trimmed text) k.0 k.1))
reads_back_at type.DateTime text byte v h =
    let k = read_as_ok value.DateTime (read_date_time (trimmed text)) v h in
    subst (Back type.DateTime) k.2 (ap (read_as value.DateTime) (date_time_reads (trimmed text) k.0 k.1))
reads_back_at type.DayTimeDuration text byte v h =
    let k = read_as_ok value.DayTimeDuration (read_day_time (trimmed text)) v h in
    subst (Back type.DayTimeDuration) k.2 (ap (read_as value.DayTimeDuration) (day_time_reads (trimmed text) k.0 k.1))
reads_back_at type.YearMonthDuration text byte v h =
    let k = read_as_ok value.YearMonthDuration (read_year_month (trimmed text)) v h in
    subst (Back type.YearMonthDuration) k.2 (ap (read_as value.YearMonthDuration) (year_month_reads (trimmed text) k.0 k.1))
reads_back_at type.AnyUri text byte v h =
    let e : value.AnyUri (trimmed text) ≡ v = cc in
    subst (Back type.AnyUri) e (ap (λ t. Ok (value.AnyUri t)) (trimmed_again text))
reads_back_at type.HexBinary text byte v h =
    let k = read_as_ok value.HexBinary (read_hex (trimmed text)) v h in
    subst (Back type.HexBinary) k.2 (ap (read_as value.HexBinary) (hex_reads (trimmed text) k.0 k.1))
reads_back_at type.Base64Binary text byte v h =
    let k = read_as_ok value.Base64Binary (read_base64 (trimmed text)) v h in
    subst (Back type.Base64Binary) k.2 (ap (read_as value.Base64Binary) (base64_reads (trimmed text) k.0 (IsBytes-trimmed text byte) k.1))
