-- What reading answers is what the grammar of the type says.
use Rattle.std.proofs.Common.{◌≡◌, ℕ, Bool, true, false, ◌⊎◌, inl, inr, List, Result, Ok, Err, refl, sym, ap, ◌∙◌}
use Rattle.std.specs.Prelude.{if◌then◌else◌, ⊤}
use Rattle.base64.specs.GeneralPurpose.{IsBytes}
use Rattle.xa_value.specs.declared.data_type.DataType.{DataType}
use Rattle.xa_value.specs.declared.data_type.DataType.TheVariants as type
use Rattle.xa_value.specs.declared.value.Value.{Value}
use Rattle.xa_value.specs.declared.value.Value.TheVariants as value
use Rattle.xa_value.specs.declared.read_error.ReadError.{ReadError}
use Rattle.xa_value.specs.declared.read_error.ReadError.TheVariants.{NotThisType, OutOfRange}
use Rattle.xa_value.specs.Lexical.{trimmed}
use Rattle.xa_value.specs.Binary.{without_blanks}
use Rattle.xa_value.specs.Reading.{IsReadBy, IsReading, read_as, read}
use Rattle.xa_value.specs.BooleanGrammar.{print_word, word_value}
use Rattle.xa_value.specs.NumberGrammar.{IsInteger, print_integer, integer_value, is_integer_in_range}
use Rattle.xa_value.specs.TimeGrammar.{IsTime, print_time, time_value, is_time_in_range, IsDate, print_date, date_value, is_date_in_range, IsDateTime, print_date_time, date_time_value, is_date_time_in_range}
use Rattle.xa_value.specs.DurationGrammar.{print_year_month, year_month_value, is_year_month_in_range, IsYearMonth, print_day_time, day_time_value, is_day_time_in_range, IsDayTime}
use Rattle.xa_value.specs.BinaryGrammar.{IsHex, print_hex, hex_value, IsBase64, print_base64, base64_value}
use Rattle.xa_value.specs.parsing.Number.{read_boolean, read_integer}
use Rattle.xa_value.specs.parsing.Time.{read_time}
use Rattle.xa_value.specs.parsing.Calendar.{read_date, read_date_time}
use Rattle.xa_value.specs.parsing.Duration.{read_day_time, read_year_month}
use Rattle.xa_value.specs.parsing.Binary.{read_hex, read_base64}
use Rattle.xa_value.proofs.BooleanGrammarLemmas.{boolean_means, boolean_covers, boolean_solid}
use Rattle.xa_value.proofs.NumberGrammarLemmas.{integer_means, integer_covers, integer_plain}
use Rattle.xa_value.proofs.TimeGrammarLemmas.{time_means, time_covers, time_plain}
use Rattle.xa_value.proofs.CalendarGrammarLemmas.{date_means, date_covers, date_plain, date_time_means, date_time_covers, date_time_plain}
use Rattle.xa_value.proofs.DurationGrammarLemmas.{year_month_means, year_month_covers, year_month_plain, day_time_means, day_time_covers, day_time_plain}
use Rattle.xa_value.proofs.HexGrammarLemmas.{hex_means, hex_covers, hex_solid}
use Rattle.xa_value.proofs.Base64GrammarLemmas.{read_solid, base64_means, base64_covers, base64_solid, without_blanks_trimmed}
use Rattle.xa_value.proofs.BinaryReads.{trimmed_again, IsBytes-without_blanks}

-- as a value of its type, what is in range, or that it isn't
read_as_in_range : {A : Type 0} (variant : A → Value) (b : Bool) (a : A) → read_as variant (if b then Ok a else Err OutOfRange) ≡ (if b then Ok (variant a) else Err OutOfRange)
read_as_in_range variant true a = refl
read_as_in_range variant false a = refl

-- the reader of a plain text agrees with a grammar, and so does what it answers under a variant
agrees : {A Tree : Type 0} (variant : A → Value) (IsTree : Tree → Type 0) (print : Tree → List ℕ) (value_of : Tree → A) (is_in_range : Tree → Bool) (plain : List ℕ → List ℕ) (reader : List ℕ → Result A ReadError) (text : List ℕ) (answer : Result Value ReadError)
    → answer ≡ read_as variant (reader (plain text))
    → ((tree : Tree) → IsTree tree → reader (print tree) ≡ (if is_in_range tree then Ok (value_of tree) else Err OutOfRange))
    → ((tree : Tree) × IsTree tree × (plain text ≡ print tree)) ⊎ (reader (plain text) ≡ Err NotThisType)
    → ((tree : Tree) → IsTree tree → plain (print tree) ≡ print tree)
    → IsReadBy Tree IsTree print (λ tree. variant (value_of tree)) is_in_range plain text answer
agrees variant IsTree print value_of is_in_range plain reader text answer by means covers solid = record {
  means = λ tree valid e. by ∙ ap (λ s. read_as variant (reader s)) e ∙ ap (read_as variant) (means tree valid) ∙ read_as_in_range variant (is_in_range tree) (value_of tree);
  covers = elim covers [ inl found ↦ inl found | inr refused ↦ inr (by ∙ ap (read_as variant) refused) ];
  solid = solid;
}

base64_answer : (text : List ℕ) → read type.Base64Binary text ≡ read_as value.Base64Binary (read_solid (without_blanks text))
unfolding read_base64
base64_answer text = ap (λ s. read_as value.Base64Binary (read_solid s)) (without_blanks_trimmed text)

pub reading_at : (t : DataType) (text : List ℕ) → IsBytes text → IsReading t text (read t text)
reading_at type.String text byte = record { means = λ tree valid e. ap (λ s. Ok (value.String s)) e; covers = inl (text, tt, refl); solid = λ tree valid. refl }
reading_at type.Boolean text byte =
    agrees value.Boolean (λ any. ⊤) print_word word_value (λ any. true) trimmed read_boolean text (read type.Boolean text)
    refl boolean_means (boolean_covers (trimmed text)) boolean_solid
reading_at type.Integer text byte =
    agrees value.Integer IsInteger print_integer integer_value is_integer_in_range trimmed read_integer text (read type.Integer text)
    refl integer_means (integer_covers (trimmed text)) integer_plain
reading_at type.Date text byte =
    agrees value.Date IsDate print_date date_value is_date_in_range trimmed read_date text (read type.Date text)
    refl date_means (date_covers (trimmed text)) date_plain
reading_at type.Time text byte =
    agrees value.Time IsTime print_time time_value is_time_in_range trimmed read_time text (read type.Time text)
    refl time_means (time_covers (trimmed text)) time_plain
reading_at type.DateTime text byte =
    agrees value.DateTime IsDateTime print_date_time date_time_value is_date_time_in_range trimmed read_date_time text (read type.DateTime text)
    refl date_time_means (date_time_covers (trimmed text)) date_time_plain
reading_at type.DayTimeDuration text byte =
    agrees value.DayTimeDuration IsDayTime print_day_time day_time_value is_day_time_in_range trimmed read_day_time text (read type.DayTimeDuration text)
    refl day_time_means (day_time_covers (trimmed text)) day_time_plain
reading_at type.YearMonthDuration text byte =
    agrees value.YearMonthDuration IsYearMonth print_year_month year_month_value is_year_month_in_range trimmed read_year_month text (read type.YearMonthDuration text)
    refl year_month_means (year_month_covers (trimmed text)) year_month_plain
reading_at type.AnyUri text byte =
    record { means = λ tree valid e. ap (λ s. Ok (value.AnyUri s)) e; covers = inl (trimmed text, trimmed_again text, refl); solid = λ tree valid. valid }
reading_at type.HexBinary text byte =
    agrees value.HexBinary IsHex print_hex hex_value (λ any. true) trimmed read_hex text (read type.HexBinary text)
    refl hex_means (hex_covers (trimmed text)) hex_solid
reading_at type.Base64Binary text byte =
    agrees value.Base64Binary IsBase64 print_base64 base64_value (λ any. true) without_blanks read_solid text (read type.Base64Binary text)
    (base64_answer text) base64_means (base64_covers (without_blanks text) (IsBytes-without_blanks text byte)) base64_solid

-- two answers that a grammar allows are one
one_by : {Tree : Type 0} (IsTree : Tree → Type 0) (print : Tree → List ℕ) (value_of : Tree → Value) (is_in_range : Tree → Bool) (plain : List ℕ → List ℕ) (text : List ℕ) (a b : Result Value ReadError)
    → IsReadBy Tree IsTree print value_of is_in_range plain text a → IsReadBy Tree IsTree print value_of is_in_range plain text b → a ≡ b
one_by IsTree print value_of is_in_range plain text a b k l = elim k.covers [
  | inl found ↦ k.means found.0 found.1 found.2 ∙ sym (l.means found.0 found.1 found.2)
  | inr refused ↦ elim l.covers [
    | inl found ↦ k.means found.0 found.1 found.2 ∙ sym (l.means found.0 found.1 found.2)
    | inr refused_too ↦ refused ∙ sym refused_too
  ]
]

-- for each type and text the grammars allow one answer alone
pub one_answer : (t : DataType) (text : List ℕ) (a b : Result Value ReadError) → IsReading t text a → IsReading t text b → a ≡ b
one_answer type.String text a b k l = one_by _ _ _ _ _ text a b k l
one_answer type.Boolean text a b k l = one_by _ _ _ _ _ text a b k l
one_answer type.Integer text a b k l = one_by _ _ _ _ _ text a b k l
one_answer type.Date text a b k l = one_by _ _ _ _ _ text a b k l
one_answer type.Time text a b k l = one_by _ _ _ _ _ text a b k l
one_answer type.DateTime text a b k l = one_by _ _ _ _ _ text a b k l
one_answer type.DayTimeDuration text a b k l = one_by _ _ _ _ _ text a b k l
one_answer type.YearMonthDuration text a b k l = one_by _ _ _ _ _ text a b k l
one_answer type.AnyUri text a b k l = one_by _ _ _ _ _ text a b k l
one_answer type.HexBinary text a b k l = one_by _ _ _ _ _ text a b k l
one_answer type.Base64Binary text a b k l = one_by _ _ _ _ _ text a b k l
