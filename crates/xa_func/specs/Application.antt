-- What each function of values gives (XACML 3.0, core, appendix A.3).
use Rattle.std.specs.Prelude.{ℕ, Bool, true, false, List, [], ◌∷◌, Result, Ok}
use Rattle.std.specs.List.{concat}
use Rattle.xa_value.specs.declared.value.Value.{Value}
use Rattle.xa_value.specs.declared.value.Value.TheVariants as value
use Rattle.xa_value.specs.Lexical.{trimmed}
use Rattle.xa_value.specs.Order.{same}
use Rattle.xa_value.specs.Printing.{printed}
use Rattle.xa_value.specs.Reading.{grows as reading_grows}
use Rattle.xa_func.specs.declared.func_id.FuncId.{FuncId}
use Rattle.xa_func.specs.declared.func_id.FuncId.TheVariants as function
use Rattle.xa_func.specs.declared.func_id.TextFunction.{TextFunction}
use Rattle.xa_func.specs.declared.func_id.TextFunction.TheVariants.{NormalizeSpace, Concatenate, Substring}
use Rattle.xa_func.specs.declared.func_id.TextPart.{TextPart}
use Rattle.xa_func.specs.declared.func_id.PrintedType.{PrintedType}
use Rattle.xa_func.specs.declared.func_id.Moved.{Moved}
use Rattle.xa_func.specs.declared.func_id.Moved.TheVariants.{DateTimeByDayTime, DateTimeByYearMonth, DateByYearMonth}
use Rattle.xa_func.specs.declared.func_id.Direction.{Direction}
use Rattle.xa_func.specs.declared.fault.FuncFault.{FuncFault}
use Rattle.xa_func.specs.Arguments.{misfit, as_value, integers, texts, of_one, of_two}
use Rattle.xa_func.specs.Arithmetic.{arithmetic, absolute}
use Rattle.xa_func.specs.Comparison.{compared}
use Rattle.xa_func.specs.Conversion.{value_of}
use Rattle.xa_func.specs.Dates.{directed, date_after_months, date_time_after_months}
use Rattle.xa_func.specs.Dates.{date_time_after_nanos, time_in_range}
use Rattle.xa_func.specs.Logic.{logical}
use Rattle.xa_func.specs.Table.{printed_type}
use Rattle.xa_func.specs.Text.{has_part, substring}

-- the functions that give a text
abbrev pub text_result : TextFunction → List Value → Result (List ℕ) FuncFault
text_result NormalizeSpace (value.String text ∷ []) = Ok (trimmed text)
text_result Concatenate vs = Ok (concat (texts vs))
text_result Substring (value.String text ∷ value.Integer begin ∷ value.Integer end ∷ []) = substring text begin end
text_result _ _ = misfit

-- whether the first text stands in the second
abbrev pub part_result : TextPart → List (List ℕ) → Result Value FuncFault
part_result place (part ∷ text ∷ []) = Ok (value.Boolean (has_part place text part))
part_result place _ = misfit

-- the value of a string
abbrev pub read_result : PrintedType → List Value → Result Value FuncFault
read_result t (value.String text ∷ []) = value_of (printed_type t) text
read_result t _ = misfit

-- dates, and dates with a time, moved by durations
abbrev pub move_result : Moved → Direction → List Value → Result Value FuncFault
move_result DateTimeByDayTime d (value.DateTime date_time ∷ value.DayTimeDuration nanos ∷ []) =
    as_value value.DateTime (date_time_after_nanos date_time (directed d nanos))
move_result DateTimeByYearMonth d (value.DateTime date_time ∷ value.YearMonthDuration months ∷ []) =
    as_value value.DateTime (date_time_after_months date_time (directed d months))
move_result DateByYearMonth d (value.Date date ∷ value.YearMonthDuration months ∷ []) =
    as_value value.Date (date_after_months date (directed d months))
move_result _ _ _ = misfit

-- a time in a range of times
abbrev pub range_result : List Value → Result Value FuncFault
range_result (value.Time t ∷ value.Time start ∷ value.Time end ∷ []) = Ok (value.Boolean (time_in_range t start end))
range_result _ = misfit

-- what the function gives
abbrev pub applied : FuncId → List Value → Result Value FuncFault
applied (function.Equal t) vs = of_two (λ a b. Ok (value.Boolean (same a b))) vs
applied (function.Compare c t) vs = of_two (λ a b. Ok (value.Boolean (compared c a b))) vs
applied (function.Arithmetic f) vs = as_value value.Integer (arithmetic f (integers vs))
applied function.IntegerAbs vs = as_value value.Integer (absolute (integers vs))
applied (function.Logic f) vs = as_value value.Boolean (logical f vs)
applied (function.Text f) vs = as_value value.String (text_result f vs)
applied (function.Part place t) vs = part_result place (texts vs)
applied (function.StringFrom t) vs = of_one (λ v. Ok (value.String (printed v))) vs
applied (function.FromString t) vs = read_result t vs
applied (function.Move m d) vs = move_result m d vs
applied function.TimeInRange vs = range_result vs
applied _ _ = misfit

-- the functions whose result holds text, or is read from one: they alone may want memory
abbrev pub grows : FuncId → Bool
grows (function.Text f) = true
grows (function.StringFrom t) = true
grows (function.FromString t) = reading_grows (printed_type t)
grows _ = false
