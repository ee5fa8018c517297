-- What is read is of the type by which it was read.
use Rattle.std.proofs.Common.{◌≡◌, ℕ, List, refl, sym, ap, ◌∙◌}
use Rattle.std.specs.Prelude.{Result, Ok, Err}
use Rattle.xa_value.specs.declared.data_type.DataType.{DataType}
use Rattle.xa_value.specs.declared.data_type.DataType.TheVariants as type
use Rattle.xa_value.specs.declared.value.Value.{Value}
use Rattle.xa_value.specs.declared.value.Value.TheVariants as value
use Rattle.xa_value.specs.declared.read_error.ReadError.{ReadError}
use Rattle.xa_value.specs.Order.{type_of}
use Rattle.xa_value.specs.Reading.{read, read_as}

-- what was read and put into a variant of a type
read_as_typed : {A : Type 0} (t : DataType) (variant : A → Value) → ((a : A) → type_of (variant a) ≡ t) → (r : Result A ReadError) (v : Value) → read_as variant r ≡ Ok v → type_of v ≡ t
read_as_typed t variant typed (Ok a) v e = let h : variant a ≡ v = cc in ap type_of (sym h) ∙ typed a
read_as_typed t variant typed (Err f) v e = cc

pub read_typed : (t : DataType) (text : List ℕ) (v : Value) → read t text ≡ Ok v → type_of v ≡ t
read_typed type.String text v e = read_as_typed type.String value.String (λ a. refl) (Ok _) v e
read_typed type.AnyUri text v e = read_as_typed type.AnyUri value.AnyUri (λ a. refl) (Ok _) v e
read_typed type.Boolean text v e = read_as_typed type.Boolean value.Boolean (λ a. refl) _ v e
read_typed type.Integer text v e = read_as_typed type.Integer value.Integer (λ a. refl) _ v e
read_typed type.Date text v e = read_as_typed type.Date value.Date (λ a. refl) _ v e
read_typed type.Time text v e = read_as_typed type.Time value.Time (λ a. refl) _ v e
read_typed type.DateTime text v e = read_as_typed type.DateTime value.DateTime (λ a. refl) _ v e
read_typed type.DayTimeDuration text v e = read_as_typed type.DayTimeDuration value.DayTimeDuration (λ a. refl) _ v e
read_typed type.YearMonthDuration text v e = read_as_typed type.YearMonthDuration value.YearMonthDuration (λ a. refl) _ v e
read_typed type.HexBinary text v e = read_as_typed type.HexBinary value.HexBinary (λ a. refl) _ v e
read_typed type.Base64Binary text v e = read_as_typed type.Base64Binary value.Base64Binary (λ a. refl) _ v e
