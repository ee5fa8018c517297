-- What functions give is of the kinds that their signatures say, for arguments of the kinds that they take.
use Rattle.std.proofs.Common.{◌≡◌, refl, ap, sym, ◌∙◌, ℕ, Bool, List, [], ◌∷◌}
use Rattle.std.specs.Prelude.{Result, Ok, Err}
use Rattle.xa_value.specs.declared.data_type.DataType.{DataType}
use Rattle.xa_value.specs.declared.data_type.DataType.TheVariants as type
use Rattle.xa_value.specs.declared.read_error.ReadError.{ReadError}
use Rattle.xa_value.specs.declared.value.Value.{Value}
use Rattle.xa_value.specs.declared.value.Value.TheVariants as value
use Rattle.xa_value.specs.Order.{type_of}
use Rattle.xa_value.specs.Reading.{read, read_as}
use Rattle.xa_func.specs.declared.fault.FuncFault.{FuncFault}
use Rattle.xa_func.specs.declared.func_id.FuncId.{FuncId}
use Rattle.xa_func.specs.declared.func_id.FuncId.TheVariants as function
use Rattle.xa_func.specs.declared.func_id.Moved.{Moved}
use Rattle.xa_func.specs.declared.func_id.Moved.TheVariants as moved
use Rattle.xa_func.specs.declared.func_id.Direction.{Direction}
use Rattle.xa_func.specs.declared.func_id.PrintedType.{PrintedType}
use Rattle.xa_func.specs.declared.func_id.TextPart.{TextPart}
use Rattle.xa_func.specs.declared.signature.Kind.{Kind}
use Rattle.xa_func.specs.declared.signature.Kind.TheVariants as kind
use Rattle.xa_func.specs.declared.signature.Signature.{Signature}
use Rattle.xa_func.specs.declared.signature.Signature.TheVariants as signature
use Rattle.xa_func.specs.Application as func
use Rattle.xa_func.specs.Arguments.{as_value, of_one, of_two, texts}
use Rattle.xa_func.specs.Conversion.{or_bad_text}
use Rattle.xa_func.specs.Signature.{IsResult, kind_of, move_signature, result_type_of, signature_of, type_of_kind}
use Rattle.xa_func.specs.Table.{printed_type}
use Rattle.xa_expr.specs.Typed.{result_kind}

-- a value that was made by a variant is of its type
by_variant : {A : Type 0} (variant : A → Value) (t : DataType) → ((a : A) → type_of (variant a) ≡ t) → (r : Result A FuncFault) (v : Value) → as_value variant r ≡ Ok v → kind_of v ≡ kind.Value t
by_variant variant t same (Ok a) v e =
    let is : variant a ≡ v = cc in
    ap kind_of (sym is) ∙ ap kind.Value (same a)
by_variant variant t same (Err x) v e = cc

abbrev given_value : Value → Result Value FuncFault
given_value v = Ok v

a_boolean : (b : Bool) (v : Value) → given_value (value.Boolean b) ≡ Ok v → kind_of v ≡ kind.Value type.Boolean
a_boolean b v e =
    let is : value.Boolean b ≡ v = cc in
    ap kind_of (sym is)

a_text : (text : List ℕ) (v : Value) → given_value (value.String text) ≡ Ok v → kind_of v ≡ kind.Value type.String
a_text text v e =
    let is : value.String text ≡ v = cc in
    ap kind_of (sym is)

of_two_kind : (k : Kind) (g : Value → Value → Result Value FuncFault) → ((a b v : Value) → g a b ≡ Ok v → kind_of v ≡ k) → (vs : List Value) (v : Value) → of_two g vs ≡ Ok v → kind_of v ≡ k
of_two_kind k g each [] v e = cc
of_two_kind k g each (a ∷ []) v e = cc
of_two_kind k g each (a ∷ b ∷ []) v e = each a b v e
of_two_kind k g each (a ∷ b ∷ c ∷ vs) v e = cc

of_one_kind : (k : Kind) (g : Value → Result Value FuncFault) → ((a v : Value) → g a ≡ Ok v → kind_of v ≡ k) → (vs : List Value) (v : Value) → of_one g vs ≡ Ok v → kind_of v ≡ k
of_one_kind k g each [] v e = cc
of_one_kind k g each (a ∷ []) v e = each a v e
of_one_kind k g each (a ∷ b ∷ vs) v e = cc

part_kind : (p : TextPart) (ts : List (List ℕ)) (v : Value) → func.part_result p ts ≡ Ok v → kind_of v ≡ kind.Value type.Boolean
part_kind p [] v e = cc
part_kind p (a ∷ []) v e = cc
part_kind p (a ∷ b ∷ []) v e = a_boolean _ v e
part_kind p (a ∷ b ∷ c ∷ ts) v e = cc

-- a text reads as a value of the type
read_by : {A : Type 0} (variant : A → Value) (t : DataType) → ((a : A) → type_of (variant a) ≡ t) → (r : Result A ReadError) (v : Value) → or_bad_text (read_as variant r) ≡ Ok v → kind_of v ≡ kind.Value t
read_by variant t same (Ok a) v e =
    let is : variant a ≡ v = cc in
    ap kind_of (sym is) ∙ ap kind.Value (same a)
read_by variant t same (Err x) v e = cc

read_kind : (t : DataType) (text : List ℕ) (v : Value) → or_bad_text (read t text) ≡ Ok v → kind_of v ≡ kind.Value t
read_kind type.String text v e =
    let is : value.String text ≡ v = cc in
    ap kind_of (sym is)
read_kind type.Boolean text v e = read_by value.Boolean type.Boolean (λ a. refl) _ v e
read_kind type.Integer text v e = read_by value.Integer type.Integer (λ a. refl) _ v e
read_kind type.Date text v e = read_by value.Date type.Date (λ a. refl) _ v e
read_kind type.Time text v e = read_by value.Time type.Time (λ a. refl) _ v e
read_kind type.DateTime text v e = read_by value.DateTime type.DateTime (λ a. refl) _ v e
read_kind type.DayTimeDuration text v e = read_by value.DayTimeDuration type.DayTimeDuration (λ a. refl) _ v e
read_kind type.YearMonthDuration text v e = read_by value.YearMonthDuration type.YearMonthDuration (λ a. refl) _ v e
read_kind type.AnyUri text v e = read_by value.AnyUri type.AnyUri (λ a. refl) (Ok _) v e
read_kind type.HexBinary text v e = read_by value.HexBinary type.HexBinary (λ a. refl) _ v e
read_kind type.Base64Binary text v e = read_by value.Base64Binary type.Base64Binary (λ a. refl) _ v e

from_string_kind : (t : PrintedType) (vs : List Value) (v : Value) → func.read_result t vs ≡ Ok v → kind_of v ≡ kind.Value (printed_type t)
from_string_kind t (value.String text ∷ []) v e = read_kind (printed_type t) text v e
from_string_kind t _ v e = cc

range_kind : (vs : List Value) (v : Value) → func.range_result vs ≡ Ok v → kind_of v ≡ kind.Value type.Boolean
range_kind (value.Time a ∷ value.Time b ∷ value.Time c ∷ []) v e = a_boolean _ v e
range_kind _ v e = cc

move_kind : (m : Moved) (d : Direction) (vs : List Value) (v : Value) → func.move_result m d vs ≡ Ok v → kind_of v ≡ result_kind (move_signature m)
move_kind moved.DateTimeByDayTime d (value.DateTime a ∷ value.DayTimeDuration b ∷ []) v e = by_variant value.DateTime type.DateTime (λ a. refl) _ v e
move_kind moved.DateTimeByYearMonth d (value.DateTime a ∷ value.YearMonthDuration b ∷ []) v e = by_variant value.DateTime type.DateTime (λ a. refl) _ v e
move_kind moved.DateByYearMonth d (value.Date a ∷ value.YearMonthDuration b ∷ []) v e = by_variant value.Date type.Date (λ a. refl) _ v e
move_kind _ d _ v e = cc

-- what a function of values gives
pub applied_kind : (f : FuncId) (vs : List Value) (v : Value) → func.applied f vs ≡ Ok v → kind_of v ≡ result_kind (signature_of f)
applied_kind (function.Equal t) vs v e = of_two_kind _ _ (λ a b w is. a_boolean _ w is) vs v e
applied_kind (function.Compare c t) vs v e = of_two_kind _ _ (λ a b w is. a_boolean _ w is) vs v e
applied_kind (function.Arithmetic f) vs v e = by_variant value.Integer type.Integer (λ a. refl) _ v e
applied_kind function.IntegerAbs vs v e = by_variant value.Integer type.Integer (λ a. refl) _ v e
applied_kind (function.Logic f) vs v e = by_variant value.Boolean type.Boolean (λ a. refl) _ v e
applied_kind (function.Text f) vs v e = by_variant value.String type.String (λ a. refl) _ v e
applied_kind (function.Part p t) vs v e = part_kind p (texts vs) v e
applied_kind (function.StringFrom t) vs v e = of_one_kind _ _ (λ a w is. a_text _ w is) vs v e
applied_kind (function.FromString t) vs v e = from_string_kind t vs v e
applied_kind (function.Move m d) vs v e = move_kind m d vs v e
applied_kind function.TimeInRange vs v e = range_kind vs v e
applied_kind (function.Bag f t) vs v e = cc
applied_kind (function.HigherOrder f) vs v e = cc

by_signature : (s : Signature) (v : Value) → kind_of v ≡ result_kind s → IsResult s v × (type_of v ≡ result_type_of s)
by_signature (signature.FirstOrder parameters k) v e = (e, ap type_of_kind e)
by_signature (signature.HigherOrder f) v e = (tt, ap type_of_kind e)

pub applied_result : (f : FuncId) (vs : List Value) (v : Value) → func.applied f vs ≡ Ok v → IsResult (signature_of f) v
applied_result f vs v e = (by_signature (signature_of f) v (applied_kind f vs v e)).0

pub applied_type : (f : FuncId) (vs : List Value) (v : Value) → func.applied f vs ≡ Ok v → type_of v ≡ result_type_of (signature_of f)
applied_type f vs v e = (by_signature (signature_of f) v (applied_kind f vs v e)).1
