-- What each function takes and gives (XACML 3.0, core, appendix A.3).
use Rattle.std.specs.Prelude.{◌≡◌, ℕ, ◌≤◌, ◌<◌, Bool, IsTrue, nat_le, ◌==◌, if◌then◌else◌}
use Rattle.std.specs.Prelude.{List, [], ◌∷◌, length, slice_get, Option, Some}
use Rattle.xa_value.specs.declared.data_type.DataType.{DataType}
use Rattle.xa_value.specs.declared.data_type.DataType.TheVariants as type
use Rattle.xa_value.specs.declared.value.Value.{Value}
use Rattle.xa_value.specs.Order.{type_of}
use Rattle.xa_func.specs.declared.func_id.FuncId.{FuncId}
use Rattle.xa_func.specs.declared.func_id.FuncId.TheVariants as function
use Rattle.xa_func.specs.declared.func_id.Arithmetic.{Arithmetic}
use Rattle.xa_func.specs.declared.func_id.Arithmetic.TheVariants as arithmetic
use Rattle.xa_func.specs.declared.func_id.Logic.{Logic}
use Rattle.xa_func.specs.declared.func_id.Logic.TheVariants as logic
use Rattle.xa_func.specs.declared.func_id.TextFunction.{TextFunction}
use Rattle.xa_func.specs.declared.func_id.TextFunction.TheVariants as text
use Rattle.xa_func.specs.declared.func_id.Moved.{Moved}
use Rattle.xa_func.specs.declared.func_id.Moved.TheVariants as moved
use Rattle.xa_func.specs.declared.func_id.BagFunction.{BagFunction}
use Rattle.xa_func.specs.declared.func_id.BagFunction.TheVariants as bag
use Rattle.xa_func.specs.declared.signature.Kind.{Kind}
use Rattle.xa_func.specs.declared.signature.Kind.TheVariants as kind
use Rattle.xa_func.specs.declared.signature.Parameters.{Parameters}
use Rattle.xa_func.specs.declared.signature.Parameters.TheVariants.{One, Two, Three, AtLeast, OneAndMore}
use Rattle.xa_func.specs.declared.signature.Signature.{Signature}
use Rattle.xa_func.specs.declared.signature.Signature.TheVariants.{FirstOrder, HigherOrder}
use Rattle.xa_func.specs.Table.{is_scalar, ordered_type, text_type, printed_type}

-- a function that gives a value of the type
abbrev pub of_values : Parameters → DataType → Signature
of_values parameters t = FirstOrder parameters (kind.Value t)

-- a function that gives a boolean
abbrev pub question : Parameters → Signature
question parameters = of_values parameters type.Boolean

-- one value of the type
abbrev pub one_value : DataType → Parameters
one_value t = One (kind.Value t)

-- two values of the type
abbrev pub two_values : DataType → Parameters
two_values t = Two (kind.Value t) (kind.Value t)

-- the functions of integers
abbrev pub arithmetic_parameters : Arithmetic → Parameters
arithmetic_parameters arithmetic.Add = AtLeast 2 (kind.Value type.Integer)
arithmetic_parameters arithmetic.Multiply = AtLeast 2 (kind.Value type.Integer)
arithmetic_parameters arithmetic.Subtract = two_values type.Integer
arithmetic_parameters arithmetic.Divide = two_values type.Integer
arithmetic_parameters arithmetic.Mod = two_values type.Integer

-- the functions of booleans
abbrev pub logic_parameters : Logic → Parameters
logic_parameters logic.Or = AtLeast 0 (kind.Value type.Boolean)
logic_parameters logic.And = AtLeast 0 (kind.Value type.Boolean)
logic_parameters logic.NOf = OneAndMore (kind.Value type.Integer) (kind.Value type.Boolean)
logic_parameters logic.Not = one_value type.Boolean

-- the functions that give a text
abbrev pub text_parameters : TextFunction → Parameters
text_parameters text.NormalizeSpace = one_value type.String
text_parameters text.Concatenate = AtLeast 2 (kind.Value type.String)
text_parameters text.Substring = Three (kind.Value type.String) (kind.Value type.Integer) (kind.Value type.Integer)

-- a value of the first type, moved by one of the second
abbrev pub moving : DataType → DataType → Signature
moving t duration = of_values (Two (kind.Value t) (kind.Value duration)) t

abbrev pub move_signature : Moved → Signature
move_signature moved.DateTimeByDayTime = moving type.DateTime type.DayTimeDuration
move_signature moved.DateTimeByYearMonth = moving type.DateTime type.YearMonthDuration
move_signature moved.DateByYearMonth = moving type.Date type.YearMonthDuration

-- the functions of bags
abbrev pub bag_signature : BagFunction → DataType → Signature
bag_signature bag.OneAndOnly t = FirstOrder (One (kind.Bag t)) (kind.Value t)
bag_signature bag.BagSize t = FirstOrder (One (kind.Bag t)) (kind.Value type.Integer)
bag_signature bag.IsIn t = question (Two (kind.Value t) (kind.Bag t))
bag_signature bag.Bag t = FirstOrder (AtLeast 0 (kind.Value t)) (kind.Bag t)
bag_signature bag.Intersection t = FirstOrder (Two (kind.Bag t) (kind.Bag t)) (kind.Bag t)
bag_signature bag.Union t = FirstOrder (AtLeast 2 (kind.Bag t)) (kind.Bag t)
bag_signature bag.AtLeastOneMemberOf t = question (Two (kind.Bag t) (kind.Bag t))
bag_signature bag.Subset t = question (Two (kind.Bag t) (kind.Bag t))
bag_signature bag.SetEquals t = question (Two (kind.Bag t) (kind.Bag t))

-- the table of all functions
abbrev pub signature_of : FuncId → Signature
signature_of (function.Equal t) = question (two_values t)
signature_of (function.Compare c t) = question (two_values (ordered_type t))
signature_of (function.Arithmetic f) = of_values (arithmetic_parameters f) type.Integer
signature_of function.IntegerAbs = of_values (one_value type.Integer) type.Integer
signature_of (function.Logic f) = question (logic_parameters f)
signature_of (function.Text f) = of_values (text_parameters f) type.String
signature_of (function.Part p t) = question (Two (kind.Value type.String) (kind.Value (text_type t)))
signature_of (function.StringFrom t) = of_values (one_value (printed_type t)) type.String
signature_of (function.FromString t) = of_values (one_value type.String) (printed_type t)
signature_of (function.Move m d) = move_signature m
signature_of function.TimeInRange =
    question (Three (kind.Value type.Time) (kind.Value type.Time) (kind.Value type.Time))
signature_of (function.Bag f t) = bag_signature f t
signature_of (function.HigherOrder f) = HigherOrder f

-- the function takes this many arguments
abbrev pub takes : Parameters → ℕ → Bool
takes (One k) n = n == 1
takes (Two k l) n = n == 2
takes (Three k l m) n = n == 3
takes (AtLeast least k) n = nat_le least n
takes (OneAndMore k l) n = nat_le 1 n

-- the kind of the argument at a place
abbrev pub kind_at : Parameters → ℕ → Option Kind
kind_at (One k) place = slice_get (k ∷ []) place
kind_at (Two k l) place = slice_get (k ∷ l ∷ []) place
kind_at (Three k l m) place = slice_get (k ∷ l ∷ m ∷ []) place
kind_at (AtLeast least k) place = Some k
kind_at (OneAndMore k l) place = Some (if place == 0 then k else l)

-- the kind of a value
abbrev pub kind_of : Value → Kind
kind_of v = kind.Value (type_of v)

-- the data type of a value of the kind, or of a bag's values
abbrev pub type_of_kind : Kind → DataType
type_of_kind (kind.Value t) = t
type_of_kind (kind.Bag t) = t

-- the kind of one of the values
abbrev pub of_each : Kind → Kind
of_each k = kind.Value (type_of_kind k)

-- the type of what a function of the signature gives. A function that takes a function counts as one that gives a
-- boolean
abbrev pub result_type_of : Signature → DataType
result_type_of (FirstOrder parameters k) = type_of_kind k
result_type_of (HigherOrder f) = type.Boolean

-- every argument is of the kind
abbrev pub Every : Kind → List Kind → Type 0
Every k [] = Unit {0}
Every k (l ∷ ls) = (l ≡ k) × Every k ls

-- arguments of these kinds are what the function takes
abbrev pub Fits : Parameters → List Kind → Type 0
Fits (One k) ks = ks ≡ k ∷ []
Fits (Two k l) ks = ks ≡ k ∷ l ∷ []
Fits (Three k l m) ks = ks ≡ k ∷ l ∷ m ∷ []
Fits (AtLeast least k) ks = (least ≤ length ks) × Every k ks
Fits (OneAndMore k l) [] = ⊥
Fits (OneAndMore k l) (m ∷ ms) = (m ≡ k) × Every l ms

-- there are as many arguments as the function takes, each of the kind that belongs at its place
pub record EachInPlace (parameters : Parameters) (ks : List Kind) : Type 0 where
  pub counted : IsTrue (takes parameters (length ks))
  pub placed : (place : ℕ) → place < length ks → kind_at parameters place ≡ slice_get ks place

-- arguments fit exactly if their number does, and each of them at its place
pub record IsByPlaces (parameters : Parameters) : Type 0 where
  pub each : (ks : List Kind) → Fits parameters ks → EachInPlace parameters ks
  pub whole : (ks : List Kind) → EachInPlace parameters ks → Fits parameters ks

-- arguments of these kinds are what a function of the signature takes
abbrev pub AcceptsKinds : Signature → List Kind → Type 0
AcceptsKinds (FirstOrder parameters k) ks = Fits parameters ks
AcceptsKinds (HigherOrder f) ks = ⊥

-- the function is one of values, and its signature takes arguments of these kinds
abbrev pub TakesKinds : FuncId → List Kind → Type 0
TakesKinds f ks = IsTrue (is_scalar f) × AcceptsKinds (signature_of f) ks

-- the value is what a function of the signature gives
abbrev pub IsResult : Signature → Value → Type 0
IsResult (FirstOrder parameters k) v = kind_of v ≡ k
IsResult (HigherOrder f) v = Unit {0}
