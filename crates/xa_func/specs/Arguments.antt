-- The arguments of a function, each seen as what its type holds.
use Rattle.std.specs.Prelude.{ℕ, Bool, List, [], ◌∷◌, ℤ, Result, Ok, Err}
use Rattle.xa_value.specs.declared.value.Value.{Value}
use Rattle.xa_value.specs.declared.value.Value.TheVariants as value
use Rattle.xa_func.specs.declared.fault.FuncFault.{FuncFault}
use Rattle.xa_func.specs.declared.fault.FuncFault.TheVariants.{Position}

-- arguments that do not fit the signature: no caller gives them, since `FuncId::apply` asks of each that they fit. Of
-- expressions a law says it of the definitions too: evaluation never comes to this word (`MeetsNoMisfit` of
-- `xa_expr/specs/Misfits`)
abbrev pub misfit : {X : Type 0} → Result X FuncFault
misfit = Err Position

-- what was computed, as a value of its type
abbrev pub as_value : {A : Type 0} → (A → Value) → Result A FuncFault → Result Value FuncFault
as_value variant (Ok a) = Ok (variant a)
as_value variant (Err e) = Err e

-- the integers among the arguments
abbrev pub integers : List Value → List ℤ
integers [] = []
integers (value.Integer z ∷ vs) = z ∷ integers vs
integers (_ ∷ vs) = integers vs

-- the booleans among the arguments
abbrev pub booleans : List Value → List Bool
booleans [] = []
booleans (value.Boolean b ∷ vs) = b ∷ booleans vs
booleans (_ ∷ vs) = booleans vs

-- the texts among the arguments, of strings and of URIs
abbrev pub texts : List Value → List (List ℕ)
texts [] = []
texts (value.String text ∷ vs) = text ∷ texts vs
texts (value.AnyUri text ∷ vs) = text ∷ texts vs
texts (_ ∷ vs) = texts vs

-- a function of one value
abbrev pub of_one : {X : Type 0} → (Value → Result X FuncFault) → List Value → Result X FuncFault
of_one f (v ∷ []) = f v
of_one f _ = misfit

-- a function of two values
abbrev pub of_two : {X : Type 0} → (Value → Value → Result X FuncFault) → List Value → Result X FuncFault
of_two f (v ∷ w ∷ []) = f v w
of_two f _ = misfit
