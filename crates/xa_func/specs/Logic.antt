-- Or, and, n-of, by places (XACML 3.0, core, appendix A.3.5), over what was computed at each place.
use Rattle.std.specs.Prelude.{ℕ, zero, suc, Bool, true, false, not, nat_lt, int_lt, if◌then◌else◌, List}
use Rattle.std.specs.Prelude.{[], ◌∷◌, map, length, find, unwrap_or, ℤ, pos, unsigned_abs, Result, Ok, Err}
use Rattle.xa_value.specs.declared.value.Value.{Value}
use Rattle.xa_value.specs.declared.value.Value.TheVariants as value
use Rattle.xa_func.specs.declared.func_id.Logic.{Logic}
use Rattle.xa_func.specs.declared.func_id.Logic.TheVariants as logic
use Rattle.xa_func.specs.declared.fault.FuncFault.{FuncFault}
use Rattle.xa_func.specs.declared.fault.FuncFault.TheVariants.{Position}
use Rattle.xa_func.specs.Arguments.{misfit, booleans}

-- a place decides by a fault, or by a value that stops
abbrev pub decides : {X F : Type 0} → (X → Bool) → Result X F → Bool
decides stops (Ok x) = stops x
decides stops (Err e) = true

-- the first place that decides is the result, and without one it is another value
abbrev pub by_places : {X F : Type 0} → (X → Bool) → X → List (Result X F) → Result X F
by_places stops otherwise rs = unwrap_or (find (decides stops) rs) (Ok otherwise)

-- `or`: the first place that is True or a fault, and else False
abbrev pub or_of : {F : Type 0} → List (Result Bool F) → Result Bool F
or_of rs = by_places (λ b. b) false rs

-- `and`: the first place that is False or a fault, and else True
abbrev pub and_of : {F : Type 0} → List (Result Bool F) → Result Bool F
and_of rs = by_places not true rs

-- at least n of the places, from first to last: a fault that is reached is the result, a True is one of the n, and
-- after a False too few may be left
abbrev pub n_places : {F : Type 0} → ℕ → List (Result Bool F) → Result Bool F
n_places zero rs = Ok true
n_places (suc n) [] = Ok false
n_places (suc n) (Err e ∷ rs) = Err e
n_places (suc n) (Ok true ∷ rs) = n_places n rs
n_places (suc n) (Ok false ∷ rs) = if nat_lt (length rs) (suc n) then Ok false else n_places (suc n) rs

-- at least n of the places: for 0 it is True at once, and more than there are is a fault
unfoldable pub n_among : {F : Type 0} → F → ℕ → List (Result Bool F) → Result Bool F
n_among fault n rs = if nat_lt (length rs) n then Err fault else n_places n rs

-- n-of, at least n: a negative number is a fault
abbrev pub n_of : {F : Type 0} → F → ℤ → List (Result Bool F) → Result Bool F
n_of fault n rs = if int_lt n (pos 0) then Err fault else n_among fault (unsigned_abs n) rs

-- the places of booleans
abbrev pub given : List Bool → List (Result Bool FuncFault)
given bs = map Ok bs

-- how many booleans are True
abbrev pub true_count : List Bool → ℕ
true_count [] = 0
true_count (b ∷ bs) = if b then suc (true_count bs) else true_count bs

-- the functions of booleans
abbrev pub logical : Logic → List Value → Result Bool FuncFault
logical logic.Or vs = or_of (given (booleans vs))
logical logic.And vs = and_of (given (booleans vs))
logical logic.NOf (value.Integer n ∷ vs) = n_of Position n (given (booleans vs))
logical logic.Not (value.Boolean b ∷ []) = Ok (not b)
logical _ _ = misfit
