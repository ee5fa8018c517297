-- Or, and and n-of of some choice of a value for each argument, seen from how many arguments are True in one choice
-- at the most: what the code goes by if it needs no call of an inner function for each choice.
use Rattle.std.specs.Prelude.{ℕ, suc, nat_le, nat_lt, int_lt, if◌then◌else◌, List, [], ◌∷◌, map, ℤ}
use Rattle.std.specs.Prelude.{pos, unsigned_abs, Option, Some, None, option_map, Bool, Result, Ok, Err}
use Rattle.std.specs.List.{list_any}
use Rattle.xa_value.specs.declared.value.Value.{Value}
use Rattle.xa_value.specs.declared.value.Value.TheVariants as value
use Rattle.xa_func.specs.declared.fault.FuncFault.{FuncFault}
use Rattle.xa_func.specs.declared.fault.FuncFault.TheVariants.{Position}
use Rattle.xa_func.specs.declared.func_id.Logic.{Logic}
use Rattle.xa_func.specs.Arguments.{misfit}
use Rattle.xa_func.specs.Logic.{or_of, logical}
use Rattle.xa_bag.specs.declared.value_or_bag.ValueOrBag.{ValueOrBag}
use Rattle.xa_bag.specs.Bag.{OfType}
use Rattle.xa_bag.specs.HigherOrder.{choices, is_true}
use Rattle.xa_bag.specs.ValueOrBag.{values_of, type_of_each}

-- the function is True of some choice, up to the first choice of which it is a fault
abbrev pub of_some_choice : Logic → List ValueOrBag → Result Bool FuncFault
of_some_choice function arguments = or_of (map (logical function) (choices arguments))

-- the most that are True with one more argument, of these values; none if it has no value
abbrev pub with_values : List Value → Option ℕ → Option ℕ
with_values [] most = None
with_values (v ∷ vs) most = option_map (λ n. if list_any is_true (v ∷ vs) then suc n else n) most

-- how many arguments are True in one choice at the most: those that have a True. If one has no value, there is no
-- choice
abbrev pub most_true : List ValueOrBag → Option ℕ
most_true [] = Some 0
most_true (argument ∷ arguments) = with_values (values_of argument) (most_true arguments)

-- the values of each argument are of its type
abbrev pub EachOfItsType : List ValueOrBag → Type 0
EachOfItsType [] = Unit {0}
EachOfItsType (argument ∷ arguments) = OfType (type_of_each argument) (values_of argument) × EachOfItsType arguments

-- what n-of gives for the number n, if `trues` of its `booleans` booleans are True
abbrev pub n_of_counted : ℕ → ℕ → ℤ → Result Bool FuncFault
n_of_counted trues booleans n =
    if int_lt n (pos 0) then Err Position
    else if nat_lt booleans (unsigned_abs n) then Err Position
    else Ok (nat_le (unsigned_abs n) trues)

-- what n-of gives by the value of its first argument, if `trues` of its `booleans` booleans are True
abbrev pub n_of_value : ℕ → ℕ → Value → Result Bool FuncFault
n_of_value trues booleans (value.Integer n) = n_of_counted trues booleans n
n_of_value trues booleans _ = misfit
