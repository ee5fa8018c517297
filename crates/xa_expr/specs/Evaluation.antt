-- The values of checked expressions (XACML 3.0, core, sections 7.3.5, 7.4 and 7.8).
use Rattle.std.specs.Prelude.{ℤ, pos, Bool, true, false, ◌&&◌, if◌then◌else◌, List, [], ◌∷◌}
use Rattle.std.specs.Prelude.{◌++◌, map, slice_get, Option, Some, None, Result, Ok, Err}
use Rattle.xa_value.specs.declared.value.Value.{Value}
use Rattle.xa_value.specs.declared.value.Value.TheVariants as value
use Rattle.xa_value.specs.Gives.{◌>>=◌}
use Rattle.xa_func.specs.declared.func_id.FuncId.{FuncId}
use Rattle.xa_func.specs.declared.func_id.FuncId.TheVariants as function
use Rattle.xa_func.specs.declared.func_id.HigherOrder.{HigherOrder}
use Rattle.xa_func.specs.declared.func_id.Logic.TheVariants as logic
use Rattle.xa_func.specs.Application as func
use Rattle.xa_func.specs.Logic.{or_of, and_of, n_of}
use Rattle.xa_func.specs.Signature.{signature_of, result_type_of}
use Rattle.xa_bag.specs.declared.value_or_bag.ValueOrBag.{ValueOrBag}
use Rattle.xa_bag.specs.declared.value_or_bag.ValueOrBag.TheVariants as given
use Rattle.xa_bag.specs.Applying.{as_argument, as_boolean, bag_applied, higher_order_applied}
use Rattle.xa_bag.specs.Bag.{bag_of}
use Rattle.xa_bag.specs.HigherOrder.{collected}
use Rattle.xa_expr.specs.declared.designator.Designator.{Designator}
use Rattle.xa_expr.specs.declared.fault.Fault.{Fault}
use Rattle.xa_expr.specs.declared.fault.Fault.TheVariants.{MissingAttribute, ProcessingError}
use Rattle.xa_expr.specs.declared.typed.Typed.{Typed, fold-Typed}
use Rattle.xa_expr.specs.declared.typed.Typed.TheOpen.{Typed-F}
use Rattle.xa_expr.specs.declared.variables.Definition.{Definition}
use Rattle.xa_expr.specs.Fault.{of_function, of_bag_function}

-- a source of attributes: the values of each designator's bag
abbrev pub Attributes : Type 0
Attributes = Designator → List Value

-- what an expression comes to
abbrev pub Outcome : Type 0
Outcome = Result ValueOrBag Fault

-- there are no values
abbrev pub is_empty : List Value → Bool
is_empty [] = true
is_empty (_ ∷ _) = false

-- what a designator gives (7.3.5): its bag, or a fault if that is empty and must not be
abbrev pub attribute : Attributes → Designator → Outcome
attribute values_of d =
    if is_empty (values_of d) && d.must_be_present then Err MissingAttribute
    else Ok (given.Bag (bag_of d.data_type (values_of d)))

-- What is answered of arguments of other kinds than a function takes, and of a variable that isn't there: a value, a
-- boolean, a number and a fault. Evaluation never comes to one of these words, of an expression that a type check
-- gives a kind: that is a law (`MeetsNoMisfit` of `specs/Misfits`).
abbrev pub misfit_value : Value
misfit_value = value.Boolean false

abbrev pub misfit_truth : Bool
misfit_truth = false

abbrev pub misfit_number : ℤ
misfit_number = pos 0

abbrev pub misfit : {X : Type 0} → Result X Fault
misfit = Err ProcessingError

-- the value of an argument that can only be a value
abbrev pub value_in : ValueOrBag → Value
value_in (given.Value v) = v
value_in (given.Bag b) = misfit_value

-- the boolean that an argument is, if a type check let no other through
abbrev pub truth : ValueOrBag → Bool
truth (given.Value (value.Boolean b)) = b
truth _ = misfit_truth

-- the number that an argument is, if a type check let no other through
abbrev pub number : ValueOrBag → ℤ
number (given.Value (value.Integer n)) = n
number _ = misfit_number

-- the place of a boolean argument: True, False or a fault
abbrev pub place : Outcome → Result Bool Fault
place (Ok given) = Ok (truth given)
place (Err fault) = Err fault

-- n-of: the number first, then the places of the others
abbrev pub n_of_places : List Outcome → Result Bool Fault
n_of_places [] = misfit
n_of_places (Ok n ∷ rs) = n_of ProcessingError (number n) (map place rs)
n_of_places (Err fault ∷ rs) = Err fault

-- a function of values on all values of its arguments, or the first fault
abbrev pub applied_to_values : FuncId → List Outcome → Outcome
applied_to_values f rs = collected rs >>= (λ given. as_argument (of_function (func.applied f (map value_in given))))

-- a function of values and bags on what its arguments come to: or, and, n-of by places over all of them; every other
-- on all their values, or the first fault
abbrev pub applied : FuncId → List Outcome → Outcome
applied (function.Logic logic.Or) rs = as_boolean (or_of (map place rs))
applied (function.Logic logic.And) rs = as_boolean (and_of (map place rs))
applied (function.Logic logic.NOf) rs = as_boolean (n_of_places rs)
applied (function.Bag f t) rs = collected rs >>= (λ given. of_bag_function (bag_applied f t given))
applied f rs = applied_to_values f rs

-- a higher-order function and its inner function on what the arguments after this come to (A.3.12)
abbrev pub higher_applied : HigherOrder → FuncId → List Outcome → Outcome
higher_applied h f rs =
    collected rs
    >>= (λ given. of_bag_function (higher_order_applied h (result_type_of (signature_of f)) (func.applied f) given))

-- the result of the variable at a place; a type check lets no place through at which there is none
abbrev pub result_at : Option Outcome → Outcome
result_at (Some r) = r
result_at None = misfit

-- each expression, by what those in it come to, if the variables come to these
abbrev pub outcome_step : Attributes → List Outcome → Typed-F Outcome → Outcome
outcome_step values_of variables (Typed-F.Literal v) = Ok (given.Value v)
outcome_step values_of variables (Typed-F.Attribute d) = attribute values_of d
outcome_step values_of variables (Typed-F.Variable place k) = result_at (slice_get variables place)
outcome_step values_of variables (Typed-F.Apply f rs) = applied f rs
outcome_step values_of variables (Typed-F.HigherOrder h f rs) = higher_applied h f rs

abbrev pub outcome : Attributes → List Outcome → Typed → Outcome
outcome values_of variables = fold-Typed Outcome (outcome_step values_of variables)

-- what the definitions come to, each by those before it (7.8)
abbrev pub outcomes_after : Attributes → List Outcome → List Definition → List Outcome
outcomes_after values_of before [] = before
outcomes_after values_of before (d ∷ ds) =
    outcomes_after values_of (before ++ outcome values_of before d.expression ∷ []) ds

abbrev pub outcomes : Attributes → List Definition → List Outcome
outcomes values_of definitions = outcomes_after values_of [] definitions

-- what an expression comes to under definitions
abbrev pub value_of : Attributes → List Definition → Typed → Outcome
value_of values_of definitions expression = outcome values_of (outcomes values_of definitions) expression
