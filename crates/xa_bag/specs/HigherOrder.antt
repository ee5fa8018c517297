-- The higher-order functions (XACML 3.0, core, appendix A.3.12), of any function from arguments to a value or a fault.
-- Each is a list of results, one for each choice of arguments, joined from the first to the last.
use Rattle.std.specs.Prelude.{◌≡◌, Bool, false, List, [], ◌∷◌, ◌++◌, map, flat_map, Result, Ok, Err}
use Rattle.xa_value.specs.declared.data_type.DataType.{DataType}
use Rattle.xa_value.specs.declared.value.Value.{Value}
use Rattle.xa_value.specs.declared.value.Value.TheVariants as value
use Rattle.xa_func.specs.Logic.{or_of, and_of}
use Rattle.xa_bag.specs.declared.fault.BagFault.{BagFault}
use Rattle.xa_bag.specs.declared.fault.BagFault.TheVariants.{Inner}
use Rattle.xa_bag.specs.declared.value_or_bag.ValueOrBag.{ValueOrBag}
use Rattle.xa_bag.specs.declared.value_or_bag.ValueOrBag.TheVariants as given
use Rattle.xa_bag.specs.Bag.{Contents, bag_of}
use Rattle.xa_bag.specs.ValueOrBag.{values_of}

-- all choices of a value for each argument, the last argument fastest; of no arguments there is one, the empty one
abbrev pub choices : List ValueOrBag → List (List Value)
choices [] = [] ∷ []
choices (argument ∷ arguments) = flat_map (λ v. map (λ vs. v ∷ vs) (choices arguments)) (values_of argument)

-- if one argument is a bag, the choices are its values, each in the bag's place
abbrev pub EachInItsPlace : Type 0
EachInItsPlace =
    (before after : List Value) (b : Contents)
    → choices (map given.Value before ++ given.Bag b ∷ map given.Value after) ≡ map (λ v. before ++ v ∷ after) b.values

-- what an inner function gives, its fault kept as an inner one
abbrev pub outcome : {X F : Type 0} → Result X F → Result X (BagFault F)
outcome (Ok x) = Ok x
outcome (Err e) = Err (Inner e)

-- whether the value is True
abbrev pub is_true : Value → Bool
is_true (value.Boolean b) = b
is_true _ = false

-- whether the result is True, if there is one
abbrev pub truth : {F : Type 0} → Result Value F → Result Bool F
truth (Ok v) = Ok (is_true v)
truth (Err e) = Err e

-- whether the inner function gives True
abbrev pub holds : {F : Type 0} → (List Value → Result Value F) → List Value → Result Bool (BagFault F)
holds f vs = truth (outcome (f vs))

-- any-of and any-of-any: the inner function holds of some choice
abbrev pub any_of : {F : Type 0} → (List Value → Result Value F) → List ValueOrBag → Result Bool (BagFault F)
any_of f arguments = or_of (map (holds f) (choices arguments))

-- all-of: the inner function holds of each choice
abbrev pub all_of : {F : Type 0} → (List Value → Result Value F) → List ValueOrBag → Result Bool (BagFault F)
all_of f arguments = and_of (map (holds f) (choices arguments))

-- all-of-any: for each value of the first bag the inner function holds with some value of the second
abbrev pub all_of_any : {F : Type 0} → (List Value → Result Value F) → List Value → List Value
    → Result Bool (BagFault F)
all_of_any f vs ws = and_of (map (λ v. or_of (map (λ w. holds f (v ∷ w ∷ [])) ws)) vs)

-- all-of-all: for each value of the first bag the inner function holds with each value of the second
abbrev pub all_of_all : {F : Type 0} → (List Value → Result Value F) → List Value → List Value
    → Result Bool (BagFault F)
all_of_all f vs ws = and_of (map (λ v. and_of (map (λ w. holds f (v ∷ w ∷ [])) ws)) vs)

-- a value before others, if they are given
abbrev pub with_first : {X F : Type 0} → X → Result (List X) F → Result (List X) F
with_first x (Ok xs) = Ok (x ∷ xs)
with_first x (Err e) = Err e

-- all values, or the first fault
abbrev pub collected : {X F : Type 0} → List (Result X F) → Result (List X) F
collected [] = Ok []
collected (Ok x ∷ rs) = with_first x (collected rs)
collected (Err e ∷ rs) = Err e

-- the bag of the values, if they are given
abbrev pub as_bag : {F : Type 0} → DataType → Result (List Value) F → Result Contents F
as_bag t (Ok vs) = Ok (bag_of t vs)
as_bag t (Err e) = Err e

-- map: the bag of what the inner function gives for each choice, the type being that of its values
abbrev pub bag_of_results : {F : Type 0} → DataType → (List Value → Result Value F) → List ValueOrBag
    → Result Contents (BagFault F)
bag_of_results t f arguments = as_bag t (collected (map (λ vs. outcome (f vs)) (choices arguments)))
