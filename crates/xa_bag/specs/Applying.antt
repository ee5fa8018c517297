-- What each bag, set and higher-order function gives for its arguments (XACML 3.0, core, appendix A.3.10 to A.3.12).
-- The rows are total: for arguments of other kinds they say `misfit`, which is NotOne. A bag function is never given
-- such arguments, since its caller shows that its signature takes them: of a bag function NotOne is the answer of
-- one-and-only alone.
use Rattle.std.specs.Prelude.{◌≡◌, Bool, true, false, List, [], ◌∷◌, length, pos, Result, Ok, Err}
use Rattle.xa_value.specs.declared.data_type.DataType.{DataType}
use Rattle.xa_value.specs.declared.data_type.DataType.TheVariants as type
use Rattle.xa_value.specs.declared.value.Value.{Value}
use Rattle.xa_value.specs.declared.value.Value.TheVariants as value
use Rattle.xa_func.specs.declared.func_id.BagFunction.{BagFunction}
use Rattle.xa_func.specs.declared.func_id.BagFunction.TheVariants as function
use Rattle.xa_func.specs.declared.func_id.HigherOrder.{HigherOrder}
use Rattle.xa_func.specs.declared.func_id.HigherOrder.TheVariants as higher
use Rattle.xa_func.specs.declared.signature.Kind.{Kind}
use Rattle.xa_func.specs.declared.signature.Kind.TheVariants as kind
use Rattle.xa_func.specs.declared.signature.Signature.{Signature}
use Rattle.xa_func.specs.declared.signature.Signature.TheVariants as signature
use Rattle.xa_bag.specs.declared.fault.BagFault.{BagFault}
use Rattle.xa_bag.specs.declared.fault.BagFault.TheVariants.{NotOne}
use Rattle.xa_bag.specs.declared.value_or_bag.ValueOrBag.{ValueOrBag}
use Rattle.xa_bag.specs.declared.value_or_bag.ValueOrBag.TheVariants as given
use Rattle.xa_bag.specs.Bag.{Contents, bag_of}
use Rattle.xa_bag.specs.HigherOrder.{any_of, all_of, all_of_any, all_of_all, bag_of_results}
use Rattle.xa_bag.specs.Sets.{one_and_only, is_among, at_least_one, subset, set_equals, intersection, all_values, union}
use Rattle.xa_bag.specs.ValueOrBag.{kind_of_argument}

-- a boolean, as a value
abbrev pub boolean : Bool → ValueOrBag
boolean b = given.Value (value.Boolean b)

-- a value that is given, as an argument
abbrev pub as_argument : {F : Type 0} → Result Value F → Result ValueOrBag F
as_argument (Ok v) = Ok (given.Value v)
as_argument (Err e) = Err e

-- a boolean that is given, as an argument
abbrev pub as_boolean : {F : Type 0} → Result Bool F → Result ValueOrBag F
as_boolean (Ok b) = Ok (boolean b)
as_boolean (Err e) = Err e

-- a bag that is given, as an argument
abbrev pub as_bag_argument : {F : Type 0} → Result Contents F → Result ValueOrBag F
as_bag_argument (Ok b) = Ok (given.Bag b)
as_bag_argument (Err e) = Err e

-- arguments of other kinds than the function takes. Of expressions a law says that evaluation never comes to this
-- word (`MeetsNoMisfit` of `xa_expr/specs/Misfits`)
abbrev pub misfit : {X F : Type 0} → Result X (BagFault F)
misfit = Err NotOne

-- the answer for one bag, for a value and a bag, and for two bags
abbrev pub of_bag : {F : Type 0} → (Contents → Result ValueOrBag (BagFault F)) → List ValueOrBag
    → Result ValueOrBag (BagFault F)
of_bag answer (given.Bag b ∷ []) = answer b
of_bag answer _ = misfit

abbrev pub of_value_and_bag : {F : Type 0} → (Value → Contents → Result ValueOrBag (BagFault F)) → List ValueOrBag
    → Result ValueOrBag (BagFault F)
of_value_and_bag answer (given.Value v ∷ given.Bag b ∷ []) = answer v b
of_value_and_bag answer _ = misfit

abbrev pub of_bags : {F : Type 0} → (Contents → Contents → Result ValueOrBag (BagFault F)) → List ValueOrBag
    → Result ValueOrBag (BagFault F)
of_bags answer (given.Bag a ∷ given.Bag b ∷ []) = answer a b
of_bags answer _ = misfit

-- the table of the bag and set functions of a type
abbrev pub bag_applied : {F : Type 0} → BagFunction → DataType → List ValueOrBag → Result ValueOrBag (BagFault F)
bag_applied function.OneAndOnly t arguments = of_bag (λ b. as_argument (one_and_only b.values)) arguments
bag_applied function.BagSize t arguments =
    of_bag (λ b. Ok (given.Value (value.Integer (pos (length b.values))))) arguments
bag_applied function.IsIn t arguments = of_value_and_bag (λ v b. Ok (boolean (is_among b.values v))) arguments
bag_applied function.Bag t arguments = Ok (given.Bag (bag_of t (all_values arguments)))
bag_applied function.Intersection t arguments =
    of_bags (λ a b. Ok (given.Bag (bag_of a.data_type (intersection a.values b.values)))) arguments
bag_applied function.Union t arguments = Ok (given.Bag (bag_of t (union arguments)))
bag_applied function.AtLeastOneMemberOf t arguments =
    of_bags (λ a b. Ok (boolean (at_least_one a.values b.values))) arguments
bag_applied function.Subset t arguments = of_bags (λ a b. Ok (boolean (subset a.values b.values))) arguments
bag_applied function.SetEquals t arguments = of_bags (λ a b. Ok (boolean (set_equals a.values b.values))) arguments

-- the functions whose result may hold text, being a value of the bag or a bag: they alone may want memory
abbrev pub grows : BagFunction → Bool
grows function.OneAndOnly = true
grows function.Bag = true
grows function.Intersection = true
grows function.Union = true
grows _ = false

-- the argument is of the kind that a function of the signature gives, if its arguments have no say in that
abbrev pub IsOfResultKind : Signature → ValueOrBag → Type 0
IsOfResultKind (signature.FirstOrder parameters k) argument = kind_of_argument argument ≡ k
IsOfResultKind (signature.HigherOrder f) argument = Unit {0}

-- the table of the higher-order functions, of an inner function and the type of its values
abbrev pub higher_order_applied : {F : Type 0} → HigherOrder → DataType → (List Value → Result Value F)
    → List ValueOrBag → Result ValueOrBag (BagFault F)
higher_order_applied higher.AnyOf t f arguments = as_boolean (any_of f arguments)
higher_order_applied higher.AllOf t f arguments = as_boolean (all_of f arguments)
higher_order_applied higher.AnyOfAny t f arguments = as_boolean (any_of f arguments)
higher_order_applied higher.Map t f arguments = as_bag_argument (bag_of_results t f arguments)
higher_order_applied higher.AllOfAny t f arguments =
    of_bags (λ a b. as_boolean (all_of_any f a.values b.values)) arguments
higher_order_applied higher.AllOfAll t f arguments =
    of_bags (λ a b. as_boolean (all_of_all f a.values b.values)) arguments

-- the kind of what a higher-order function gives: of map a bag of the inner function's values, of every other a boolean
abbrev pub kind_given : HigherOrder → DataType → Kind
kind_given higher.Map t = kind.Bag t
kind_given _ t = kind.Value type.Boolean
