-- The bag and set functions (XACML 3.0, core, appendix A.3.10, A.3.11). Two values are equal if the type's equal
-- function says so.
use Rattle.std.specs.Prelude.{Bool, not, ◌&&◌, List, [], ◌∷◌, filter, flat_map, Result, Ok, Err}
use Rattle.std.specs.List.{list_any, list_all}
use Rattle.xa_value.specs.declared.value.Value.{Value}
use Rattle.xa_value.specs.Order.{same}
use Rattle.xa_bag.specs.declared.fault.BagFault.{BagFault}
use Rattle.xa_bag.specs.declared.fault.BagFault.TheVariants.{NotOne}
use Rattle.xa_bag.specs.declared.value_or_bag.ValueOrBag.{ValueOrBag}
use Rattle.xa_bag.specs.ValueOrBag.{values_of}

-- one-and-only: the one value of the list
abbrev pub one_and_only : {F : Type 0} → List Value → Result Value (BagFault F)
one_and_only (v ∷ []) = Ok v
one_and_only _ = Err NotOne

-- some value of the list is the value
abbrev pub is_among : List Value → Value → Bool
is_among vs v = list_any (same v) vs

-- some value of the first is in the second
abbrev pub at_least_one : List Value → List Value → Bool
at_least_one vs ws = list_any (is_among ws) vs

-- every value of the first is in the second
abbrev pub subset : List Value → List Value → Bool
subset vs ws = list_all (is_among ws) vs

-- each of two bags has all values of the other
abbrev pub set_equals : List Value → List Value → Bool
set_equals vs ws = subset vs ws && subset ws vs

-- each value of a list, at its first appearance alone
abbrev pub distinct : List Value → List Value
distinct [] = []
distinct (v ∷ vs) = v ∷ filter (λ w. not (same v w)) (distinct vs)

-- the values of the first that are in the second, without doubles
abbrev pub intersection : List Value → List Value → List Value
intersection vs ws = distinct (filter (is_among ws) vs)

-- the values of all arguments, from the first to the last
abbrev pub all_values : List ValueOrBag → List Value
all_values arguments = flat_map values_of arguments

-- the values of all arguments, without doubles
abbrev pub union : List ValueOrBag → List Value
union arguments = distinct (all_values arguments)
