-- Order, of values of a type that has one (XACML 3.0, core, appendices A.3.6 and A.3.8).
use Rattle.std.specs.Prelude.{Bool, true, false, Option, Some, None}
use Rattle.std.specs.declared.cmp.Ordering.{Ordering}
use Rattle.std.specs.declared.cmp.Ordering.TheVariants.{Less, Greater}
use Rattle.xa_value.specs.declared.value.Value.{Value}
use Rattle.xa_value.specs.Order.{order}
use Rattle.xa_func.specs.declared.func_id.Comparison.{Comparison}
use Rattle.xa_func.specs.declared.func_id.Comparison.TheVariants.{GreaterThan, GreaterThanOrEqual}
use Rattle.xa_func.specs.declared.func_id.Comparison.TheVariants.{LessThan, LessThanOrEqual}

-- what each question asks of the order
abbrev pub meets : Comparison → Ordering → Bool
meets GreaterThan Greater = true
meets GreaterThan _ = false
meets GreaterThanOrEqual Less = false
meets GreaterThanOrEqual _ = true
meets LessThan Less = true
meets LessThan _ = false
meets LessThanOrEqual Greater = false
meets LessThanOrEqual _ = true

-- values without an order meet no question
abbrev pub meets_some : Comparison → Option Ordering → Bool
meets_some c None = false
meets_some c (Some o) = meets c o

-- how the first value lies to the second
abbrev pub compared : Comparison → Value → Value → Bool
compared c a b = meets_some c (order a b)
