-- Two values that are equal, or lie in an order, and all pairs of the values of two bags: what the code goes by if
-- it needs no call of an inner function for each pair.
use Rattle.std.specs.Prelude.{Bool, if◌then◌else◌, List, [], ◌∷◌, Result, Ok}
use Rattle.std.specs.List.{list_any, list_all}
use Rattle.xa_value.specs.declared.value.Value.{Value}
use Rattle.xa_value.specs.declared.value.Value.TheVariants as value
use Rattle.xa_value.specs.Order.{same}
use Rattle.xa_func.specs.declared.fault.FuncFault.{FuncFault}
use Rattle.xa_func.specs.declared.func_id.Comparison.{Comparison}
use Rattle.xa_func.specs.declared.func_id.Comparison.TheVariants.{GreaterThan, GreaterThanOrEqual}
use Rattle.xa_func.specs.declared.func_id.Comparison.TheVariants.{LessThan, LessThanOrEqual}
use Rattle.xa_func.specs.Arguments.{of_two}
use Rattle.xa_func.specs.Comparison.{compared}
use Rattle.xa_bag.specs.declared.relation.Relation.{Relation}
use Rattle.xa_bag.specs.declared.relation.Relation.TheVariants as relation

-- whether the first value relates to the second
abbrev pub related : Relation → Value → Value → Bool
related relation.Equal v w = same v w
related (relation.Order c) v w = compared c v w

-- the function of two arguments that gives whether the first relates to the second
abbrev pub asked : Relation → List Value → Result Value FuncFault
asked r vs = of_two (λ v w. Ok (value.Boolean (related r v w))) vs

-- some value of the first relates to some value of the second
abbrev pub some_to_some : (Value → Value → Bool) → List Value → List Value → Bool
some_to_some r vs ws = list_any (λ v. list_any (r v) ws) vs

-- each value of the first relates to some value of the second
abbrev pub each_to_some : (Value → Value → Bool) → List Value → List Value → Bool
each_to_some r vs ws = list_all (λ v. list_any (r v) ws) vs

-- each value of the first relates to each value of the second
abbrev pub each_to_each : (Value → Value → Bool) → List Value → List Value → Bool
each_to_each r vs ws = list_all (λ v. list_all (r v) ws) vs

-- the direction of the one value, the least or the greatest, to which others compare so if they do to any
abbrev pub to_easiest : Comparison → Comparison
to_easiest GreaterThan = LessThan
to_easiest GreaterThanOrEqual = LessThan
to_easiest LessThan = GreaterThan
to_easiest LessThanOrEqual = GreaterThan

-- the direction of the one value, the least or the greatest, to which others compare so only if they do to all
abbrev pub to_hardest : Comparison → Comparison
to_hardest GreaterThan = GreaterThan
to_hardest GreaterThanOrEqual = GreaterThan
to_hardest LessThan = LessThan
to_hardest LessThanOrEqual = LessThan

-- the one of two values that lies further in the direction
abbrev pub further : Comparison → Value → Value → Value
further c v w = if compared c w v then w else v

-- the one of a value and others that lies furthest in the direction
abbrev pub furthest : Comparison → Value → List Value → Value
furthest c v [] = v
furthest c v (w ∷ ws) = furthest c (further c v w) ws
