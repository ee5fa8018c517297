-- What an argument is: a value, or a bag.
use Rattle.std.specs.Prelude.{List, [], ◌∷◌}
use Rattle.xa_value.specs.declared.data_type.DataType.{DataType}
use Rattle.xa_value.specs.declared.value.Value.{Value}
use Rattle.xa_value.specs.Order.{type_of}
use Rattle.xa_func.specs.declared.signature.Kind.{Kind}
use Rattle.xa_func.specs.declared.signature.Kind.TheVariants as kind
use Rattle.xa_func.specs.Signature.{type_of_kind, of_each}
use Rattle.xa_bag.specs.declared.value_or_bag.ValueOrBag.{ValueOrBag}
use Rattle.xa_bag.specs.declared.value_or_bag.ValueOrBag.TheVariants as given

-- the values that an argument stands for: itself, or each of the bag
abbrev pub values_of : ValueOrBag → List Value
values_of (given.Value v) = v ∷ []
values_of (given.Bag b) = b.values

-- the kind of an argument
abbrev pub kind_of_argument : ValueOrBag → Kind
kind_of_argument (given.Value v) = kind.Value (type_of v)
kind_of_argument (given.Bag b) = kind.Bag b.data_type

-- the type of each of an argument's values
abbrev pub type_of_each : ValueOrBag → DataType
type_of_each argument = type_of_kind (kind_of_argument argument)

-- the kind of each of an argument's values
abbrev pub kind_of_each : ValueOrBag → Kind
kind_of_each argument = of_each (kind_of_argument argument)
