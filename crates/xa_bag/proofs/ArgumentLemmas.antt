-- The kinds of the values of arguments, by the arguments' own kinds.
use Rattle.std.proofs.Common.{ap, List, [], ◌∷◌, map}
use Rattle.xa_value.specs.declared.data_type.DataType.{DataType}
use Rattle.xa_func.specs.declared.signature.Kind.{Kind}
use Rattle.xa_func.specs.declared.signature.Kind.TheVariants as kind
use Rattle.xa_func.specs.Signature.{Every, of_each}
use Rattle.xa_bag.specs.declared.value_or_bag.ValueOrBag.{ValueOrBag}
use Rattle.xa_bag.specs.ValueOrBag.{kind_of_argument, kind_of_each}

-- where every argument is of a kind, each of their values is of that kind's type
each_of : (k : Kind) (arguments : List ValueOrBag) → Every k (map kind_of_argument arguments) → Every (of_each k) (map kind_of_each arguments)
each_of k [] every = tt
each_of k (argument ∷ arguments) every = (ap of_each every.0, each_of k arguments every.1)

pub each_of_values : (t : DataType) (arguments : List ValueOrBag) → Every (kind.Value t) (map kind_of_argument arguments) → Every (kind.Value t) (map kind_of_each arguments)
each_of_values t arguments every = each_of (kind.Value t) arguments every

pub each_of_bags : (t : DataType) (arguments : List ValueOrBag) → Every (kind.Bag t) (map kind_of_argument arguments) → Every (kind.Value t) (map kind_of_each arguments)
each_of_bags t arguments every = each_of (kind.Bag t) arguments every
