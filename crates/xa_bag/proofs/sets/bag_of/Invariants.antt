use Rattle.std.proofs.Common.{◌≡◌, ◌++◌, drop, map}
use Rattle.xa_func.specs.declared.signature.Kind.TheVariants as kind
use Rattle.xa_func.specs.Signature.{Every}
use Rattle.xa_bag.specs.ValueOrBag.{kind_of_each}
use Rattle.xa_bag.specs.Sets.{all_values}
use Rattle.xa_bag.proofs.sets.bag_of.Given as goal

-- the rest are of the type, and their values are still to be put
abbrev pub invariant-loop-argument : goal.invariant-loop-argument
invariant-loop-argument l =
    (l.all.data_type ≡ l.fn.data_type)
    × Every (kind.Value l.fn.data_type) (map kind_of_each (drop l.argument-index l.arguments))
    × (l.all.values ++ all_values (drop l.argument-index l.arguments) ≡ all_values l.arguments)
