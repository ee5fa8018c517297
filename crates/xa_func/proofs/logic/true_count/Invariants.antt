use Rattle.std.proofs.Common.{◌≡◌, ◌≤◌, ◌+◌, map, drop}
use Rattle.xa_value.specs.declared.data_type.DataType.TheVariants as data_type
use Rattle.xa_func.specs.declared.signature.Kind.TheVariants as kind
use Rattle.xa_func.specs.Signature.{kind_of, Every}
use Rattle.xa_func.specs.Arguments.{booleans}
use Rattle.xa_func.specs.Logic.{true_count}
use Rattle.xa_func.proofs.logic.true_count.Given as goal

-- the rest are booleans, and with those of the rest the count is that of all
abbrev pub invariant-loop-argument : goal.invariant-loop-argument
invariant-loop-argument l =
    Every (kind.Value data_type.Boolean) (map kind_of (drop l.argument-index l.arguments))
    × (l.count + true_count (booleans (drop l.argument-index l.arguments)) ≡ true_count (booleans l.arguments))
    × (l.count ≤ l.argument-index)
