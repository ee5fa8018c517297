use Rattle.std.proofs.Common.{◌≡◌, map, drop}
use Rattle.xa_value.specs.declared.data_type.DataType.TheVariants as data_type
use Rattle.xa_func.specs.declared.signature.Kind.TheVariants as kind
use Rattle.xa_func.specs.Signature.{kind_of, Every}
use Rattle.xa_func.specs.Arguments.{booleans}
use Rattle.xa_func.specs.Logic.{or_of, given}
use Rattle.xa_func.proofs.logic.any_true.Given as goal

-- the rest are booleans, and decide for all
abbrev pub invariant-loop-argument : goal.invariant-loop-argument
invariant-loop-argument l =
    Every (kind.Value data_type.Boolean) (map kind_of (drop l.argument-index l.arguments))
    × (or_of (given (booleans (drop l.argument-index l.arguments))) ≡ or_of (given (booleans l.arguments)))
