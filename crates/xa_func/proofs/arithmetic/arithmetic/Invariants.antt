use Rattle.std.proofs.Common.{◌≡◌, map, drop}
use Rattle.xa_value.specs.declared.data_type.DataType.TheVariants as data_type
use Rattle.xa_func.specs.declared.signature.Kind.TheVariants as kind
use Rattle.xa_func.specs.Signature.{kind_of, Every}
use Rattle.xa_func.specs.Arguments.{integers}
use Rattle.xa_func.specs.Arithmetic.{operation, arithmetic, left_to_right}
use Rattle.xa_func.proofs.arithmetic.arithmetic.Given as goal

-- the rest are integers, and go on to the result of all
abbrev pub invariant-loop-other : goal.invariant-loop-other
invariant-loop-other l =
    Every (kind.Value data_type.Integer) (map kind_of (drop l.other-index l.others))
    × (left_to_right (operation l.function) l.total (integers (drop l.other-index l.others)) ≡ arithmetic l.function (integers l.arguments))
