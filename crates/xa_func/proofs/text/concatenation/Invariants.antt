use Rattle.std.proofs.Common.{◌≡◌, ◌++◌, map, drop}
use Rattle.std.specs.Prelude.{string_bytes}
use Rattle.std.specs.List.{concat}
use Rattle.xa_value.specs.declared.data_type.DataType.TheVariants as data_type
use Rattle.xa_func.specs.declared.signature.Kind.TheVariants as kind
use Rattle.xa_func.specs.Signature.{kind_of, Every}
use Rattle.xa_func.specs.Arguments.{texts}
use Rattle.xa_func.proofs.text.concatenation.Given as goal

-- the rest are strings, and complete the text
abbrev pub invariant-loop-argument : goal.invariant-loop-argument
invariant-loop-argument l =
    Every (kind.Value data_type.String) (map kind_of (drop l.argument-index l.arguments))
    × (string_bytes l.text ++ concat (texts (drop l.argument-index l.arguments)) ≡ concat (texts l.arguments))
