-- Which functions may stand in a match (XACML 3.0, core, sections 5.9 and 7.6).
use Rattle.std.specs.Prelude.{Bool, ◌&&◌, List, [], ◌∷◌}
use Rattle.xa_value.specs.declared.data_type.DataType.{DataType}
use Rattle.xa_value.specs.declared.data_type.DataType.TheVariants as type
use Rattle.xa_value.specs.declared.value.Value.{Value}
use Rattle.xa_value.specs.Types.{same_type}
use Rattle.xa_func.specs.declared.func_id.FuncId.{FuncId}
use Rattle.xa_func.specs.declared.signature.Kind.{Kind}
use Rattle.xa_func.specs.declared.signature.Kind.TheVariants as kind
use Rattle.xa_func.specs.Signature.{kind_of, signature_of, result_type_of}
use Rattle.xa_func.specs.Table.{is_scalar}
use Rattle.xa_expr.specs.Typed.{accepted}

-- the kinds of the two arguments: the literal, and a value of the bag's type
abbrev pub argument_kinds : Value → DataType → List Kind
argument_kinds literal t = kind_of literal ∷ kind.Value t ∷ []

-- a function of values that takes arguments of these kinds and gives a boolean
abbrev pub may_ask : FuncId → List Kind → Bool
may_ask f ks = is_scalar f && (accepted (signature_of f) ks && same_type (result_type_of (signature_of f)) type.Boolean)
