use Rattle.std.proofs.Common.{◌≡◌, map, drop}
use Rattle.std.specs.Prelude.{find, flat_map}
use Rattle.xa_value.specs.declared.data_type.TheConstants.DataType.{ALL}
use Rattle.xa_func.specs.declared.func_id.FuncId.TheVariants.{Bag}
use Rattle.xa_func.specs.Table.{names}
use Rattle.xa_func.proofs.names.bag_function_of_sorts.Given as goal

-- the text names none that was passed over
abbrev pub invariant-loop-function : goal.invariant-loop-function
invariant-loop-function l =
    find (names l.uri) (flat_map (λ f. map (Bag f) ALL) (drop l.function-index l.functions)) ≡ find (names l.uri) (flat_map (λ f. map (Bag f) ALL) l.functions)
