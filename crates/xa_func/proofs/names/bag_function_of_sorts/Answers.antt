use Rattle.std.proofs.Common.{map}
use Rattle.xa_value.specs.declared.data_type.TheConstants.DataType.{ALL}
use Rattle.xa_func.specs.declared.func_id.BagFunction.TheVariants.{OneAndOnly}
use Rattle.xa_func.specs.declared.func_id.FuncId.TheVariants.{Bag}
use Rattle.xa_func.specs.Table.{names}
use Rattle.xa_func.proofs.NameLemmas.{found_here, not_here}
use Rattle.xa_func.proofs.TableLemmas.{none_of}
use Rattle.xa_func.proofs.names.bag_function_of_sorts.Goals as goal

pub returns-in-Some : goal.returns-in-Some
returns-in-Some c =
    found_here (names c.args.uri.now) (λ f. map (Bag f) ALL) c.args.functions.now c.loop-function.function-index OneAndOnly c.in-Some.found
    c.loop-function-test.true c.in-Some.ensures c.loop-function.invariant

pub loop-function-preserved : goal.loop-function-preserved
loop-function-preserved c =
    not_here (names c.args.uri.now) (λ f. map (Bag f) ALL) c.args.functions.now c.loop-function.function-index OneAndOnly
    c.loop-function-test.true (none_of _ _ c.bag_function_of_sort.ensures c.in_default.not-Some) c.loop-function.invariant
