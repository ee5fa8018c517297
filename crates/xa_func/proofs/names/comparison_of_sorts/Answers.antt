use Rattle.std.proofs.Common.{map}
use Rattle.xa_func.specs.declared.func_id.Comparison.TheVariants.{GreaterThan}
use Rattle.xa_func.specs.declared.func_id.FuncId.TheVariants.{Compare}
use Rattle.xa_func.specs.declared.func_id.TheConstants.OrderedType.{ALL}
use Rattle.xa_func.specs.Table.{names}
use Rattle.xa_func.proofs.NameLemmas.{found_here, not_here}
use Rattle.xa_func.proofs.TableLemmas.{none_of}
use Rattle.xa_func.proofs.names.comparison_of_sorts.Goals as goal

pub returns-in-Some : goal.returns-in-Some
returns-in-Some c =
    found_here (names c.args.uri.now) (λ c. map (Compare c) ALL) c.args.comparisons.now c.loop-comparison.comparison-index GreaterThan c.in-Some.function
    c.loop-comparison-test.true c.in-Some.ensures c.loop-comparison.invariant

pub loop-comparison-preserved : goal.loop-comparison-preserved
loop-comparison-preserved c =
    not_here (names c.args.uri.now) (λ c. map (Compare c) ALL) c.args.comparisons.now c.loop-comparison.comparison-index GreaterThan
    c.loop-comparison-test.true (none_of _ _ c.comparison_of_sort.ensures c.in_default.not-Some) c.loop-comparison.invariant
