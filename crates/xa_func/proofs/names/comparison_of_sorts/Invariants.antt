use Rattle.std.proofs.Common.{◌≡◌, map, drop}
use Rattle.std.specs.Prelude.{find, flat_map}
use Rattle.xa_func.specs.declared.func_id.FuncId.TheVariants.{Compare}
use Rattle.xa_func.specs.declared.func_id.TheConstants.OrderedType.{ALL}
use Rattle.xa_func.specs.Table.{names}
use Rattle.xa_func.proofs.names.comparison_of_sorts.Given as goal

-- the text names none that was passed over
abbrev pub invariant-loop-comparison : goal.invariant-loop-comparison
invariant-loop-comparison l =
    find (names l.uri) (flat_map (λ c. map (Compare c) ALL) (drop l.comparison-index l.comparisons)) ≡ find (names l.uri) (flat_map (λ c. map (Compare c) ALL) l.comparisons)
