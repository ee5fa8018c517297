use Rattle.std.proofs.Common.{◌≡◌, flat_map, drop}
use Rattle.xa_expr.specs.Timeless.{is_timeless}
use Rattle.xa_expr.proofs.timeless.all_timeless.Given as goal

-- whether all are is whether the rest are
abbrev pub invariant-loop-part : goal.invariant-loop-part
invariant-loop-part g l = is_timeless (flat_map g.T.HasDesignators.designators_in (drop l.part-index l.parts)) ≡ is_timeless (flat_map g.T.HasDesignators.designators_in l.parts)
