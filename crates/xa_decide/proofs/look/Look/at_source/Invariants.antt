use Rattle.std.proofs.Common.{◌≡◌, map, drop}
use Rattle.std.specs.Prelude.{filter, slice_get}
use Rattle.std.specs.List.{filter_map}
use Rattle.xa_expr.specs.Looked.{joined, looked}
use Rattle.xa_decide.specs.Context.{is_row}
use Rattle.xa_decide.proofs.look.Look.at_source.Given as goal

-- the look so far, and one at the values of the rows at the places that are left
abbrev pub invariant-loop-place : goal.invariant-loop-place
invariant-loop-place l =
    joined l.so_far (looked l.self.sought.now (map (λ r. r.value) (filter (is_row l.entity l.self.designator.now) (filter_map (slice_get l.rows) (drop l.place-index l.places)))))
    ≡ looked l.self.sought.now (map (λ r. r.value) (filter (is_row l.entity l.self.designator.now) (filter_map (slice_get l.rows) l.places)))
