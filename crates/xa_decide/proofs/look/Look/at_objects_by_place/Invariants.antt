use Rattle.std.proofs.Common.{◌≡◌, drop}
use Rattle.std.specs.Prelude.{bytes_eq, filter, slice_get}
use Rattle.std.specs.List.{filter_map, flat_map}
use Rattle.xa_expr.specs.Looked.{joined, looked}
use Rattle.xa_decide.specs.Context.{object_values}
use Rattle.xa_decide.proofs.look.Look.at_objects_by_place.Given as goal

-- the look so far, and one at the values of the objects at the places that are left
abbrev pub invariant-loop-place : goal.invariant-loop-place
invariant-loop-place l =
    joined l.so_far (looked l.self.sought.now (flat_map (object_values l.self.designator.now) (filter (λ o. bytes_eq o.category l.self.designator.now.category) (filter_map (slice_get l.objects) (drop l.place-index l.places)))))
    ≡ looked l.self.sought.now (flat_map (object_values l.self.designator.now) (filter (λ o. bytes_eq o.category l.self.designator.now.category) (filter_map (slice_get l.objects) l.places)))
