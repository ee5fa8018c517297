use Rattle.std.proofs.Common.{◌≡◌, drop}
use Rattle.std.specs.Prelude.{filter, slice_get}
use Rattle.std.specs.List.{filter_map, flat_map}
use Rattle.xa_expr.specs.Looked.{joined, looked}
use Rattle.xa_decide.specs.Context.{is_named_by}
use Rattle.xa_decide.proofs.look.Look.at_attributes_by_place.Given as goal

-- the look so far, and one at the values of the attributes at the places that are left
abbrev pub invariant-loop-place : goal.invariant-loop-place
invariant-loop-place l =
    joined l.so_far (looked l.self.sought.now (flat_map (λ a. a.values.values) (filter (is_named_by l.self.designator.now) (filter_map (slice_get l.object.attributes) (drop l.place-index l.places)))))
    ≡ looked l.self.sought.now (flat_map (λ a. a.values.values) (filter (is_named_by l.self.designator.now) (filter_map (slice_get l.object.attributes) l.places)))
