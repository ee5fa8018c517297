use Rattle.std.proofs.Common.{◌≡◌, ◌++◌, drop}
use Rattle.std.specs.Prelude.{bytes_eq, filter, slice_get}
use Rattle.std.specs.List.{filter_map, flat_map}
use Rattle.xa_decide.specs.Context.{object_values}
use Rattle.xa_decide.proofs.individual_objects.IndividualObjects.bag.Given as goal

-- the values so far, before those of the objects at the places that are left
abbrev pub invariant-loop-place : goal.invariant-loop-place
invariant-loop-place l =
    (l.bag.data_type ≡ l.designator.data_type)
    × (l.bag.values ++ flat_map (object_values l.designator) (filter (λ o. bytes_eq o.category l.designator.category) (filter_map (slice_get l.self) (drop l.place-index l.places)))
    ≡ flat_map (object_values l.designator) (filter (λ o. bytes_eq o.category l.designator.category) (filter_map (slice_get l.self) l.places)))
