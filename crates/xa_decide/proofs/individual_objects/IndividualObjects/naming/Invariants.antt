use Rattle.std.proofs.Common.{◌≡◌, drop}
use Rattle.std.specs.Prelude.{bytes_eq, filter, slice_get}
use Rattle.std.specs.List.{filter_map, flat_map}
use Rattle.xa_decide.specs.indexing.Naming.{both, naming_values, said, said_by}
use Rattle.xa_decide.proofs.individual_objects.IndividualObjects.naming.Given as goal

-- what is said so far, and by the objects at the places that are left
abbrev pub invariant-loop-place : goal.invariant-loop-place
invariant-loop-place l =
    both (said_by l.naming) (said (flat_map naming_values (filter (λ o. bytes_eq o.category l.category) (filter_map (slice_get l.self) (drop l.place-index l.places)))))
    ≡ said (flat_map naming_values (filter (λ o. bytes_eq o.category l.category) (filter_map (slice_get l.self) l.places)))
