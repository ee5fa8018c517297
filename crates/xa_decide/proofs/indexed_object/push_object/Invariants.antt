use Rattle.std.proofs.Common.{◌≡◌, ◌++◌, drop}
use Rattle.std.specs.Prelude.{filter, slice_get}
use Rattle.std.specs.List.{filter_map, flat_map}
use Rattle.xa_decide.specs.Context.{is_named_by}
use Rattle.xa_decide.proofs.indexed_object.push_object.Given as goal

-- the values so far, before those of the attributes at the places that are left
abbrev pub invariant-loop-place : goal.invariant-loop-place
invariant-loop-place l =
    (l.bag.data_type ≡ l.designator.data_type)
    × (l.bag.values ++ flat_map (λ a. a.values.values) (filter (is_named_by l.designator) (filter_map (slice_get l.attributes) (drop l.place-index l.places)))
    ≡ l.fn.bag.values ++ flat_map (λ a. a.values.values) (filter (is_named_by l.designator) (filter_map (slice_get l.attributes) l.places)))
