use Rattle.std.proofs.Common.{◌≡◌, ◌++◌, map, drop}
use Rattle.std.specs.Prelude.{filter, slice_get}
use Rattle.std.specs.List.{filter_map}
use Rattle.xa_decide.specs.Context.{is_row}
use Rattle.xa_decide.proofs.source.Source.bag.Given as goal

-- the values so far, before those of the rows at the places that are left
abbrev pub invariant-loop-place : goal.invariant-loop-place
invariant-loop-place l =
    (l.bag.data_type ≡ l.designator.data_type)
    × (l.bag.values ++ map (λ r. r.value) (filter (is_row l.entity l.designator) (filter_map (slice_get l.rows) (drop l.place-index l.places)))
    ≡ map (λ r. r.value) (filter (is_row l.entity l.designator) (filter_map (slice_get l.rows) l.places)))
