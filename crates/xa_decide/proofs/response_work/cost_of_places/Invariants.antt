use Rattle.std.proofs.Common.{◌+◌, ◌≤◌, drop, map}
use Rattle.std.specs.Prelude.{slice_get}
use Rattle.xa_profile.specs.writing.Lengths.{bytes_of_all, bytes_of_object_if_any}
use Rattle.xa_decide.proofs.response_work.cost_of_places.Given as goal

-- what is counted so far, and what the objects take at the places that are left
abbrev pub invariant-loop-place : goal.invariant-loop-place
invariant-loop-place l =
    l.cost.bytes + bytes_of_all bytes_of_object_if_any (map (slice_get l.objects) (drop l.place-index l.places))
    ≤ bytes_of_all bytes_of_object_if_any (map (slice_get l.objects) l.places)
