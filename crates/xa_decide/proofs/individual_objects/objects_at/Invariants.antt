use Rattle.std.proofs.Common.{◌≡◌, ◌++◌, map, drop}
use Rattle.xa_decide.specs.Decision.{objects_at}
use Rattle.xa_decide.proofs.individual_objects.objects_at.Given as goal

-- the objects so far, before those at the places that are left
abbrev pub invariant-loop-place : goal.invariant-loop-place
invariant-loop-place l = map (λ o. o.now) l.chosen.items ++ objects_at l.objects (drop l.place-index l.places) ≡ objects_at l.objects l.places
