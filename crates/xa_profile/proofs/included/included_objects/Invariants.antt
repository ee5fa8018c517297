use Rattle.std.proofs.Common.{◌≡◌, map, drop, ◌++◌}
use Rattle.xa_profile.specs.Response.{category_data, included_objects}
use Rattle.xa_profile.proofs.included.included_objects.Given as goal

-- those that were found, and then those at the places that are left
abbrev pub invariant-loop-place : goal.invariant-loop-place
invariant-loop-place l =
    map (λ o. category_data o.now) l.found.items ++ map category_data (included_objects l.objects (drop l.place-index l.places))
    ≡ map category_data (included_objects l.objects l.places)
