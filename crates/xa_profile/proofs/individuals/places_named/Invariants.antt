use Rattle.std.proofs.Common.{◌≡◌, ◌++◌, drop}
use Rattle.xa_profile.specs.Individuals.{has_unknown, places_named}
use Rattle.xa_profile.proofs.individuals.places_named.Given as goal

-- the ids so far name objects, whose places stand before those that the ids that are left name
abbrev pub invariant-loop-id : goal.invariant-loop-id
invariant-loop-id l =
    (has_unknown l.by_id (drop l.id-index l.ids) ≡ has_unknown l.by_id l.ids)
    × (l.places.items ++ places_named l.by_id (drop l.id-index l.ids) ≡ places_named l.by_id l.ids)
