use Rattle.std.proofs.Common.{◌≡◌, ◌++◌, map, drop}
use Rattle.xa_profile.specs.Individuals.{categories_at}
use Rattle.xa_profile.proofs.individuals.categories_at.Given as goal

-- the categories so far, before those at the places that are left
abbrev pub invariant-loop-place : goal.invariant-loop-place
invariant-loop-place l = map (λ c. c.now) l.categories.items ++ categories_at l.objects (drop l.place-index l.places) ≡ categories_at l.objects l.places
