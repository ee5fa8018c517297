use Rattle.std.proofs.Common.{◌≡◌, ℕ, List, take}
use Rattle.std.specs.BTreeMap.{get_by}
use Rattle.std.specs.Cmp.Lexicographic.{slice_cmp}
use Rattle.std.specs.Ordering.{nat_cmp}
use Rattle.xa_profile.specs.Individuals.{place_named}
use Rattle.xa_profile.proofs.objects_by_id.first_places.Given as goal

-- each id has its first place among the objects so far
abbrev pub invariant-loop-place : goal.invariant-loop-place
invariant-loop-place l = (id : List ℕ) → get_by (λ k. slice_cmp nat_cmp id k.now) l.places ≡ place_named (take l.place l.objects) id
