use Rattle.std.proofs.Common.{◌≡◌, length, map}
use Rattle.xa_profile.specs.declared.category_object.CategoryObject.{CategoryObject}
use Rattle.xa_profile.specs.Request.{has_twice}
use Rattle.xa_profile.proofs.distinct.has_category_twice.Given as goal

-- two of the objects have the same category where two of those that are left do
abbrev pub invariant-loop-rest : goal.invariant-loop-rest
invariant-loop-rest l =
    has_twice (map (λ (object : CategoryObject). object.category) l.rest) ≡ has_twice (map (λ (object : CategoryObject). object.category) l.objects)

abbrev pub decreases-loop-rest : goal.decreases-loop-rest
decreases-loop-rest l = length l.rest
