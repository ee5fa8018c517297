use Rattle.std.proofs.Common.{◌≡◌, ◌++◌, map, drop}
use Rattle.xa_profile.specs.Request.{ids_of}
use Rattle.xa_profile.proofs.request.ids_of.Given as goal

-- the ids of the objects so far, before those of the objects that are left
abbrev pub invariant-loop-object : goal.invariant-loop-object
invariant-loop-object l = map (λ id. id.now) l.ids.items ++ ids_of (drop l.object-index l.objects) ≡ ids_of l.objects
