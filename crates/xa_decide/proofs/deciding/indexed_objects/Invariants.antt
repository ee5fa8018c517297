use Rattle.std.proofs.Common.{◌≡◌, ◌++◌, drop}
use Rattle.xa_decide.proofs.deciding.indexed_objects.Given as goal

-- the objects so far, before those that are left
abbrev pub invariant-loop-object : goal.invariant-loop-object
invariant-loop-object l = l.indexed.items ++ drop l.object-index l.objects ≡ l.objects
