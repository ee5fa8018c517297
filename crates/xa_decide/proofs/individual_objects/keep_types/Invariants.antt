use Rattle.std.proofs.Common.{take}
use Rattle.std.specs.List.{All}
use Rattle.xa_decide.specs.indexing.Types.{IsOfTypes}
use Rattle.xa_decide.proofs.individual_objects.keep_types.Given as goal

-- those of the objects so far
abbrev pub invariant-loop-object : goal.invariant-loop-object
invariant-loop-object l = All (λ o. IsOfTypes o.now) (take l.object-index l.objects)
