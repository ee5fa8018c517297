use Rattle.std.proofs.Common.{take}
use Rattle.std.specs.List.{All}
use Rattle.xa_decide.specs.indexing.Types.{IsOfType}
use Rattle.xa_decide.proofs.indexed_object.keep_types.Given as goal

-- those of the attributes so far
abbrev pub invariant-loop-attribute : goal.invariant-loop-attribute
invariant-loop-attribute l = All IsOfType (take l.attribute-index l.attributes)
