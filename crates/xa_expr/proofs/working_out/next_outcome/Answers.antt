use Rattle.xa_expr.proofs.WorkingOutLemmas.{kinds_first, defined_typed, apart_next, same_get}
use Rattle.xa_expr.proofs.working_out.next_outcome.Goals as goal

pub evaluate-requires-clause-right : goal.evaluate-requires-clause-right
evaluate-requires-clause-right g c = kinds_first _ _ c.requires.right.typed

pub evaluate-requires-clause-typed : goal.evaluate-requires-clause-typed
evaluate-requires-clause-typed g c = defined_typed _ _ _ c.requires.typed (same_get _ _ c.index-definitions-place.result c.requires.defined) c.requires.defined

pub returns : goal.returns
returns g c =
    apart_next _ _ _ _ c.evaluate.result c.memory_apart.result c.requires.right (same_get _ _ c.index-definitions-place.result c.requires.defined) c.requires.defined
    c.evaluate.ensures.value c.evaluate.ensures.typed c.memory_apart.ensures.answer
