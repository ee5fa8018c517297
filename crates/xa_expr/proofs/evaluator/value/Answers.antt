use Rattle.xa_expr.proofs.evaluator.value.Goals as goal

pub value-requires : goal.value-requires
value-requires g c = rw c.new.ensures c.requires

pub returns-clause-typed : goal.returns-clause-typed
returns-clause-typed g c = rw c.new.ensures at c.value.ensures.typed

pub returns-clause-fits : goal.returns-clause-fits
returns-clause-fits g c = rw c.new.ensures at c.value.ensures.fits
