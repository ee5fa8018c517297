use Rattle.xa_bag.proofs.function.FuncIdInner.at_once.Goals as goal

pub returns-in-Equal : goal.returns-in-Equal
returns-in-Equal c = rw c.in-Equal.is c.compared_at_once.ensures

pub returns-in-Compare : goal.returns-in-Compare
returns-in-Compare c = rw c.in-Compare.is c.compared_at_once-in-Compare.ensures

pub returns-in-Logic : goal.returns-in-Logic
returns-in-Logic c = rw c.in-Logic.is c.logical_at_once.ensures
