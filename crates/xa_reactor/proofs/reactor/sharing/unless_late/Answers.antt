use Rattle.xa_reactor.proofs.reactor.sharing.unless_late.Goals as goal

pub returns-then-is_late-clause-ends : goal.returns-then-is_late-clause-ends
returns-then-is_late-clause-ends c = λ step ends. c.reason_if_late.ensures c.args.terms.now step (c.is_late.ensures.late c.if-is_late.true)
