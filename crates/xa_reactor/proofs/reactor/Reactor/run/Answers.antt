use Rattle.xa_reactor.proofs.reactor.Reactor.run.Goals as goal

pub returns-clause-sound : goal.returns-clause-sound
returns-clause-sound g c = c.take_turns.ensures.served.works.keeps.sound

pub returns-clause-clean : goal.returns-clause-clean
returns-clause-clean g c = c.take_turns.ensures.served.works.keeps.clean

pub returns-clause-stays : goal.returns-clause-stays
returns-clause-stays g c = c.take_turns.ensures.served.works.keeps.stays
