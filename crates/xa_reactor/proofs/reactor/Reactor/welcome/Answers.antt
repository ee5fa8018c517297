use Rattle.std.specs.Duration.{as_nanos}
use Rattle.xa_reactor.proofs.TakingLemmas.{on_opened, room_free}
use Rattle.xa_reactor.proofs.reactor.Reactor.welcome.Goals as goal

pub open-requires-clause-free : goal.open-requires-clause-free
open-requires-clause-free g c =
    room_free c.args.self.now.board (as_nanos c.args.now) c.args.access c.args.self.now.lanes c.args.front.now.lines c.requires.alike (rw c.in-None.is at c.requires.room)

pub open-requires-clause-may : goal.open-requires-clause-may
open-requires-clause-may g c = (rw c.in-None.is at c.requires.room).3

pub returns-in-None-clause-taken : goal.returns-in-None-clause-taken
returns-in-None-clause-taken g c =
    on_opened g.R.Records.custody g.N.Network.done g.met.R.Records.open_if_sound c.args.self.now.is_split c.args.access (as_nanos c.args.now) _ _ _ _ _ _ _ _ c.requires.fits
    c.open.ensures.opens c.open.ensures.follows
