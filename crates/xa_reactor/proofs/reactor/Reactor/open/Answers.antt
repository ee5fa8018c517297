use Rattle.std.specs.Duration.{as_nanos}
use Rattle.xa_server.specs.Connection.{empty_stream}
use Rattle.xa_reactor.proofs.AlikeLemmas.{alike_open}
use Rattle.xa_reactor.proofs.TakingLemmas.{follows_opened, opened}
use Rattle.xa_reactor.proofs.reactor.Reactor.open.Goals as goal

pub returns-clause-opens : goal.returns-clause-opens
returns-clause-opens g c =
    opened g.R.Records.custody g.N.Network.done g.met.R.Records.open_if_sound c.args.access (as_nanos c.args.now) c.begin-conn.result c.new-2.result _ _ _ _ _ _ c.requires.alike
    c.begin-conn.ensures.first c.new-2.ensures.fresh (record { nothing = c.new-2.ensures.nothing; came = c.new-2.ensures.access; may = c.requires.may }) c.put-2.ensures.after
    (c.begin-conn.ensures.makes c.args.access) c.seat.ensures

pub returns-clause-alike : goal.returns-clause-alike
returns-clause-alike g c = rw (c.put-2.ensures.after, c.begin-conn.ensures.lines) (alike_open c.args.self.now.lanes c.args.front.now.lines c.begin-conn.result.number c.new-2.result empty_stream c.requires.alike)

pub returns-clause-follows : goal.returns-clause-follows
returns-clause-follows g c = λ first known.
    follows_opened first c.args.self.now.board _ (as_nanos c.args.now) c.begin-conn.result.number c.new.result c.new-2.result _ _ c.put.ensures c.new-2.ensures.fresh
    c.put-2.ensures.after known
