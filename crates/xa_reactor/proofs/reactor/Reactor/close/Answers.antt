use Rattle.std.proofs.Common.{rules}
use Rattle.xa_reactor.proofs.AlikeLemmas.{alike_close}
use Rattle.xa_reactor.proofs.TakingLemmas.{closed, line_there}
use Rattle.xa_reactor.proofs.reactor.Reactor.close.Goals as goal

pub finish-requires : goal.finish-requires
finish-requires g c = line_there c.args.place c.args.self.now.lanes c.args.front.now.lines c.requires.alike c.requires.there

pub returns-clause-closes : goal.returns-clause-closes
returns-clause-closes g c =
    closed g.R.Records.custody g.N.Network.done g.met.R.Records.open_if_sound c.args.place c.args.reason _ _ _ _ _ _ c.requires.there c.put.ensures.after
    (c.finish.ensures.makes c.args.reason) (search rules)

pub returns-clause-alike : goal.returns-clause-alike
returns-clause-alike g c = rw (c.put.ensures.after, c.finish.ensures.lines) (alike_close c.args.self.now.lanes c.args.front.now.lines c.args.place c.requires.alike)
