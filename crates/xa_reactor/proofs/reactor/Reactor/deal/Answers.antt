-- Connections are taken, and then each place has its share.
use Rattle.std.proofs.lemmas.Result.{err_from_is_err_and}
use Rattle.std.specs.Duration.{as_nanos}
use Rattle.xa_reactor.proofs.TurnLemmas.{deals_by, taken_broken}
use Rattle.xa_reactor.proofs.reactor.Reactor.deal.Goals as goal

pub returns-in_err-take_some-clause-dealt : goal.returns-in_err-take_some-clause-dealt
returns-in_err-take_some-clause-dealt g c =
    let p = err_from_is_err_and c.from_residual.result c.from_residual.ensures.1 in
    rw p.1
    (taken_broken g.R.Records.custody g.N.Network.done g.met.R.Records.open_if_sound c.args.self.now.is_split c.args.self.now.board (as_nanos c.args.terms.now.began) c.args.self.now.lanes c.take_some.new.self.lanes c.args.front.now c.take_some.new.front
    c.args.network.now c.take_some.new.network c.take_some.ensures.taken)

pub returns-clause-dealt : goal.returns-clause-dealt
returns-clause-dealt g c =
    deals_by g.R.Records.custody g.N.Network.done g.met.R.Records.open_if_sound c.args.self.now.is_split c.share_all.result c.args.terms.now c.args.self.now.board c.take_some.new.self.first c.args.self.now.lanes
    c.take_some.new.self.lanes c.share_all.new.self.lanes c.args.front.now c.take_some.new.front c.share_all.new.front c.args.network.now c.take_some.new.network c.share_all.new.network
    c.take_some.ensures.taken c.share_all.ensures.shared
