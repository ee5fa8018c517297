use Rattle.std.proofs.Common.{ap}
use Rattle.std.specs.Duration.{as_nanos}
use Rattle.xa_reactor.specs.declared.reactor.Reactor.{Reactor}
use Rattle.xa_reactor.proofs.TakingLemmas.{closed_lanes, driven_free, first_driven, may_after, on_replaced}
use Rattle.xa_reactor.proofs.reactor.Reactor.replace.Goals as goal

pub open-requires-clause-free : goal.open-requires-clause-free
open-requires-clause-free g c =
    let put = closed_lanes g.R.Records.custody g.N.Network.done g.met.R.Records.open_if_sound _ _ _ _ _ _ _ _ c.close.ensures.closes in
    driven_free c.args.self.now.board (as_nanos c.args.now) c.args.place c.args.access _ _ _ c.requires.goes put c.close.ensures.alike

pub open-requires-clause-may : goal.open-requires-clause-may
open-requires-clause-may g c =
    let put = closed_lanes g.R.Records.custody g.N.Network.done g.met.R.Records.open_if_sound _ _ _ _ _ _ _ _ c.close.ensures.closes in
    may_after c.args.self.now.board (as_nanos c.args.now) c.args.place c.args.access _ _ c.requires.goes put

pub returns-clause-taken : goal.returns-clause-taken
returns-clause-taken g c =
    let put = closed_lanes g.R.Records.custody g.N.Network.done g.met.R.Records.open_if_sound _ _ _ _ _ _ _ _ c.close.ensures.closes in
    on_replaced g.R.Records.custody g.N.Network.done g.met.R.Records.open_if_sound c.args.self.now.is_split c.args.access (as_nanos c.args.now) c.args.place _ _ _ _ _ _ _ _ _ _ _ _
    c.requires.fits c.requires.goes (ap (λ (r : Reactor). r.board) c.close.ensures.same) put
    (first_driven c.args.self.now.board (as_nanos c.args.now) c.args.place c.args.access _ _ _ c.requires.goes put c.close.ensures.alike) c.close.ensures.closes
    c.open.ensures.opens c.open.ensures.follows
