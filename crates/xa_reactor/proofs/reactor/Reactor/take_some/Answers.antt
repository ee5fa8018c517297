use Rattle.std.proofs.Common.{refl, ap, ◌∙◌}
use Rattle.std.specs.Duration.{as_nanos}
use Rattle.xa_reactor.specs.declared.reactor.Reactor.{Reactor}
use Rattle.xa_reactor.proofs.TakingLemmas.{from_first, on_more, takes_none}
use Rattle.xa_reactor.proofs.reactor.Reactor.take_some.Goals as goal

pub returns-then-self-clause-taken : goal.returns-then-self-clause-taken
returns-then-self-clause-taken g c =
    takes_none g.R.Records.custody g.N.Network.done g.met.R.Records.open_if_sound c.args.self.now.is_split c.args.self.now.board (as_nanos c.args.now) _ _ _ _ _ _ refl refl refl

pub returns-then-not-self-clause-taken : goal.returns-then-not-self-clause-taken
returns-then-not-self-clause-taken g c =
    from_first g.R.Records.custody g.N.Network.done g.met.R.Records.open_if_sound c.args.self.now.is_split (as_nanos c.args.now) _ _ _ _ _ _ _ _ c.take_at.ensures.taken

pub returns-in_err-take_at-clause-taken : goal.returns-in_err-take_at-clause-taken
returns-in_err-take_at-clause-taken g c =
    from_first g.R.Records.custody g.N.Network.done g.met.R.Records.open_if_sound c.args.self.now.is_split (as_nanos c.args.now) _ _ _ _ _ _ _ _ c.take_at-2.ensures.taken

pub returns-clause-taken : goal.returns-clause-taken
returns-clause-taken g c =
    from_first g.R.Records.custody g.N.Network.done g.met.R.Records.open_if_sound c.args.self.now.is_split (as_nanos c.args.now) _ _ _ _ _ _ _ _
    (on_more g.R.Records.custody g.N.Network.done g.met.R.Records.open_if_sound c.args.self.now.is_split (as_nanos c.args.now) _ _ _ _ _ _ _ _ _ _ _ _ c.take_at-2.ensures.taken
    (rw (ap (λ (r : Reactor). r.is_split) c.take_at-2.ensures.same) at c.take_at-3.ensures.taken))
