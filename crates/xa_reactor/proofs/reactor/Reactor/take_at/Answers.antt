use Rattle.std.proofs.Common.{refl, ap, ◌∙◌}
use Rattle.std.specs.Duration.{as_nanos}
use Rattle.xa_reactor.specs.declared.reactor.Reactor.{Reactor}
use Rattle.xa_reactor.proofs.TakingLemmas.{on_more, on_none}
use Rattle.xa_reactor.proofs.reactor.Reactor.take_at.Goals as goal

pub loop-init : goal.loop-init
loop-init g c = record {
  taken = on_none g.R.Records.custody g.N.Network.done g.met.R.Records.open_if_sound c.args.self.now.is_split (as_nanos c.args.now) _ _ _ _ _ _ _ _ refl refl refl refl;
  alike = c.requires.alike;
  same = refl;
}

pub take_one-requires-clause-fits : goal.take_one-requires-clause-fits
take_one-requires-clause-fits g c = rw (ap (λ (r : Reactor). r.is_split) c.loop.invariant.same) c.requires.fits

pub returns-in_err-take_one-clause-taken : goal.returns-in_err-take_one-clause-taken
returns-in_err-take_one-clause-taken g c =
    on_more g.R.Records.custody g.N.Network.done g.met.R.Records.open_if_sound c.args.self.now.is_split (as_nanos c.args.now) _ _ _ _ _ _ _ _ _ _ _ _ c.loop.invariant.taken
    (rw (ap (λ (r : Reactor). r.is_split) c.loop.invariant.same) at c.take_one.ensures.taken)

pub returns-then-not-branch-clause-taken : goal.returns-then-not-branch-clause-taken
returns-then-not-branch-clause-taken g c =
    on_more g.R.Records.custody g.N.Network.done g.met.R.Records.open_if_sound c.args.self.now.is_split (as_nanos c.args.now) _ _ _ _ _ _ _ _ _ _ _ _ c.loop.invariant.taken
    (rw (ap (λ (r : Reactor). r.is_split) c.loop.invariant.same) at c.take_one.ensures.taken)

pub loop-preserved : goal.loop-preserved
loop-preserved g c = record {
  taken =
      on_more g.R.Records.custody g.N.Network.done g.met.R.Records.open_if_sound c.args.self.now.is_split (as_nanos c.args.now) _ _ _ _ _ _ _ _ _ _ _ _ c.loop.invariant.taken
      (rw (ap (λ (r : Reactor). r.is_split) c.loop.invariant.same) at c.take_one.ensures.taken);
  alike = c.take_one.ensures.alike;
  same =
      c.take_one.ensures.same
      ∙ ap (λ (r : Reactor). record r { lanes = c.take_one.new.self.lanes; board = c.take_one.new.self.board; doors = c.take_one.new.self.doors }) c.loop.invariant.same;
}

pub returns-clause-taken : goal.returns-clause-taken
returns-clause-taken g c = c.loop.invariant.taken
