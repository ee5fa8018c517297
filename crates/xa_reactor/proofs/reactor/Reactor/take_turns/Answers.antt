-- Turn after turn.
use Rattle.std.proofs.Common.{◌≡◌, ◌∙◌, ap, refl, subst, sym}
use Rattle.xa_server.specs.Lines.{Lines}
use Rattle.xa_reactor.specs.declared.reactor.Reactor.{Reactor}
use Rattle.xa_reactor.specs.Turn.{AreAlike, Lanes, no_lanes}
use Rattle.xa_reactor.proofs.AlikeLemmas.{all_closed, none_alike}
use Rattle.xa_reactor.proofs.RunLemmas.{runs_more, runs_none, runs_wait, served_broken, served_to_end, served_whole}
use Rattle.xa_reactor.proofs.reactor.Reactor.take_turns.Goals as goal

pub loop-init : goal.loop-init
loop-init g c = record {
  runs = runs_none g.R.Records.custody g.N.Network.done g.met.R.Records.open_if_sound c.args.self.now.is_split c.args.self.now.leaving c.args.self.now.lanes c.args.front.now c.args.network.now c.requires.nobody;
  alike =
      subst (λ (lanes : Lanes). AreAlike lanes c.args.front.now.lines) (sym c.requires.nobody)
      (subst (λ (lines : Lines). AreAlike no_lanes lines) (sym c.requires.closed) none_alike);
  split = refl;
  goes_on = λ is. is;
}

pub loop-preserved : goal.loop-preserved
loop-preserved g c =
    let same : c.wait.new.self.lanes ≡ c.loop.self.lanes = ap (λ (r : Reactor). r.lanes) c.wait.ensures.same in
    let split : c.wait.new.self.is_split ≡ c.args.self.now.is_split = ap (λ (r : Reactor). r.is_split) c.wait.ensures.same ∙ c.loop.invariant.split in
    record {
      runs =
          rw c.tell_of_refused.ensures.same
          (runs_wait g.R.Records.custody g.N.Network.done g.met.R.Records.open_if_sound c.args.self.now.is_split c.args.self.now.leaving c.turn.new.self.leaving c.turn.new.self.lanes c.args.front.now c.turn.new.front c.args.network.now c.turn.new.network c.tell_of_refused.new.network
          (runs_more g.R.Records.custody g.N.Network.done g.met.R.Records.open_if_sound c.args.self.now.is_split c.args.self.now.leaving c.wait.new.self.board c.in-Some.now c.wait.new.self.limits c.loop.self.leaving c.turn.new.self.leaving c.wait.new.self.lanes
          c.turn.new.self.lanes c.args.front.now c.loop.front c.turn.new.front c.args.network.now c.wait.new.network c.turn.new.network
          (runs_wait g.R.Records.custody g.N.Network.done g.met.R.Records.open_if_sound c.args.self.now.is_split c.args.self.now.leaving c.loop.self.leaving c.wait.new.self.lanes c.args.front.now c.loop.front c.args.network.now c.loop.network c.wait.new.network
          (rw same c.loop.invariant.runs) c.wait.ensures.done)
          (rw split at c.in_ok-timeout.ensures.turned) (rw (ap (λ (r : Reactor). r.leaving) c.wait.ensures.same) at c.turn.ensures.told))
          c.tell_of_refused.ensures.done);
      alike = rw c.tell_of_refused.ensures.same c.in_ok-timeout.ensures.alike;
      split = c.in_ok-timeout.ensures.split ∙ split;
      goes_on = λ was. c.can_go_on.ensures c.if-not-can_go_on.false;
    }

pub returns-then-is_over-clause-served : goal.returns-then-is_over-clause-served
returns-then-is_over-clause-served g c =
    served_whole g.R.Records.custody g.N.Network.done g.met.R.Records.open_if_sound c.args.self.now.is_split c.args.self.now.leaving c.loop.self.leaving c.loop.self.lanes c.args.front.now c.loop.front c.args.network.now c.loop.network c.loop.invariant.runs

pub returns-then-is_over-clause-whole : goal.returns-then-is_over-clause-whole
returns-then-is_over-clause-whole g c =
    let free = c.is_over.ensures.free c.if-is_over.true in
    served_to_end g.R.Records.custody g.N.Network.done g.met.R.Records.open_if_sound c.args.self.now.is_split c.args.self.now.leaving c.loop.self.leaving c.loop.self.lanes c.args.front.now c.loop.front c.args.network.now c.loop.network c.loop.invariant.runs free.0
    free.1 (c.is_over.ensures.told c.if-is_over.true)

pub returns-then-is_over-clause-closed : goal.returns-then-is_over-clause-closed
returns-then-is_over-clause-closed g c =
    let free = c.is_over.ensures.free c.if-is_over.true in
    all_closed c.loop.self.lanes c.loop.front.lines c.loop.invariant.alike free.0 free.1

pub returns-in_err-wait-clause-served : goal.returns-in_err-wait-clause-served
returns-in_err-wait-clause-served g c =
    served_whole g.R.Records.custody g.N.Network.done g.met.R.Records.open_if_sound c.args.self.now.is_split c.args.self.now.leaving c.loop.self.leaving c.loop.self.lanes c.args.front.now c.loop.front c.args.network.now c.wait.new.network
    (runs_wait g.R.Records.custody g.N.Network.done g.met.R.Records.open_if_sound c.args.self.now.is_split c.args.self.now.leaving c.loop.self.leaving c.loop.self.lanes c.args.front.now c.loop.front c.args.network.now c.loop.network c.wait.new.network
    c.loop.invariant.runs c.wait.ensures.done)

pub returns-in_default-clause-served : goal.returns-in_default-clause-served
returns-in_default-clause-served g c =
    served_whole g.R.Records.custody g.N.Network.done g.met.R.Records.open_if_sound c.args.self.now.is_split c.args.self.now.leaving c.loop.self.leaving c.loop.self.lanes c.args.front.now c.loop.front c.args.network.now c.wait.new.network
    (runs_wait g.R.Records.custody g.N.Network.done g.met.R.Records.open_if_sound c.args.self.now.is_split c.args.self.now.leaving c.loop.self.leaving c.loop.self.lanes c.args.front.now c.loop.front c.args.network.now c.loop.network c.wait.new.network
    c.loop.invariant.runs c.wait.ensures.done)

pub turn-requires : goal.turn-requires
turn-requires g c =
    let same : c.wait.new.self.lanes ≡ c.loop.self.lanes = ap (λ (r : Reactor). r.lanes) c.wait.ensures.same in
    rw same c.loop.invariant.alike

pub returns-in_err-timeout-clause-served : goal.returns-in_err-timeout-clause-served
returns-in_err-timeout-clause-served g c =
    let same : c.wait.new.self.lanes ≡ c.loop.self.lanes = ap (λ (r : Reactor). r.lanes) c.wait.ensures.same in
    served_broken g.R.Records.custody g.N.Network.done g.met.R.Records.open_if_sound c.args.self.now.is_split c.args.self.now.leaving c.loop.self.leaving c.wait.new.self.lanes c.turn.new.self.lanes c.args.front.now c.loop.front c.turn.new.front
    c.args.network.now c.wait.new.network c.turn.new.network
    (runs_wait g.R.Records.custody g.N.Network.done g.met.R.Records.open_if_sound c.args.self.now.is_split c.args.self.now.leaving c.loop.self.leaving c.wait.new.self.lanes c.args.front.now c.loop.front c.args.network.now c.loop.network c.wait.new.network
    (rw same c.loop.invariant.runs) c.wait.ensures.done)
    (rw (ap (λ (r : Reactor). r.is_split) c.wait.ensures.same ∙ c.loop.invariant.split) at c.in_err-timeout.ensures.turned)

pub returns-clause-served : goal.returns-clause-served
returns-clause-served g c =
    served_whole g.R.Records.custody g.N.Network.done g.met.R.Records.open_if_sound c.args.self.now.is_split c.args.self.now.leaving c.loop.self.leaving c.loop.self.lanes c.args.front.now c.loop.front c.args.network.now c.loop.network c.loop.invariant.runs

-- a turn was taken, and the keeper can't go on
pub returns-then-not-can_go_on-clause-served : goal.returns-then-not-can_go_on-clause-served
returns-then-not-can_go_on-clause-served g c =
    let same : c.wait.new.self.lanes ≡ c.loop.self.lanes = ap (λ (r : Reactor). r.lanes) c.wait.ensures.same in
    served_whole g.R.Records.custody g.N.Network.done g.met.R.Records.open_if_sound c.args.self.now.is_split c.args.self.now.leaving c.turn.new.self.leaving c.turn.new.self.lanes c.args.front.now c.tell_of_refused.new.front c.args.network.now c.tell_of_refused.new.network
    (rw c.tell_of_refused.ensures.same
    (runs_wait g.R.Records.custody g.N.Network.done g.met.R.Records.open_if_sound c.args.self.now.is_split c.args.self.now.leaving c.turn.new.self.leaving c.turn.new.self.lanes c.args.front.now c.turn.new.front c.args.network.now c.turn.new.network c.tell_of_refused.new.network
    (runs_more g.R.Records.custody g.N.Network.done g.met.R.Records.open_if_sound c.args.self.now.is_split c.args.self.now.leaving c.wait.new.self.board c.in-Some.now c.wait.new.self.limits c.loop.self.leaving c.turn.new.self.leaving c.wait.new.self.lanes
    c.turn.new.self.lanes c.args.front.now c.loop.front c.turn.new.front c.args.network.now c.wait.new.network c.turn.new.network
    (runs_wait g.R.Records.custody g.N.Network.done g.met.R.Records.open_if_sound c.args.self.now.is_split c.args.self.now.leaving c.loop.self.leaving c.wait.new.self.lanes c.args.front.now c.loop.front c.args.network.now c.loop.network c.wait.new.network
    (rw same c.loop.invariant.runs) c.wait.ensures.done)
    (rw (ap (λ (r : Reactor). r.is_split) c.wait.ensures.same ∙ c.loop.invariant.split) at c.in_ok-timeout.ensures.turned) (rw (ap (λ (r : Reactor). r.leaving) c.wait.ensures.same) at c.turn.ensures.told))
    c.tell_of_refused.ensures.done))

pub returns-then-is_over-clause-goes_on : goal.returns-then-is_over-clause-goes_on
returns-then-is_over-clause-goes_on g c = c.loop.invariant.goes_on
