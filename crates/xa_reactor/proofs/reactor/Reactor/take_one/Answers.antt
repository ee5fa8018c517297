use Rattle.std.proofs.Common.{ap, refl}
use Rattle.std.specs.Duration.{as_nanos}
use Rattle.xa_reactor.specs.declared.board.Board.{Board}
use Rattle.xa_reactor.proofs.TakingLemmas.{on_none}
use Rattle.xa_reactor.proofs.reactor.Reactor.take_one.Goals as goal

pub returns-in_default-clause-taken : goal.returns-in_default-clause-taken
returns-in_default-clause-taken g c = on_none g.R.Records.custody g.N.Network.done g.met.R.Records.open_if_sound c.args.self.now.is_split (as_nanos c.args.now) _ _ _ _ _ _ _ _ refl refl refl refl

pub returns-in_err-pass_over-in-Passed-clause-taken : goal.returns-in_err-pass_over-in-Passed-clause-taken
returns-in_err-pass_over-in-Passed-clause-taken g c = on_none g.R.Records.custody g.N.Network.done g.met.R.Records.open_if_sound c.args.self.now.is_split (as_nanos c.args.now) _ _ _ _ _ _ _ _ refl refl refl c.accept_at.ensures

pub returns-in_err-wait-in-NoRoom-clause-taken : goal.returns-in_err-wait-in-NoRoom-clause-taken
returns-in_err-wait-in-NoRoom-clause-taken g c = on_none g.R.Records.custody g.N.Network.done g.met.R.Records.open_if_sound c.args.self.now.is_split (as_nanos c.args.now) _ _ _ _ _ _ _ _ refl refl refl c.accept_at.ensures

pub returns-in-Nobody-clause-taken : goal.returns-in-Nobody-clause-taken
returns-in-Nobody-clause-taken g c =
    on_none g.R.Records.custody g.N.Network.done g.met.R.Records.open_if_sound c.args.self.now.is_split (as_nanos c.args.now) _ _ _ _ _ _ _ _
    (ap (λ (b : Board). b.ready) c.note_nobody.ensures) refl refl c.accept_at.ensures

pub returns-in_ok-pass_over-in-Passed-clause-taken : goal.returns-in_ok-pass_over-in-Passed-clause-taken
returns-in_ok-pass_over-in-Passed-clause-taken g c = on_none g.R.Records.custody g.N.Network.done g.met.R.Records.open_if_sound c.args.self.now.is_split (as_nanos c.args.now) _ _ _ _ _ _ _ _ refl refl refl c.accept_at.ensures

pub returns-in_ok-wait-in-NoRoom-clause-taken : goal.returns-in_ok-wait-in-NoRoom-clause-taken
returns-in_ok-wait-in-NoRoom-clause-taken g c = on_none g.R.Records.custody g.N.Network.done g.met.R.Records.open_if_sound c.args.self.now.is_split (as_nanos c.args.now) _ _ _ _ _ _ _ _ refl refl refl c.accept_at.ensures

pub returns-in-Failed-clause-taken : goal.returns-in-Failed-clause-taken
returns-in-Failed-clause-taken g c = on_none g.R.Records.custody g.N.Network.done g.met.R.Records.open_if_sound c.args.self.now.is_split (as_nanos c.args.now) _ _ _ _ _ _ _ _ refl refl refl c.accept_at.ensures
