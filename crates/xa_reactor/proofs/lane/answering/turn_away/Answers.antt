use Rattle.std.specs.Prelude.{pos}
use Rattle.xa_reactor.proofs.StepLemmas.{asked_away, some_and}
use Rattle.xa_reactor.proofs.lane.answering.turn_away.Goals as goal

pub returns : goal.returns
returns g c =
    let it = some_and _ _ c.requires in
    asked_away g.R.Records.custody g.met.R.Records.open_if_sound c.args.conn (pos 0) c.turn_away.result c.args.front.now c.turn_away.new.self it.0 it.1 it.2 c.turn_away.ensures.turned
    c.turn_away.ensures.server
