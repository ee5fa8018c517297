use Rattle.xa_reactor.proofs.StepLemmas.{fed_piece}
use Rattle.xa_reactor.proofs.lane.reading.feed.Goals as goal

pub returns : goal.returns
returns g c =
    rw c.is_ok.ensures.value
    (fed_piece g.R.Records.custody g.met.R.Records.open_if_sound c.args.conn c.args.piece c.piece.result c.args.front.now c.piece.new.self
    c.piece.ensures.held c.piece.ensures.server)
