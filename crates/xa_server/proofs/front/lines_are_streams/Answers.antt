use Rattle.xa_server.proofs.FrontLawLemmas.{lines_are}
use Rattle.xa_server.proofs.front.lines_are_streams.Goals as goal

pub returns : goal.returns
returns c = lines_are
