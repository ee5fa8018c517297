use Rattle.xa_server.proofs.IsolationLemmas.{two_worlds, two_worlds_beside}
use Rattle.xa_server.proofs.server.two_worlds_agree.Goals as goal

pub returns-clause-all_sent : goal.returns-clause-all_sent
returns-clause-all_sent c = two_worlds

pub returns-clause-beside_refusals : goal.returns-clause-beside_refusals
returns-clause-beside_refusals c = two_worlds_beside
