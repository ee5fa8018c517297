use Rattle.xa_decide.proofs.AskedLemmas.{others_alike}
use Rattle.xa_decide.proofs.asked.others_are_answered_alike.Goals as goal

pub returns : goal.returns
returns c = others_alike
