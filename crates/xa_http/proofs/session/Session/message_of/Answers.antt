use Rattle.std.proofs.Common.{rules}
use Rattle.xa_http.proofs.OpenHeadLemmas.{none_followed}
use Rattle.xa_http.proofs.session.Session.message_of.Goals as goal

pub invariant_of-self-2 : goal.invariant_of-self-2
invariant_of-self-2 c = (search rules, tt, none_followed _ _ c.new-self-inside.ensures)
