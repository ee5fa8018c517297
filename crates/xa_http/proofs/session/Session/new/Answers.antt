use Rattle.std.proofs.Common.{arith}
use Rattle.xa_http.proofs.OpenHeadLemmas.{none_followed}
use Rattle.xa_http.proofs.session.Session.new.Goals as goal

pub invariant_of-result : goal.invariant_of-result
invariant_of-result c = (omega arith, tt, none_followed _ _ c.new-2.ensures)
