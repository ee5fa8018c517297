use Rattle.xa_http.proofs.FrontLemmas.{has_head, head_faulty}
use Rattle.xa_http.proofs.beginning.whole_head.Goals as goal

pub returns-in-Ok : goal.returns-in-Ok
returns-in-Ok c = let h = c.in-Ok.ensures in let k = c.as_slice.ensures in has_head _ _ _ _ c.requires (cc (h, k))

pub returns-in-Err : goal.returns-in-Err
returns-in-Err c = let h = c.in-Err.ensures in let k = c.as_slice.ensures in head_faulty _ _ _ _ c.requires (cc (h, k))
