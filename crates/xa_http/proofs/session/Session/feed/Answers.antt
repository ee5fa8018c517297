use Rattle.xa_http.proofs.FrontLemmas.{fed_on}
use Rattle.xa_http.proofs.session.Session.feed.Goals as goal

pub invariant_of-self-2 : goal.invariant_of-self-2
invariant_of-self-2 c =
    fed_on _ _ _ _ _ _ _ c.compact.ensures.within c.in_ok-extend_from_slice.ensures.items c.compact.ensures.held c.self.invariant.1 c.self.invariant.2
