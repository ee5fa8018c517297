use Rattle.xa_reactor.proofs.LanesLemmas.{IsFound}
use Rattle.xa_reactor.proofs.lanes.Lanes.idlest.Given as goal

-- what was found so far
abbrev pub invariant-loop-place : goal.invariant-loop-place
invariant-loop-place l = IsFound l.board l.self l.found l.place
