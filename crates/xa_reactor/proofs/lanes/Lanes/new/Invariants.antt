use Rattle.std.proofs.Common.{◌≡◌, None, replicate}
use Rattle.xa_reactor.proofs.lanes.Lanes.new.Given as goal

abbrev pub invariant-loop : goal.invariant-loop
invariant-loop l = l.lanes.items ≡ replicate l.counter None
