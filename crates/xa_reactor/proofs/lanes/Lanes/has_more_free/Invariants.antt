use Rattle.std.proofs.Common.{◌≡◌, ◌+◌, drop}
use Rattle.xa_reactor.specs.Turn.{free_in}
use Rattle.xa_reactor.proofs.lanes.Lanes.has_more_free.Given as goal

-- what is left is enough for these exactly if all of it is for all
abbrev pub invariant-loop-lane : goal.invariant-loop-lane
invariant-loop-lane l = l.kept + free_in (drop l.lane-index l.self) ≡ l.left + free_in l.self
