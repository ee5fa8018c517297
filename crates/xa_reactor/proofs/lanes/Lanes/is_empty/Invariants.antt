use Rattle.std.proofs.Common.{drop}
use Rattle.xa_reactor.specs.Turn.{AreFree}
use Rattle.xa_reactor.proofs.lanes.Lanes.is_empty.Given as goal

-- if no place behind these is taken, none is
abbrev pub invariant-loop-lane : goal.invariant-loop-lane
invariant-loop-lane l = AreFree (drop l.lane-index l.self) → AreFree l.self
