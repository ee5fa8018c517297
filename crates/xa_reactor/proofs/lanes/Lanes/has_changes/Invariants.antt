use Rattle.std.proofs.Common.{drop}
use Rattle.xa_reactor.specs.Turn.{HasChanges}
use Rattle.xa_reactor.proofs.lanes.Lanes.has_changes.Given as goal

-- one of these is there exactly if one of all is
abbrev pub invariant-loop-lane : goal.invariant-loop-lane
invariant-loop-lane l = record {
  there : HasChanges (drop l.lane-index l.self) → HasChanges l.self;
  left : HasChanges l.self → HasChanges (drop l.lane-index l.self);
}
