use Rattle.std.proofs.Common.{◌≤◌, drop}
use Rattle.xa_reactor.specs.Turn.{under_way}
use Rattle.xa_reactor.proofs.lanes.Lanes.has_room.Given as goal

-- if what is left of the room is enough for those behind these, all of it is enough for all
abbrev pub invariant-loop-lane : goal.invariant-loop-lane
invariant-loop-lane l = under_way (drop l.lane-index l.self) ≤ l.room → under_way l.self ≤ 33_554_432
