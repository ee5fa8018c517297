use Rattle.xa_reactor.specs.Turn.{AreAlike}
use Rattle.xa_schedules.proofs.row.Row.answer.Given as goal

-- each open connection has its place, until the program halts
abbrev pub invariant-loop-field : goal.invariant-loop-field
invariant-loop-field l = AreAlike l.self.reactor.lanes l.self.front.lines
