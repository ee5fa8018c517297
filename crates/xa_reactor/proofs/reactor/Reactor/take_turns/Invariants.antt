use Rattle.std.proofs.Common.{◌≡◌}
use Rattle.xa_server.specs.Front.{front_is_open}
use Rattle.xa_reactor.specs.Turn.{AreAlike}
use Rattle.xa_reactor.proofs.RunLemmas.{RunsOn}
use Rattle.xa_reactor.proofs.reactor.Reactor.take_turns.Given as goal

-- turns were taken so far
abbrev pub invariant-loop : goal.invariant-loop
invariant-loop g l = record {
  runs : RunsOn g.R.Records.custody g.N.Network.done l.fn.self.is_split l.fn.self.leaving l.self.leaving l.self.lanes l.fn.front l.front l.fn.network l.network;
  alike : AreAlike l.self.lanes l.front.lines;
  split : l.self.is_split ≡ l.fn.self.is_split;
  goes_on : front_is_open g.R.Records.custody l.fn.front → front_is_open g.R.Records.custody l.front;
}
