use Rattle.std.proofs.Common.{◌≡◌}
use Rattle.std.specs.Duration.{as_nanos}
use Rattle.xa_reactor.specs.handling.Taking.{TakesOn}
use Rattle.xa_reactor.specs.Turn.{AreAlike}
use Rattle.xa_reactor.proofs.reactor.Reactor.take_at.Given as goal

-- what was taken so far
abbrev pub invariant-loop : goal.invariant-loop
invariant-loop g l = record {
  taken : TakesOn g.R.Records.custody g.N.Network.done l.fn.self.is_split (as_nanos l.now) l.fn.self.board l.self.board l.fn.self.lanes l.self.lanes l.fn.front l.front l.fn.network l.network;
  alike : AreAlike l.self.lanes l.front.lines;
  same : l.self ≡ record l.fn.self { lanes = l.self.lanes; board = l.self.board; doors = l.self.doors };
}
