use Rattle.std.proofs.Common.{◌≡◌}
use Rattle.xa_reactor.specs.Turn.{AreAlike, AreShared, rotated}
use Rattle.xa_reactor.specs.handling.Turning.{Does}
use Rattle.xa_reactor.proofs.reactor.Reactor.share_all.Given as goal

-- the places before these had their shares
abbrev pub invariant-loop-offset : goal.invariant-loop-offset
invariant-loop-offset g l = record {
  shared : Does g.R.Records.custody g.N.Network.done (λ deeds. AreShared l.terms (rotated l.first l.offset) deeds l.fn.self.lanes l.self.lanes)
      l.fn.self.lanes l.self.lanes l.fn.front l.front l.fn.network l.network;
  alike : AreAlike l.self.lanes l.front.lines;
  same : l.self ≡ record l.fn.self { lanes = l.self.lanes; board = l.self.board };
}
