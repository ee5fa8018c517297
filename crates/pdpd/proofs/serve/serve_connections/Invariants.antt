use Rattle.std.proofs.Common.{◌≡◌, Ok}
use Rattle.xa_server.specs.Lines.{none_open}
use Rattle.pdpd.specs.Connections.{AreIsolatedOver, at_clock}
use Rattle.pdpd.proofs.serve.serve_connections.Given as goal

-- so many connections are served
abbrev pub invariant-loop-served : goal.invariant-loop-served
invariant-loop-served g l = record {
  sound : (g.R.Records.custody l.front.server.records).sound → (g.R.Records.custody l.fn.front.server.records).sound;
  closed : l.front.lines ≡ none_open;
  served :
      AreIsolatedOver g.R.Records.custody g.P.Peers.came g.P.Peers.parted l._served (Ok tt) (at_clock l.fn.front (g.C.Clock.told l.fn.clock)) (at_clock l.front (g.C.Clock.told l.clock))
      l.fn.peers l.peers;
}
