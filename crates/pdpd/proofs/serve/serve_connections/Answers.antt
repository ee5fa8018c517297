use Rattle.std.proofs.Common.{◌≡◌, ◌<◌, ℕ, Ok, Err, rules, subst}
use Rattle.pdpd.specs.Connections.{AreIsolatedOver, at_clock}
use Rattle.pdpd.proofs.ServingLemmas.{served_more, served_none, served_until}
use Rattle.pdpd.proofs.serve.serve_connections.Goals as goal

pub loop-served-init : goal.loop-served-init
loop-served-init g c = record {
  sound = λ sound. sound;
  closed = c.requires;
  served =
      served_none g.R.Records.custody g.met.R.Records.open_if_sound g.P.Peers.came g.P.Peers.parted (at_clock c.args.front.now (g.C.Clock.told c.args.clock.now)) c.args.peers.now;
}

pub loop-served-preserved : goal.loop-served-preserved
loop-served-preserved g c = record {
  sound = λ sound. c.loop-served.invariant.sound (c.serve_next.ensures.sound sound);
  closed = c.serve_next.ensures.closed;
  served =
      served_more g.R.Records.custody g.met.R.Records.open_if_sound g.P.Peers.came g.P.Peers.parted c.loop-served._served (at_clock c.args.front.now (g.C.Clock.told c.args.clock.now))
      (at_clock c.loop-served.front (g.C.Clock.told c.loop-served.clock)) (at_clock c.serve_next.new.front (g.C.Clock.told c.serve_next.new.clock)) c.args.peers.now c.loop-served.peers
      c.serve_next.new.peers c.loop-served.invariant.served c.in_ok-serve_next.ensures.served;
}

pub returns-in_err-serve_next-clause-served : goal.returns-in_err-serve_next-clause-served
returns-in_err-serve_next-clause-served g c =
    let is : c.from_residual.result ≡ Err c.in_err-serve_next.field-0.0 = search rules in
    let few : c.loop-served._served < c.args.connections = search rules in
    rw is
    (served_until g.R.Records.custody g.met.R.Records.open_if_sound g.P.Peers.came g.P.Peers.parted c.args.connections c.loop-served._served c.in_err-serve_next.field-0.0
    (at_clock c.args.front.now (g.C.Clock.told c.args.clock.now)) (at_clock c.loop-served.front (g.C.Clock.told c.loop-served.clock))
    (at_clock c.serve_next.new.front (g.C.Clock.told c.serve_next.new.clock)) c.args.peers.now c.loop-served.peers c.serve_next.new.peers few c.loop-served.invariant.served
    c.in_err-serve_next.ensures.served)

pub returns-clause-served : goal.returns-clause-served
returns-clause-served g c =
    let same : c.loop-served._served ≡ c.args.connections = search rules in
    subst (λ (n : ℕ). AreIsolatedOver g.R.Records.custody g.P.Peers.came g.P.Peers.parted n (Ok tt) (at_clock c.args.front.now (g.C.Clock.told c.args.clock.now))
    (at_clock c.loop-served.front (g.C.Clock.told c.loop-served.clock)) c.args.peers.now c.loop-served.peers) same c.loop-served.invariant.served
