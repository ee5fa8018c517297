use Rattle.std.proofs.Common.{◌≡◌, Err, refl, rules}
use Rattle.xa_server.proofs.PeerLemmas.{driven_next, visited_none}
use Rattle.xa_server.proofs.peers.drive_next.Goals as goal

pub returns-in_err-input : goal.returns-in_err-input
returns-in_err-input g c =
    let is : c.from_residual.result ≡ Err c.in_err-input.field-0.0 = search rules in
    rw is (
      refl,
      refl,
      visited_none g.P.Peers.came g.P.Peers.parted c.args.peers.now c.next.new.self c.in_err-input.ensures.came
          c.in_err-input.ensures.parted,
    )

pub returns : goal.returns
returns g c =
    driven_next g.R.Records.custody g.P.Peers.came g.P.Peers.parted c.drive_open-end.result _ _ _ _ _ _
    c.args.peers.now c.next.new.self c.part.new.self c.new-connection.ensures c.drive_open-end.ensures
    c.in_ok-input.ensures.came c.in_ok-input.ensures.parted c.part.ensures.came c.part.ensures.parted
