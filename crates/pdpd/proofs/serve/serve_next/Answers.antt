use Rattle.std.proofs.Common.{◌≡◌, Err, Ok, rules}
use Rattle.pdpd.specs.Fault.{fault_of_accepting}
use Rattle.pdpd.proofs.ServingLemmas.{accepting_of_connections, driven_sound, served_next, unserved}
use Rattle.pdpd.proofs.serve.serve_next.Goals as goal

pub returns-in_err-end-clause-served : goal.returns-in_err-end-clause-served
returns-in_err-end-clause-served g c =
    let is : c.from_residual.result ≡ Err (fault_of_accepting c.in_err-end.field-0.0) = search rules in
    rw is
    (unserved g.R.Records.custody g.P.Peers.came g.P.Peers.parted (fault_of_accepting c.in_err-end.field-0.0) c.args.front.now c.drive_next.new.server _ _
    c.args.peers.now c.drive_next.new.peers c.in_err-end.ensures)

pub returns-in_err-end-clause-sound : goal.returns-in_err-end-clause-sound
returns-in_err-end-clause-sound g c =
    driven_sound g.R.Records.custody g.P.Peers.came g.P.Peers.parted c.drive_next.result c.args.front.now.server c.drive_next.new.server _ _ c.args.peers.now
    c.drive_next.new.peers c.drive_next.ensures

pub returns-in_err-end-clause-err : goal.returns-in_err-end-clause-err
returns-in_err-end-clause-err g c =
    let is : c.from_residual.result ≡ Err (fault_of_accepting c.in_err-end.field-0.0) = search rules in
    rw is (accepting_of_connections c.in_err-end.field-0.0)

pub returns-clause-served : goal.returns-clause-served
returns-clause-served g c =
    rw c.tell_of_last.ensures
    (served_next g.R.Records.custody g.P.Peers.came g.P.Peers.parted g.met.R.Records.open_if_sound c.in_ok-end.end c.check_end.result c.args.front.now
    c.drive_next.new.server _ _ c.args.peers.now c.drive_next.new.peers c.requires c.in_ok-end.ensures c.check_end.ensures.after)

pub returns-clause-sound : goal.returns-clause-sound
returns-clause-sound g c =
    rw c.tell_of_last.ensures
    (driven_sound g.R.Records.custody g.P.Peers.came g.P.Peers.parted c.drive_next.result c.args.front.now.server c.drive_next.new.server _ _ c.args.peers.now
    c.drive_next.new.peers c.drive_next.ensures)
