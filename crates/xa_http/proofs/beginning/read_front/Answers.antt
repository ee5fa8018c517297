use Rattle.std.proofs.Common.{◌≤◌, length, ap, arith}
use Rattle.xa_http.proofs.FrontLemmas.{too_many}
use Rattle.xa_http.proofs.beginning.read_front.Goals as goal

pub unreachable-requires : goal.unreachable-requires
unreachable-requires c =
    let fits : 8192 ≤ length c.deref_mut.result.now = omega (arith, ap length c.deref_mut.ensures.value, c.in_ok-room.ensures) in
    too_many c.args.held.now (length c.deref_mut.result.now) fits (rw c.in-None.is at c.in_ok-front-2.ensures)
