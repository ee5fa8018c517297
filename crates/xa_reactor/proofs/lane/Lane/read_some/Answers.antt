use Rattle.std.proofs.Common.{arith, rules, ◌≡◌, ◌≢◌, Ok, refl, take}
use Rattle.std.proofs.lemmas.Grind.{common_steps}
use Rattle.std.specs.declared.io.ErrorKind.TheVariants.{Interrupted, WouldBlock}
use Rattle.std.specs.IoError.{error_kind}
use Rattle.xa_reactor.proofs.GoingLemmas.{failed_by, reads_end, reads_failed, reads_none, reads_taken}
use Rattle.xa_reactor.proofs.lane.Lane.read_some.Goals as goal

pub returns-then-not-ready : goal.returns-then-not-ready
returns-then-not-ready g c = reads_none g.R.Records.custody g.met.R.Records.open_if_sound g.N.Network.done _ _ _ _ _ tt

pub returns-in-Ok-eq0 : goal.returns-in-Ok-eq0
returns-in-Ok-eq0 g c =
    let none : c.receive.result ≡ Ok 0 = cc in
    reads_end g.R.Records.custody g.met.R.Records.open_if_sound g.N.Network.done _ c.receive.result c.receive.new.room _ _ _ _ none c.receive.ensures.done

pub returns-in-Ok : goal.returns-in-Ok
returns-in-Ok g c =
    reads_taken g.R.Records.custody g.N.Network.done _ _ _ (take c.in-Ok.count c.receive.new.room) _ _ _ _ _ _ c.take.ensures c.in-Ok.ensures.done refl

pub returns-in-Err : goal.returns-in-Err
returns-in-Err g c = reads_failed g.R.Records.custody g.met.R.Records.open_if_sound g.N.Network.done _ _ _ _ _ _ _ c.in-Err.ensures.done tt

pub returns-in-Err-2 : goal.returns-in-Err-2
returns-in-Err-2 g c = reads_failed g.R.Records.custody g.met.R.Records.open_if_sound g.N.Network.done _ _ _ _ _ _ _ c.in-Err-2.ensures.done tt

pub returns-in-Err-3 : goal.returns-in-Err-3
returns-in-Err-3 g c =
    let other : error_kind c.in-Err-3.field-0 ≢ WouldBlock = first_of (search rules, grind (arith, common_steps)) in
    let uncut : error_kind c.in-Err-3.field-0 ≢ Interrupted = first_of (search rules, grind (arith, common_steps)) in
    reads_failed g.R.Records.custody g.met.R.Records.open_if_sound g.N.Network.done _ _ _ _ _ _ _ c.in-Err-3.ensures.done (failed_by c.args.share.conn.number _ c.args.self.now other uncut)
