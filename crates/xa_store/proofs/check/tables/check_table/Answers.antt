use Rattle.std.proofs.Common.{◌≡◌, Err, rules}
use Rattle.xa_store.proofs.Common.{state}
use Rattle.xa_store.proofs.LoadLemmas.{table_checked, table_stopped}
use Rattle.xa_store.proofs.check.tables.check_table.Goals as goal

pub returns : goal.returns
returns g c =
    table_checked c.args.table c.args.checking.next_domain (state g.S.Store c.args.conn.now) (state g.S.Store c.walk.new.conn) (state g.S.Store c.check_order.new.conn) c.in_ok-walk.field-0 c.check_order.result
    c.in_ok-walk.ensures (c.check_order.ensures.asks c.args.checking.version c.requires) (λ clean rests. c.check_order.ensures.finds c.args.checking.version c.requires clean rests)

pub returns-in_err-walk : goal.returns-in_err-walk
returns-in_err-walk g c =
    let is : c.from_residual.result ≡ Err c.in_err-walk.field-0.0 = search rules in
    rw is (table_stopped c.args.table c.args.checking.next_domain (state g.S.Store c.args.conn.now) (state g.S.Store c.walk.new.conn) c.in_err-walk.field-0.0 c.in_err-walk.ensures)
