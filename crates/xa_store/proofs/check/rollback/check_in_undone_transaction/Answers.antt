use Rattle.std.proofs.Common.{◌≡◌, Err, rules}
use Rattle.xa_store.proofs.Common.{state}
use Rattle.xa_store.proofs.ApartLemmas.{apart_told, apart_unended, not_apart}
use Rattle.xa_store.proofs.check.rollback.check_in_undone_transaction.Goals as goal

pub returns-in_err-begin_transaction : goal.returns-in_err-begin_transaction
returns-in_err-begin_transaction g c =
    let is : c.from_residual.result ≡ Err c.in_err-begin_transaction.field-0.0 = search rules in
    rw is (not_apart c.args.version (state g.S.Store c.args.conn.now) c.requires.quiet c.requires.other (state g.S.Store c.begin_transaction.new.conn) c.in_err-begin_transaction.field-0.0 c.in_err-begin_transaction.ensures)

pub returns-in_err-undo_transaction : goal.returns-in_err-undo_transaction
returns-in_err-undo_transaction g c =
    let is : c.from_residual-in_err-undo_transaction.result ≡ Err c.in_err-undo_transaction.field-0.0 = search rules in
    rw is
    (apart_unended c.args.version (state g.S.Store c.args.conn.now) c.requires.quiet c.requires.other (state g.S.Store c.begin_transaction.new.conn) (state g.S.Store c.check-checked.new.conn) (state g.S.Store c.undo_transaction.new.conn) c.in_ok-begin_transaction.field-0 c.in_ok-begin_transaction.ensures c.check-checked.result c.check-checked.ensures c.in_err-undo_transaction.field-0.0 c.in_err-undo_transaction.ensures)

pub returns : goal.returns
returns g c =
    apart_told c.args.version (state g.S.Store c.args.conn.now) c.requires.quiet c.requires.other (state g.S.Store c.begin_transaction.new.conn) (state g.S.Store c.check-checked.new.conn) (state g.S.Store c.undo_transaction.new.conn) c.in_ok-begin_transaction.field-0 c.in_ok-begin_transaction.ensures c.check-checked.result c.check-checked.ensures c.in_ok-undo_transaction.field-0 c.in_ok-undo_transaction.ensures
