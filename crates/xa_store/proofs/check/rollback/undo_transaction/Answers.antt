use Rattle.std.proofs.Common.{◌≡◌, false, IsTrue, rules}
use Rattle.xa_store.proofs.Common.{state}
use Rattle.xa_store.proofs.ApartLemmas.{ended, ended_before, not_ended}
use Rattle.xa_store.proofs.check.rollback.undo_transaction.Goals as goal

pub returns-then-is_autocommit : goal.returns-then-is_autocommit
returns-then-is_autocommit g c =
    let idle : (state g.S.Store c.args.conn.now).in_transaction ≡ false = search rules in
    ended_before (state g.S.Store c.args.conn.now) idle

pub returns-in-Ok : goal.returns-in-Ok
returns-in-Ok g c =
    let inside : IsTrue (state g.S.Store c.args.conn.now).in_transaction = search rules in
    ended (state g.S.Store c.args.conn.now) (state g.S.Store c.execute.new.self) inside c.execute.ensures.survives c.in-Ok.field-0 c.in-Ok.ensures.runs

pub returns-in-Err : goal.returns-in-Err
returns-in-Err g c =
    let inside : IsTrue (state g.S.Store c.args.conn.now).in_transaction = search rules in
    not_ended (state g.S.Store c.args.conn.now) (state g.S.Store c.execute.new.self) inside c.execute.ensures.survives c.error_of_statement.result c.error_of_statement.ensures
