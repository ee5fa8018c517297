use Rattle.xa_store.proofs.Common.{state}
use Rattle.xa_store.proofs.ApartLemmas.{begun, not_begun}
use Rattle.xa_store.proofs.check.rollback.begin_transaction.Goals as goal

pub returns-in-Ok : goal.returns-in-Ok
returns-in-Ok g c = begun (state g.S.Store c.args.conn.now) (state g.S.Store c.execute.new.self) c.in-Ok.field-0 c.execute.ensures.survives c.in-Ok.ensures.runs

pub returns-in-Err : goal.returns-in-Err
returns-in-Err g c = not_begun (state g.S.Store c.args.conn.now) (state g.S.Store c.execute.new.self) c.error_of_statement.result c.error_of_statement.ensures c.execute.ensures.survives
