use Rattle.std.proofs.Common.{[], sym, subst}
use Rattle.xa_store.proofs.Common.{state}
use Rattle.xa_store.specs.Opening.{IsFailure}
use Rattle.xa_store.proofs.AskedLemmas.{a_failure, asked, failed_fits, not_asked}
use Rattle.xa_store.proofs.check.query.rows_to_check.Goals as goal

pub returns-in-Ok-clause-asks : goal.returns-in-Ok-clause-asks
returns-in-Ok-clause-asks g c version plain =
    asked c.args.sql.now [] (state g.S.Store c.args.conn.now) (state g.S.Store c.query_all.new.self) version plain c.query_all.ensures.survives c.in-Ok.rows c.in-Ok.rows.items c.in-Ok.ensures.ok

pub returns-in-Err-clause-asks : goal.returns-in-Err-clause-asks
returns-in-Err-clause-asks g c version plain =
    not_asked c.args.sql.now [] (state g.S.Store c.args.conn.now) (state g.S.Store c.query_all.new.self) version plain c.query_all.ensures.survives c.in-Err.error c.error_of_check.result c.in-Err.ensures.err

pub returns-in-Err-clause-fails : goal.returns-in-Err-clause-fails
returns-in-Err-clause-fails g c clean version plain rests =
    let error = c.in-Err.error in
    subst IsFailure (sym c.error_of_check.ensures) (a_failure error (failed_fits c.args.sql.now [] (state g.S.Store c.args.conn.now) (state g.S.Store c.query_all.new.self) error rests plain (c.in-Err.ensures.err clean)))
