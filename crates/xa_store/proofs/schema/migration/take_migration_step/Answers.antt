use Rattle.xa_store.proofs.Common.{state}
use Rattle.xa_store.proofs.MakingLemmas.{on_ok}
use Rattle.xa_store.proofs.MigratingLemmas.{taken}
use Rattle.xa_store.proofs.schema.migration.take_migration_step.Goals as goal

pub returns-clause-moves : goal.returns-clause-moves
returns-clause-moves g c clean inside first sound before =
    on_ok c.execute_in.result (c.execute_in.ensures.runs clean inside)
    (λ ran. taken c.args.step first sound (state g.S.Store c.args.tx.now.conn.now) (state g.S.Store c.execute_in.new.tx.conn.now) ran.0 before (rw c.statement.ensures at ran.1))
