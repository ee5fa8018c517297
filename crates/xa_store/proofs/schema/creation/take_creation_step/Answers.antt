use Rattle.xa_store.proofs.Common.{state}
use Rattle.xa_store.proofs.MakingLemmas.{on_ok, taken}
use Rattle.xa_store.proofs.schema.creation.take_creation_step.Goals as goal

pub returns-clause-makes : goal.returns-clause-makes
returns-clause-makes g c clean inside before =
    on_ok c.execute_in.result (c.execute_in.ensures.runs clean inside)
    (λ ran. taken c.args.step (state g.S.Store c.args.tx.now.conn.now) (state g.S.Store c.execute_in.new.tx.conn.now) ran.0 before (rw c.statement.ensures at ran.1))
