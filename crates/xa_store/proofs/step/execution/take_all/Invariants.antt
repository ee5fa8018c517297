use Rattle.std.proofs.Common.{◌≡◌, drop}
use Rattle.xa_store.proofs.Common.{state}
use Rattle.xa_store.proofs.TakeLemmas.{SoFar}
use Rattle.xa_store.proofs.step.execution.take_all.Given as goal

-- the steps before those that are left were taken
abbrev pub invariant-loop-step : goal.invariant-loop-step
invariant-loop-step g l =
    (l.tx.conn.ghost_name ≡ l.fn.tx.conn.ghost_name) × SoFar l.steps (drop l.step-index l.steps) (state g.S.Store l.fn.tx.conn.now) (state g.S.Store l.tx.conn.now)
