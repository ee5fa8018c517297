use Rattle.std.proofs.Common.{◌≡◌, drop}
use Rattle.xa_store.proofs.Common.{state}
use Rattle.xa_store.proofs.MakingLemmas.{MadeSoFar}
use Rattle.xa_store.proofs.schema.creation.take_creation_steps.Given as goal

-- the steps before those that are left were taken
abbrev pub invariant-loop-step : goal.invariant-loop-step
invariant-loop-step g l =
    (l.tx.conn.ghost_name ≡ l.fn.tx.conn.ghost_name) × MadeSoFar (drop l.step-index l.step-items) (state g.S.Store l.fn.tx.conn.now) (state g.S.Store l.tx.conn.now)
