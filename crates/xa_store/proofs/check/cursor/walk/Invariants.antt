use Rattle.std.proofs.Common.{◌≡◌}
use Rattle.xa_store.proofs.Common.{state, Survives}
use Rattle.xa_store.specs.keeping.Check.{IsUnguarded}
use Rattle.xa_store.proofs.StreamLemmas.{Keeps, Stands}
use Rattle.xa_store.proofs.check.cursor.walk.Given as goal

abbrev pub invariant-rows : goal.invariant-rows
invariant-rows g l =
    let old = state g.S.Store l.fn.conn in
    (l.rows.conn.ghost_name ≡ l.initial.rows.conn.ghost_name) × Survives old (state g.S.Store l.rows.conn.now) (λ db. IsUnguarded l.checking.version old) × Keeps l.checking.version old (state g.S.Store l.rows.conn.now) × Stands g.S.Store l.checking.version l.table l.checking.next_domain old l.rows.conn.now l.last
