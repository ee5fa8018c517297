use Rattle.std.proofs.Common.{w64}
use Rattle.xa_store.proofs.Common.{to_z-of_z, state}
use Rattle.xa_store.specs.declared.step.Step.TheVariants.{SetActive}
use Rattle.xa_store.proofs.DocumentSteps.{activity_stepped}
use Rattle.xa_store.proofs.ColumnNumbers.{of_activity, of_kind}
use Rattle.xa_store.proofs.TakeLemmas.{took_ok}
use Rattle.xa_store.proofs.step.document.set_active_at.Goals as goal

pub returns-clause-takes : goal.returns-clause-takes
returns-clause-takes g c named clean inside reads =
    let old = state g.S.Store c.args.tx.now.conn.now in
    let new = state g.S.Store c.execute_in.new.tx.conn.now in
    let n = to_z-of_z w64 c.args.number c.ranges.number in
    took_ok old new (SetActive c.args.number c.args.key.now c.args.active) c.execute_in.result (c.execute_in.ensures.stays.inside clean inside.inside) (c.execute_in.ensures.runs clean inside.inside)
    (λ ran. activity_stepped old new inside.schema ran.0 inside.tables c.args.number c.args.key.now reads c.args.active (rw (n, (of_kind c.args.key.now.kind).held, (of_activity c.args.active).held) at (rw (c.kind_number.ensures, c.as_bytes.ensures, c.as_bytes-2.ensures, named, c.activity_number.ensures) at ran.1)))
