use Rattle.std.proofs.Common.{w64}
use Rattle.xa_store.proofs.Common.{to_z-of_z, state, type_of}
use Rattle.xa_store.specs.declared.step.Step.TheVariants.{AddSourceRow}
use Rattle.xa_store.specs.Rows.{value_text}
use Rattle.xa_store.proofs.SourceSteps.{source_row_added_stepped}
use Rattle.xa_store.proofs.ColumnNumbers.{of_type}
use Rattle.xa_store.proofs.TakeLemmas.{took_ok}
use Rattle.xa_store.proofs.step.source.add_source_row.Goals as goal

pub returns-clause-taken : goal.returns-clause-taken
unfolding value_text
returns-clause-taken g c =
    let old = state g.S.Store c.args.tx.now.conn.now in
    let new = state g.S.Store c.execute_in.new.tx.conn.now in
    let n = to_z-of_z w64 c.args.number c.ranges.number in
    let p = to_z-of_z w64 c.args.place c.ranges.place in
    let row = c.args.row.now in
    record {
      stays = c.execute_in.ensures.stays;
      takes = λ clean inside allows.
          took_ok old new (AddSourceRow c.args.number c.args.place row) c.execute_in.result (c.execute_in.ensures.stays.inside clean inside.inside) (c.execute_in.ensures.runs clean inside.inside)
          (λ ran. source_row_added_stepped old new inside.schema ran.0 inside.tables c.args.number c.args.place row allows.0 allows.1
          (rw (n, p, (of_type (type_of row.value)).held) at (rw (c.type_number.ensures, c.as_bytes.ensures, c.as_bytes-2.ensures, c.as_bytes-3.ensures, c.as_bytes-4.ensures, c.text_or_null.ensures, c.in_ok-value.ensures) at ran.1)));
    }
