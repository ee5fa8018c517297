use Rattle.std.proofs.Common.{w64}
use Rattle.xa_store.proofs.Common.{to_z-of_z, state}
use Rattle.xa_store.specs.declared.step.Step.TheVariants.{DropDocument}
use Rattle.xa_store.proofs.DocumentSteps.{document_dropped_stepped}
use Rattle.xa_store.proofs.ColumnNumbers.{of_kind}
use Rattle.xa_store.proofs.TakeLemmas.{took_ok}
use Rattle.xa_store.proofs.step.document.drop_document.Goals as goal

pub returns-clause-taken : goal.returns-clause-taken
returns-clause-taken g c =
    let old = state g.S.Store c.args.tx.now.conn.now in
    let new = state g.S.Store c.execute_in.new.tx.conn.now in
    let n = to_z-of_z w64 c.args.number c.ranges.number in
    record {
      stays = c.execute_in.ensures.stays;
      takes = λ clean inside reads.
          took_ok old new (DropDocument c.args.number c.args.key.now) c.execute_in.result (c.execute_in.ensures.stays.inside clean inside.inside) (c.execute_in.ensures.runs clean inside.inside)
          (λ ran. document_dropped_stepped old new inside.schema ran.0 inside.tables c.args.number c.args.key.now reads (rw (n, (of_kind c.args.key.now.kind).held) at (rw (c.kind_number.ensures, c.as_bytes.ensures, c.as_bytes-2.ensures, c.in_ok-version.ensures) at ran.1)));
    }
