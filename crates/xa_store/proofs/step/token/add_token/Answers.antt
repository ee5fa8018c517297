use Rattle.std.proofs.Common.{w64}
use Rattle.xa_store.proofs.Common.{to_z-of_z, state}
use Rattle.xa_store.specs.declared.step.Step.TheVariants.{AddToken}
use Rattle.xa_store.proofs.TokenSteps.{token_added_stepped}
use Rattle.xa_store.proofs.ColumnNumbers.{of_role}
use Rattle.xa_store.proofs.TakeLemmas.{took_ok}
use Rattle.xa_store.proofs.step.token.add_token.Goals as goal

pub returns-clause-taken : goal.returns-clause-taken
returns-clause-taken g c =
    let old = state g.S.Store c.args.tx.now.conn.now in
    let new = state g.S.Store c.execute_in.new.tx.conn.now in
    let n = to_z-of_z w64 c.args.number c.ranges.number in
    record {
      stays = c.execute_in.ensures.stays;
      takes = λ clean inside none.
          took_ok old new (AddToken c.args.number c.args.digest.now c.args.role) c.execute_in.result (c.execute_in.ensures.stays.inside clean inside.inside) (c.execute_in.ensures.runs clean inside.inside)
          (λ ran. token_added_stepped old new inside.schema ran.0 inside.tables c.args.number c.args.digest.now c.args.role none (rw (n, (of_role c.args.role).held) at (rw (c.as_bytes.ensures.value, c.role_number.ensures) at ran.1)));
    }
