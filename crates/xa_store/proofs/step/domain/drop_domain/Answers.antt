use Rattle.std.proofs.Common.{w64}
use Rattle.xa_store.proofs.Common.{to_z-of_z, state}
use Rattle.xa_store.specs.declared.step.Step.TheVariants.{DropDomain}
use Rattle.xa_store.proofs.DropSteps.{domain_gone_stepped}
use Rattle.xa_store.proofs.TakeLemmas.{took_ok}
use Rattle.xa_store.proofs.step.domain.drop_domain.Goals as goal

pub returns-clause-taken : goal.returns-clause-taken
returns-clause-taken g c =
    let old = state g.S.Store c.args.tx.now.conn.now in
    let new = state g.S.Store c.execute_in.new.tx.conn.now in
    let n = to_z-of_z w64 c.args.number c.ranges.number in
    record {
      stays = c.execute_in.ensures.stays;
      takes = λ clean inside there.
          took_ok old new (DropDomain c.args.number) c.execute_in.result (c.execute_in.ensures.stays.inside clean inside.inside) (c.execute_in.ensures.runs clean inside.inside)
          (λ ran. domain_gone_stepped old new inside.schema ran.0 inside.tables c.args.number there.0 there.1 (rw n at ran.1));
    }
