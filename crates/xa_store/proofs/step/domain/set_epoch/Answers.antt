use Rattle.std.proofs.Common.{rules, w64}
use Rattle.xa_store.proofs.Common.{to_z-of_z, state}
use Rattle.xa_store.specs.declared.step.Step.TheVariants.{SetEpoch}
use Rattle.xa_store.proofs.StepLemmas.{epoch_stepped}
use Rattle.xa_store.proofs.TakeLemmas.{took_ok}
use Rattle.xa_store.proofs.step.domain.set_epoch.Goals as goal

pub returns-clause-taken : goal.returns-clause-taken
returns-clause-taken g c =
    let old = state g.S.Store c.args.tx.now.conn.now in
    let new = state g.S.Store c.execute_in.new.tx.conn.now in
    let n = to_z-of_z w64 c.args.raised.number (search rules) in
    let e = to_z-of_z w64 c.args.raised.epoch (search rules) in
    record {
      stays = c.execute_in.ensures.stays;
      takes = λ clean inside allows.
          took_ok old new (SetEpoch c.args.raised) c.execute_in.result (c.execute_in.ensures.stays.inside clean inside.inside) (c.execute_in.ensures.runs clean inside.inside)
          (λ ran. epoch_stepped old new inside.schema ran.0 inside.tables c.args.raised (rw (n, e) at ran.1));
    }
