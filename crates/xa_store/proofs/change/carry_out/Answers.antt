use Rattle.std.proofs.Common.{◌≡◌, Ok, Err, refl, rules}
use Rattle.xa_records.specs.declared.refusal.ChangeError.TheVariants.{Failed}
use Rattle.xa_store.proofs.change.carry_out.Goals as goal

pub returns-in_err-steps-clause-keeps : goal.returns-in_err-steps-clause-keeps
returns-in_err-steps-clause-keeps g c =
    let stopped : c.from_residual.result ≡ Err c.in_err-steps.field-0.0 = search rules in
    rw c.in_err-steps.was (refl, stopped)

pub returns-in_err-run-clause-runs : goal.returns-in_err-run-clause-runs
returns-in_err-run-clause-runs g c =
    let failure = c.in_err-run.field-0.0 in
    let stopped : c.from_residual-in_err-run.result ≡ Err (Failed failure) = search rules in
    rw c.in_ok-steps.was (Err failure, rw c.as_slice.ensures at c.in_err-run.ensures, stopped)

pub returns-clause-runs : goal.returns-clause-runs
returns-clause-runs g c = rw c.in_ok-steps.was (Ok c.in_ok-run.field-0, rw c.as_slice.ensures at c.in_ok-run.ensures, refl)
