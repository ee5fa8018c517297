use Rattle.std.proofs.Common.{◌≡◌, refl, subst, rules}
use Rattle.xa_store.proofs.Common.{state}
use Rattle.xa_store.specs.keeping.Execution.{Runs}
use Rattle.xa_store.proofs.RunLemmas.{run_ended}
use Rattle.xa_store.proofs.step.transaction.run.Goals as goal

pub returns : goal.returns
returns g c =
    let begun = c.transaction-tx.ensures.begun in
    let last = c.commit.new.tx.0 in
    let same : last ≡ c.conn-2-1.given.0 = search rules in
    subst (λ h. Runs c.args.steps.now (state g.S.Store c.args.conn.now) (state g.S.Store h) c.commit.result) same
    (run_ended g.S.Store c.args.conn.now c.take_all.new.tx.conn.now last c.args.steps.now (rw begun at c.in_ok-take_all.ensures.stays.survives) (rw begun at c.in_ok-take_all.ensures.stays.kept)
    (rw begun at c.in_ok-take_all.ensures.takes) c.commit.ensures.survives c.commit.result (λ clean. (rw begun at c.in_ok-take_all.ensures.stays.inside) clean refl) c.commit.ensures.ended c.commit.ensures.commits
    c.commit.ensures.fails)
