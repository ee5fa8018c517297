use Rattle.std.proofs.Common.{◌≡◌, refl, subst, rules}
use Rattle.xa_store.proofs.Common.{state}
use Rattle.xa_store.specs.keeping.Check.{MakesTables}
use Rattle.xa_store.proofs.MadeLemmas.{made_or_not}
use Rattle.xa_store.proofs.schema.creation.make.Goals as goal

pub returns : goal.returns
returns g c =
    let begun = c.transaction-tx.ensures.begun in
    let last = c.commit.new.self.0 in
    let same : last ≡ c.conn-2-1.given.0 = search rules in
    subst (λ h. MakesTables {X = Unit {0}} (state g.S.Store c.args.conn.now) (state g.S.Store h) c.map_err.result) same
    (made_or_not g.S.Store c.args.conn.now c.take_creation_steps.new.tx.conn.now last (rw begun at c.in_ok-take_creation_steps.ensures.stays.survives) (rw begun at c.in_ok-take_creation_steps.ensures.stays.kept) c.commit.ensures.survives (rw begun at c.in_ok-take_creation_steps.ensures.makes)
    _ (λ e f h. search rules) c.commit.result c.map_err.result c.map_err.ensures.cases (λ clean. (rw begun at c.in_ok-take_creation_steps.ensures.stays.inside) clean refl) c.commit.ensures.ended c.commit.ensures.ok c.commit.ensures.err)
