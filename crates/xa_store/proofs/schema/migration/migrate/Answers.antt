use Rattle.std.proofs.Common.{◌≡◌, refl, subst, rules}
use Rattle.xa_store.proofs.Common.{state}
use Rattle.xa_store.specs.keeping.Check.{MigratesTables}
use Rattle.xa_store.proofs.MadeLemmas.{migrated_or_not}
use Rattle.xa_store.proofs.schema.migration.migrate.Goals as goal

pub returns : goal.returns
returns g c =
    let begun = c.transaction-tx.ensures.begun in
    let last = c.commit.new.self.0 in
    let same : last ≡ c.conn-2-1.given.0 = search rules in
    subst (λ h. MigratesTables {X = Unit {0}} (state g.S.Store c.args.conn.now) (state g.S.Store h) c.map_err.result) same
    (migrated_or_not g.S.Store c.args.conn.now c.take_migration_steps.new.tx.conn.now last (rw begun at c.in_ok-take_migration_steps.ensures.stays.survives) (rw begun at c.in_ok-take_migration_steps.ensures.stays.kept) c.commit.ensures.survives (rw begun at c.in_ok-take_migration_steps.ensures.moves)
    _ (λ e f h. search rules) c.commit.result c.map_err.result c.map_err.ensures.cases (λ clean. (rw begun at c.in_ok-take_migration_steps.ensures.stays.inside) clean refl) c.commit.ensures.ended c.commit.ensures.ok c.commit.ensures.err)
