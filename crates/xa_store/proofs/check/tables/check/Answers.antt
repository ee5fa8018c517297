use Rattle.std.proofs.Common.{◌≡◌, ℤ, Err, Result, SFits, w64, rules, subst}
use Rattle.xa_store.proofs.Common.{to_z-of_z, IsDatabase, state, State, HasCleanDisk, OpenError, SchemaVersion, is_sound, schema_of, RestsIn}
use Rattle.xa_store.specs.keeping.Check.{TellsSound}
use Rattle.xa_store.proofs.LoadLemmas.{all_checked, not_looked}
use Rattle.xa_store.proofs.check.tables.check.Goals as goal

-- what is known of tables that were checked
abbrev Finds : SchemaVersion → State → State → Result (Unit {0}) OpenError → ℤ → Type 0
Finds version old new r next = HasCleanDisk new → RestsIn (schema_of version) old → IsDatabase old.now → TellsSound (is_sound version old.now.trees next) r

pub returns-in_err-next : goal.returns-in_err-next
returns-in_err-next g c =
    let is : c.from_residual.result ≡ Err c.in_err-next.field-0.0 = search rules in
    rw is (not_looked (state g.S.Store c.args.conn.now) (state g.S.Store c.next_domain.new.conn) c.in_err-next.field-0.0 c.in_err-next.ensures.asks c.in_err-next.ensures.finds)

pub returns : goal.returns
returns g c =
    let fits : SFits w64 c.in_ok-next.next = search rules in
    all_checked (state g.S.Store c.args.conn.now) (state g.S.Store c.next_domain.new.conn) (state g.S.Store c.check_all.new.conn) c.in_ok-next.next c.in_ok-next.ensures.finds c.in_ok-next.ensures.asks
    (λ up. (c.schema-schema.ensures.live up).0) c.check_all.result c.check_all.ensures.asks
    (subst (Finds c.args.version (state g.S.Store c.next_domain.new.conn) (state g.S.Store c.check_all.new.conn) c.check_all.result) (to_z-of_z w64 c.in_ok-next.next fits) c.check_all.ensures.finds)
