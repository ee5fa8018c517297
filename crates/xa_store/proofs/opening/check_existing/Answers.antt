use Rattle.std.proofs.Common.{sym, ap, ◌∙◌}
use Rattle.xa_store.proofs.Common.{state}
use Rattle.xa_store.specs.Opening.{schema_version_in}
use Rattle.xa_store.proofs.OpenLemmas.{tested_loads}
use Rattle.xa_store.proofs.opening.check_existing.Goals as goal

pub check_and_migrate-requires-clause-taken : goal.check_and_migrate-requires-clause-taken
check_and_migrate-requires-clause-taken g c = c.requires

pub check_and_migrate-requires-clause-first : goal.check_and_migrate-requires-clause-first
check_and_migrate-requires-clause-first g c = ap schema_version_in (sym c.schema.ensures.value) ∙ sym c.schema_version_in.ensures ∙ c.in-Schema1.is

pub returns-in-Schema2 : goal.returns-in-Schema2
returns-in-Schema2 g c =
    tested_loads (state g.S.Store c.args.conn.now) (state g.S.Store c.check_as.new.conn) c.requires (ap schema_version_in (sym c.schema.ensures.value) ∙ sym c.schema_version_in.ensures ∙ c.in-Schema2.is) c.check_as.result c.check_as.ensures
