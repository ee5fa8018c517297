use Rattle.std.proofs.Common.{◌≡◌, ◌↔◌, IsTrue, subst}
use Rattle.sqlite_schema.specs.declared.schema.Schema.{Schema}
use Rattle.xa_store.proofs.Common.{state, schema_2}
use Rattle.xa_store.proofs.ReopeningLemmas.{reopens}
use Rattle.xa_store.proofs.keeper.SqlRecords.reopens.Goals as goal

pub returns : goal.returns
returns g c =
    reopens (state g.S.Store c.args.self.now.conn) (state g.T.Store c.args.conn.now) c.schema.ensures.live c.is_schema_2-is_schema_2.result
    (subst (λ (s : Schema). IsTrue c.is_schema_2-is_schema_2.result ↔ (s ≡ schema_2)) c.schema.ensures.value c.is_schema_2-is_schema_2.ensures)
