use Rattle.std.proofs.Common.{sym, subst}
use Rattle.xa_store.proofs.Common.{state}
use Rattle.xa_store.specs.keeping.Check.{Asks, FindsRest}
use Rattle.xa_store.proofs.LoadLemmas.{none_beside}
use Rattle.xa_store.proofs.check.tables.check_sources.Goals as goal

pub returns-in-Schema1-clause-finds : goal.returns-in-Schema1-clause-finds
returns-in-Schema1-clause-finds g c clean rests are =
    none_beside c.args.version c.in-Schema1.is _ (state g.S.Store c.args.conn.now).now.trees c.check_places.result (c.check_places.ensures.finds clean rests are)

pub returns-in-Schema2-clause-asks : goal.returns-in-Schema2-clause-asks
returns-in-Schema2-clause-asks g c =
    subst (λ v. Asks v (state g.S.Store c.args.conn.now) (state g.S.Store c.check_sources_of_schema_2.new.conn) c.check_sources_of_schema_2.result) (sym c.in-Schema2.is) c.check_sources_of_schema_2.ensures.asks

pub returns-in-Schema2-clause-finds : goal.returns-in-Schema2-clause-finds
returns-in-Schema2-clause-finds g c =
    subst (λ v. FindsRest v (state g.S.Store c.args.conn.now) (state g.S.Store c.check_sources_of_schema_2.new.conn) c.check_sources_of_schema_2.result) (sym c.in-Schema2.is) c.check_sources_of_schema_2.ensures.finds
