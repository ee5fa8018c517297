use Rattle.std.proofs.Common.{◌≡◌, Err, rules}
use Rattle.xa_store.proofs.Common.{state}
use Rattle.xa_store.proofs.AskedLemmas.{asks_then}
use Rattle.xa_store.proofs.LoadLemmas.{first_stops, rest_checked}
use Rattle.xa_store.proofs.check.tables.check_sources_of_schema_2.Goals as goal

pub returns-in_err-check_places-clause-finds : goal.returns-in_err-check_places-clause-finds
returns-in_err-check_places-clause-finds g c clean rests are =
    let is : c.from_residual.result ≡ Err c.in_err-check_places.field-0.0 = search rules in
    rw is (first_stops _ _ c.in_err-check_places.field-0.0 (c.in_err-check_places.ensures.finds clean rests are))

pub returns-clause-asks : goal.returns-clause-asks
returns-clause-asks g c =
    asks_then (state g.S.Store c.args.conn.now) (state g.S.Store c.check_places.new.conn) (state g.S.Store c.check_attributes.new.conn) c.in_ok-check_places.field-0
    c.in_ok-check_places.ensures.asks c.check_attributes.result c.check_attributes.ensures.asks

pub returns-clause-finds : goal.returns-clause-finds
returns-clause-finds g c =
    rest_checked (state g.S.Store c.args.conn.now) (state g.S.Store c.check_places.new.conn) (state g.S.Store c.check_attributes.new.conn) c.in_ok-check_places.field-0 c.check_attributes.result
    c.in_ok-check_places.ensures.asks c.check_attributes.ensures c.in_ok-check_places.ensures.finds
