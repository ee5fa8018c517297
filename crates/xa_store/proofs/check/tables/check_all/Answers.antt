use Rattle.std.proofs.Common.{◌∙◌, sym, rules, w64}
use Rattle.xa_store.proofs.Common.{to_z-of_z, state}
use Rattle.xa_store.proofs.AskedLemmas.{asks_then}
use Rattle.xa_store.proofs.LoadLemmas.{places_checked}
use Rattle.xa_store.proofs.check.tables.check_all.Goals as goal

pub returns-clause-asks : goal.returns-clause-asks
returns-clause-asks g c =
    asks_then (state g.S.Store c.args.conn.now) (state g.S.Store c.check_tables.new.conn) (state g.S.Store c.check_sources.new.conn) c.in_ok-check_tables.field-0
    c.in_ok-check_tables.ensures.asks c.check_sources.result c.check_sources.ensures.asks

pub returns-clause-finds : goal.returns-clause-finds
returns-clause-finds g c =
    let n = to_z-of_z w64 c.args.checking.next_domain (search rules) in
    places_checked (state g.S.Store c.args.conn.now) (state g.S.Store c.check_tables.new.conn) (state g.S.Store c.check_sources.new.conn) c.in_ok-check_tables.field-0 c.check_sources.result c.args.checking.next_domain
    (sym (rw n at c.is_count.ensures) ∙ c.if-not-is_count.false) c.in_ok-check_tables.ensures.asks c.check_sources.ensures.asks c.in_ok-check_tables.ensures.finds c.check_sources.ensures.finds
