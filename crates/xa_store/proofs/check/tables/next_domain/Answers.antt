use Rattle.std.proofs.Common.{◌≡◌, ◌∙◌, ap, sym, Some, Ok, Err, rules, w64}
use Rattle.xa_store.proofs.Common.{to_z-of_z, state, NotThisSchema}
use Rattle.xa_store.proofs.AskedLemmas.{as_failed, as_told}
use Rattle.xa_store.proofs.LoadLemmas.{failure_next}
use Rattle.xa_store.proofs.PlaceLemmas.{meta_plain, next_is}
use Rattle.xa_store.proofs.check.tables.next_domain.Goals as goal

pub returns-in_err-rows-clause-asks : goal.returns-in_err-rows-clause-asks
returns-in_err-rows-clause-asks g c =
    let is : c.from_residual.result ≡ Err c.in_err-rows.field-0.0 = search rules in
    rw is (as_failed (state g.S.Store c.args.conn.now) (state g.S.Store c.rows_to_check.new.conn) c.in_err-rows.field-0.0 (c.in_err-rows.ensures.asks c.args.version (meta_plain c.args.version)))

pub returns-in_err-rows-clause-finds : goal.returns-in_err-rows-clause-finds
returns-in_err-rows-clause-finds g c clean rests =
    let is : c.from_residual.result ≡ Err c.in_err-rows.field-0.0 = search rules in
    rw is (failure_next _ c.in_err-rows.field-0.0 (c.in_err-rows.ensures.fails clean c.args.version (meta_plain c.args.version) rests))

pub returns-in-Some-clause-asks : goal.returns-in-Some-clause-asks
returns-in-Some-clause-asks g c =
    as_told (state g.S.Store c.args.conn.now) (state g.S.Store c.rows_to_check.new.conn) c.in_ok-rows.rows (Ok _) (c.in_ok-rows.ensures.asks c.args.version (meta_plain c.args.version))

pub returns-in-Some-clause-finds : goal.returns-in-Some-clause-finds
returns-in-Some-clause-finds g c clean rests =
    sym (next_is c.args.version (state g.S.Store c.args.conn.now) (state g.S.Store c.rows_to_check.new.conn) rests c.in_ok-rows.rows.items (c.in_ok-rows.ensures.shows clean))
    ∙ sym (rw c.as_slice.ensures.value at c.known_next.ensures) ∙ c.in-Some.is ∙ ap Some (sym (to_z-of_z w64 c.in-Some.next (search rules)))

pub returns-clause-asks : goal.returns-clause-asks
returns-clause-asks g c =
    as_told (state g.S.Store c.args.conn.now) (state g.S.Store c.rows_to_check.new.conn) c.in_ok-rows.rows (Err NotThisSchema) (c.in_ok-rows.ensures.asks c.args.version (meta_plain c.args.version))

pub returns-clause-finds : goal.returns-clause-finds
returns-clause-finds g c clean rests =
    sym (next_is c.args.version (state g.S.Store c.args.conn.now) (state g.S.Store c.rows_to_check.new.conn) rests c.in_ok-rows.rows.items (c.in_ok-rows.ensures.shows clean))
    ∙ sym (rw c.as_slice.ensures.value at c.known_next.ensures) ∙ c.in-None.is
