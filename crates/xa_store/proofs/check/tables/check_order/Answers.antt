use Rattle.std.proofs.Common.{◌≡◌, [], true, false, Err, rules, sym, subst}
use Rattle.xa_store.proofs.Common.{IsPlain, state, understood, nil_from_length, schema_of}
use Rattle.xa_store.proofs.AskedLemmas.{as_failed, as_told}
use Rattle.xa_store.proofs.LoadLemmas.{failure_checked, test_decides}
use Rattle.xa_store.proofs.OrderLemmas.{in_order, out_of_order}
use Rattle.xa_store.proofs.RisingTexts.{order_plain}
use Rattle.xa_store.proofs.check.tables.check_order.Goals as goal

pub returns-in_err-rows-clause-asks : goal.returns-in_err-rows-clause-asks
returns-in_err-rows-clause-asks g c version has =
    let plain = subst (λ sql. IsPlain (understood (schema_of version) sql)) (sym c.order_query.ensures) (order_plain c.args.table version has) in
    let is : c.from_residual.result ≡ Err c.in_err-rows.field-0.0 = search rules in
    rw is (as_failed (state g.S.Store c.args.conn.now) (state g.S.Store c.rows_to_check.new.conn) c.in_err-rows.field-0.0 (c.in_err-rows.ensures.asks version plain))

pub returns-in_err-rows-clause-finds : goal.returns-in_err-rows-clause-finds
returns-in_err-rows-clause-finds g c version has clean rests next walked =
    let plain = subst (λ sql. IsPlain (understood (schema_of version) sql)) (sym c.order_query.ensures) (order_plain c.args.table version has) in
    let is : c.from_residual.result ≡ Err c.in_err-rows.field-0.0 = search rules in
    rw is (failure_checked _ c.in_err-rows.field-0.0 (c.in_err-rows.ensures.fails clean version plain rests))

pub returns-clause-asks : goal.returns-clause-asks
returns-clause-asks g c version has =
    let plain = subst (λ sql. IsPlain (understood (schema_of version) sql)) (sym c.order_query.ensures) (order_plain c.args.table version has) in
    as_told (state g.S.Store c.args.conn.now) (state g.S.Store c.rows_to_check.new.conn) c.in_ok-rows.rows c.sound_or_damaged.result (c.in_ok-rows.ensures.asks version plain)

pub returns-clause-finds : goal.returns-clause-finds
returns-clause-finds g c version has clean rests next walked =
    let none : c.is_empty.result ≡ true → c.in_ok-rows.rows.items ≡ [] = λ holds. nil_from_length c.in_ok-rows.rows.items (search rules) in
    let some : c.is_empty.result ≡ false → c.in_ok-rows.rows.items ≡ [] → ⊥ = λ fails none. search rules in
    let shown = rw c.order_query.ensures at (c.in_ok-rows.ensures.shows clean) in
    test_decides c.is_empty.result _ c.sound_or_damaged.result
    (λ holds. in_order c.args.table version has (state g.S.Store c.args.conn.now) (state g.S.Store c.rows_to_check.new.conn) rests c.in_ok-rows.rows.items shown next walked (none holds))
    (λ fails. out_of_order c.args.table version has (state g.S.Store c.args.conn.now) (state g.S.Store c.rows_to_check.new.conn) rests c.in_ok-rows.rows.items shown next walked (some fails)) c.sound_or_damaged.ensures
