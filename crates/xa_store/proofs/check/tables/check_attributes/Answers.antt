use Rattle.std.proofs.Common.{◌≡◌, [], true, false, Err, rules, sym, subst}
use Rattle.xa_store.proofs.Common.{IsPlain, state, understood, nil_from_length, Schema2, is_left_empty, schema_2}
use Rattle.xa_store.proofs.AskedLemmas.{as_told}
use Rattle.xa_store.proofs.LoadLemmas.{failed_checked, test_decides}
use Rattle.xa_store.proofs.PlaceLemmas.{left_plain, none_left, some_left}
use Rattle.xa_store.proofs.check.tables.check_attributes.Goals as goal

pub returns-in_err-rows : goal.returns-in_err-rows
returns-in_err-rows g c =
    let plain = subst (λ sql. IsPlain (understood schema_2 sql)) (sym c.places_query.ensures) left_plain in
    let is : c.from_residual.result ≡ Err c.in_err-rows.field-0.0 = search rules in
    rw is
    (failed_checked (λ db. is_left_empty Schema2 db) (state g.S.Store c.args.conn.now) (state g.S.Store c.rows_to_check.new.conn) c.in_err-rows.field-0.0 (c.in_err-rows.ensures.asks Schema2 plain)
    (λ clean rests. c.in_err-rows.ensures.fails clean Schema2 plain rests))

pub returns : goal.returns
returns g c =
    let plain = subst (λ sql. IsPlain (understood schema_2 sql)) (sym c.places_query.ensures) left_plain in
    let none : c.is_empty.result ≡ true → c.in_ok-rows.rows.items ≡ [] = λ holds. nil_from_length c.in_ok-rows.rows.items (search rules) in
    let some : c.is_empty.result ≡ false → c.in_ok-rows.rows.items ≡ [] → ⊥ = λ fails none. search rules in
    record {
      asks = as_told (state g.S.Store c.args.conn.now) (state g.S.Store c.rows_to_check.new.conn) c.in_ok-rows.rows c.sound_or_damaged.result (c.in_ok-rows.ensures.asks Schema2 plain);
      finds = λ clean rests.
          let shown = rw c.places_query.ensures at (c.in_ok-rows.ensures.shows clean) in
          test_decides c.is_empty.result (is_left_empty Schema2 (state g.S.Store c.args.conn.now).now.trees) c.sound_or_damaged.result
          (λ holds. none_left (state g.S.Store c.args.conn.now) (state g.S.Store c.rows_to_check.new.conn) rests c.in_ok-rows.rows.items shown (none holds))
          (λ fails. some_left (state g.S.Store c.args.conn.now) (state g.S.Store c.rows_to_check.new.conn) rests c.in_ok-rows.rows.items shown (some fails)) c.sound_or_damaged.ensures;
    }
