use Rattle.std.proofs.Common.{◌≡◌, ◌∙◌, Err, rules, sym, subst}
use Rattle.xa_store.proofs.Common.{IsPlain, state, understood, schema_of}
use Rattle.xa_store.specs.keeping.Check.{are_consecutive, no_place, TellsSound}
use Rattle.xa_store.proofs.AskedLemmas.{as_failed, as_told}
use Rattle.xa_store.proofs.LoadLemmas.{failure_checked}
use Rattle.xa_store.proofs.PlaceLemmas.{places_count, places_plain}
use Rattle.xa_store.proofs.check.tables.check_places.Goals as goal

pub returns-in_err-rows-clause-asks : goal.returns-in_err-rows-clause-asks
returns-in_err-rows-clause-asks g c =
    let plain = subst (λ sql. IsPlain (understood (schema_of c.args.version) sql)) (sym c.places_query.ensures) (places_plain c.args.version) in
    let is : c.from_residual.result ≡ Err c.in_err-rows.field-0.0 = search rules in
    rw is (as_failed (state g.S.Store c.args.conn.now) (state g.S.Store c.rows_to_check.new.conn) c.in_err-rows.field-0.0 (c.in_err-rows.ensures.asks c.args.version plain))

pub returns-in_err-rows-clause-finds : goal.returns-in_err-rows-clause-finds
returns-in_err-rows-clause-finds g c clean rests are =
    let plain = subst (λ sql. IsPlain (understood (schema_of c.args.version) sql)) (sym c.places_query.ensures) (places_plain c.args.version) in
    let is : c.from_residual.result ≡ Err c.in_err-rows.field-0.0 = search rules in
    rw is (failure_checked _ c.in_err-rows.field-0.0 (c.in_err-rows.ensures.fails clean c.args.version plain rests))

pub returns-clause-asks : goal.returns-clause-asks
returns-clause-asks g c =
    let plain = subst (λ sql. IsPlain (understood (schema_of c.args.version) sql)) (sym c.places_query.ensures) (places_plain c.args.version) in
    as_told (state g.S.Store c.args.conn.now) (state g.S.Store c.rows_to_check.new.conn) c.in_ok-rows.rows c.sound_or_damaged.result (c.in_ok-rows.ensures.asks c.args.version plain)

pub returns-clause-finds : goal.returns-clause-finds
returns-clause-finds g c clean rests are =
    let told : c.are_consecutive.result ≡ are_consecutive no_place c.in_ok-rows.rows.items = search rules in
    subst (λ b. TellsSound b c.sound_or_damaged.result)
    (told ∙ places_count c.args.version (state g.S.Store c.args.conn.now) (state g.S.Store c.rows_to_check.new.conn) rests are c.in_ok-rows.rows.items (rw c.places_query.ensures at (c.in_ok-rows.ensures.shows clean)))
    c.sound_or_damaged.ensures
