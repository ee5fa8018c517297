use Rattle.std.proofs.Common.{◌≡◌, false, Err, IsTrue, rules, sym, ◌∙◌}
use Rattle.xa_store.proofs.Common.{state}
use Rattle.xa_store.proofs.OpenLemmas.{not_tested}
use Rattle.xa_store.proofs.opening.check_as.Goals as goal

pub returns-then-not-is_autocommit : goal.returns-then-not-is_autocommit
returns-then-not-is_autocommit g c = not_tested c.args.version (state g.S.Store c.args.conn.now)

pub check_found-requires-clause-quiet : goal.check_found-requires-clause-quiet
check_found-requires-clause-quiet g c =
    let idle : (state g.S.Store c.args.conn.now).in_transaction ≡ false = search rules in
    let settled : IsTrue (state g.S.Store c.args.conn.now).is_open → (state g.S.Store c.args.conn.now).now ≡ (state g.S.Store c.args.conn.now).committed = search rules in
    record { idle = idle; settled = settled }

pub check_found-requires-clause-ours : goal.check_found-requires-clause-ours
check_found-requires-clause-ours g c = λ is. sym c.schema.ensures.value ∙ c.found_tables-tables.ensures.ours is

pub check_found-requires-clause-others : goal.check_found-requires-clause-others
check_found-requires-clause-others g c = λ is same. c.found_tables-tables.ensures.others is (c.schema.ensures.value ∙ same)

pub returns-in_err-check_found : goal.returns-in_err-check_found
returns-in_err-check_found g c =
    let is : c.from_residual.result ≡ Err c.in_err-check_found.field-0.0 = search rules in
    rw is c.in_err-check_found.ensures

pub returns : goal.returns
returns g c = c.in_ok-check_found.ensures
