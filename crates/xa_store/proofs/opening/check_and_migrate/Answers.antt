use Rattle.std.proofs.Common.{◌≡◌, Err, rules}
use Rattle.xa_store.proofs.Common.{state}
use Rattle.xa_store.proofs.OpenLemmas.{first_refused, migrated_loads, unmigrated_loads}
use Rattle.xa_store.proofs.opening.check_and_migrate.Goals as goal

pub returns-in_err-tables : goal.returns-in_err-tables
returns-in_err-tables g c =
    let is : c.from_residual.result ≡ Err c.in_err-tables.field-0.0 = search rules in
    rw is (first_refused (state g.S.Store c.args.conn.now) (state g.S.Store c.check_as.new.conn) c.requires.taken c.requires.first c.in_err-tables.field-0.0 c.in_err-tables.ensures)

pub returns-in_err-migrate : goal.returns-in_err-migrate
returns-in_err-migrate g c =
    let is : c.from_residual-in_err-migrate.result ≡ Err c.in_err-migrate.field-0.0 = search rules in
    rw is
    (unmigrated_loads (state g.S.Store c.args.conn.now) (state g.S.Store c.check_as.new.conn) c.requires.taken c.requires.first (state g.S.Store c.migrate.new.conn) c.in_ok-tables.tables c.in_ok-tables.ensures
    c.in_err-migrate.field-0.0 c.in_err-migrate.ensures)

pub returns : goal.returns
returns g c =
    migrated_loads (state g.S.Store c.args.conn.now) (state g.S.Store c.check_as.new.conn) c.requires.taken c.requires.first (state g.S.Store c.migrate.new.conn) c.in_ok-tables.tables c.in_ok-tables.ensures
    c.in_ok-migrate.field-0 c.in_ok-migrate.ensures
