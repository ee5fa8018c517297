use Rattle.std.proofs.Common.{◌≡◌, ◌↔◌, ◌∙◌, Err, IsTrue, sym, rules}
use Rattle.xa_store.proofs.Common.{state}
use Rattle.xa_store.specs.keeping.Check.{Loads}
use Rattle.xa_store.specs.Opening.{no_tables}
use Rattle.xa_store.proofs.OpenLemmas.{made_failed, made_sound, not_made}
use Rattle.xa_store.proofs.opening.make_and_check.Goals as goal

pub returns-in_err-make : goal.returns-in_err-make
returns-in_err-make g c =
    let is : c.from_residual.result ≡ Err c.in_err-make.field-0.0 = search rules in
    rw is (not_made (state g.S.Store c.args.conn.now) (state g.S.Store c.make.new.conn) c.requires c.in_err-make.field-0.0 c.in_err-make.ensures)

pub returns-in-Ok : goal.returns-in-Ok
returns-in-Ok g c =
    let old = state g.S.Store c.args.conn.now in
    let none : IsTrue c.is_blank-had_none.result ↔ (old.now.schema ≡ no_tables)
    = (λ is. sym c.schema.ensures.value ∙ c.is_blank-had_none.ensures.0 is, λ is. c.is_blank-had_none.ensures.1 (c.schema.ensures.value ∙ is)) in
    rw c.if_alone.ensures
    (made_sound old (state g.S.Store c.make.new.conn) c.requires (state g.S.Store c.check_as.new.conn) c.in_ok-make.field-0 c.in_ok-make.ensures c.in-Ok.tables
    c.is_blank-had_none.result none c.in-Ok.ensures)

pub returns-in-Err : goal.returns-in-Err
returns-in-Err g c =
    made_failed (state g.S.Store c.args.conn.now) (state g.S.Store c.make.new.conn) c.requires (state g.S.Store c.check_as.new.conn) c.in_ok-make.field-0 c.in_ok-make.ensures
    c.error_after_making.result c.in-Err.error c.error_after_making.ensures c.in-Err.ensures
