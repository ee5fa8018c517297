use Rattle.std.proofs.Common.{◌≡◌, ◌∙◌, sym, Some}
use Rattle.xa_store.specs.keeping.Check.{place_told}
use Rattle.xa_store.proofs.CountLemmas.{goes_on, stops}
use Rattle.xa_store.proofs.check.tables.are_consecutive.Goals as goal

pub returns-in_default : goal.returns-in_default
returns-in_default c =
    let told : place_told c.row-item.result ≡ Some c.in-Some.place = sym c.place_told.ensures ∙ c.in-Some.is in
    sym (stops c.loop-row.last c.args.rows.now c.loop-row.row-index c.row-item.result c.loop-row-test.true c.row-item.is c.in-Some.place told (sym c.follows.ensures ∙ c.if-follows.false)) ∙ c.loop-row.invariant

pub loop-row-preserved : goal.loop-row-preserved
loop-row-preserved c =
    let told : place_told c.row-item.result ≡ Some c.in-Some.place = sym c.place_told.ensures ∙ c.in-Some.is in
    goes_on c.loop-row.last c.args.rows.now c.loop-row.row-index c.row-item.result c.loop-row-test.true c.row-item.is c.in-Some.place told (sym c.follows.ensures ∙ c.if-follows.true) ∙ c.loop-row.invariant
