use Rattle.std.proofs.Common.{◌≡◌, None, Some, rules, w64, sym, subst}
use Rattle.xa_store.proofs.Common.{to_z-of_z, state, rows_of}
use Rattle.xa_store.specs.keeping.Lookup.{FindsDocument}
use Rattle.xa_store.proofs.DocumentLemmas.{text_is}
use Rattle.xa_store.proofs.query.reading.text_at.Goals as goal

pub returns-in-Some-clause-reads : goal.returns-in-Some-clause-reads
returns-in-Some-clause-reads g c clean ours =
    let n = to_z-of_z w64 c.args.number c.ranges.number in
    let rows = rows_of (state g.S.Store c.args.conn.now).now.trees in
    let there : c.in_ok-document.field-0 ≡ Some c.in-Some.document = search rules in
    sym (text_is rows c.args.number c.args.key.now (Some c.in-Some.document) (subst (FindsDocument c.args.number c.args.key.now rows) there (rw n at (c.in_ok-document.ensures.finds clean ours))))

pub returns-in-None-clause-reads : goal.returns-in-None-clause-reads
returns-in-None-clause-reads g c clean ours =
    let n = to_z-of_z w64 c.args.number c.ranges.number in
    let rows = rows_of (state g.S.Store c.args.conn.now).now.trees in
    let none : c.in_ok-document.field-0 ≡ None = search rules in
    sym (text_is rows c.args.number c.args.key.now None (subst (FindsDocument c.args.number c.args.key.now rows) none (rw n at (c.in_ok-document.ensures.finds clean ours))))
