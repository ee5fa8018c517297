use Rattle.std.proofs.Common.{w64}
use Rattle.xa_store.proofs.Common.{to_z-of_z, state}
use Rattle.xa_store.proofs.DocumentLemmas.{texts_are, texts_told}
use Rattle.xa_store.proofs.query.document.active_texts_of.Goals as goal

pub returns-clause-reads : goal.returns-clause-reads
returns-clause-reads g c clean ours =
    let n = to_z-of_z w64 c.args.number c.ranges.number in
    let old = state g.S.Store c.args.conn.now in
    let told = texts_told old (state g.S.Store c.query_rows.new.conn) c.args.number ours c.in_ok-rows.rows.items (rw n at (c.in_ok-rows.ensures.shows clean)) c.in_ok-active.active c.in_ok-active.ensures in
    rw c.from_vec.ensures (texts_are old.now.trees c.args.number ours.tables c.in_ok-active.active c.in_order.result.items told c.in_order.ensures.same c.in_order.ensures.sorted)
