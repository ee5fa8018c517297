use Rattle.std.proofs.Common.{w64}
use Rattle.xa_store.proofs.Common.{to_z-of_z, state}
use Rattle.xa_store.proofs.DocumentLemmas.{listing_is, listing_told}
use Rattle.xa_store.proofs.query.document.documents_of.Goals as goal

pub returns-clause-reads : goal.returns-clause-reads
returns-clause-reads g c clean ours =
    let n = to_z-of_z w64 c.args.number c.ranges.number in
    let old = state g.S.Store c.args.conn.now in
    let told = listing_told old (state g.S.Store c.query_rows.new.conn) c.args.number ours c.in_ok-rows.rows.items (rw n at (c.in_ok-rows.ensures.shows clean)) c.in_ok-listed.listed c.in_ok-listed.ensures in
    rw c.from_vec.ensures (listing_is old.now.trees c.args.number ours.tables c.in_ok-listed.listed c.in_order.result.items told c.in_order.ensures.same c.in_order.ensures.sorted)
