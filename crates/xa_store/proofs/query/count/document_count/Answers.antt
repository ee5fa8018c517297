use Rattle.std.proofs.Common.{w64, ap, length, ◌∙◌}
use Rattle.xa_store.proofs.Common.{to_z-of_z, state}
use Rattle.xa_store.proofs.DocumentLemmas.{documents_counted}
use Rattle.xa_store.proofs.query.count.document_count.Goals as goal

pub returns-clause-reads : goal.returns-clause-reads
returns-clause-reads g c clean ours =
    let n = to_z-of_z w64 c.args.number c.ranges.number in
    ap length c.as_slice.ensures.value ∙ documents_counted (state g.S.Store c.args.conn.now) (state g.S.Store c.query_rows.new.conn) c.args.number ours c.in_ok-rows.rows.items (rw n at (c.in_ok-rows.ensures.shows clean))
