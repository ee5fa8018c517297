use Rattle.std.proofs.Common.{w64}
use Rattle.xa_store.proofs.Common.{to_z-of_z, state}
use Rattle.xa_store.proofs.FoundLemmas.{becomes}
use Rattle.xa_store.proofs.SourceLemmas.{source_read}
use Rattle.xa_store.proofs.query.source.source_of.Goals as goal

pub returns-clause-reads : goal.returns-clause-reads
returns-clause-reads g c clean ours =
    let n = to_z-of_z w64 c.args.number c.ranges.number in
    becomes c.read_all.result _ _
    (source_read (state g.S.Store c.args.conn.now) (state g.S.Store c.query_rows.new.conn) c.args.number ours c.in_ok-rows.rows.items (rw n at (c.in_ok-rows.ensures.shows clean))) c.read_all.ensures
