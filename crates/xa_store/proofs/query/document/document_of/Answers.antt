use Rattle.std.proofs.Common.{w64}
use Rattle.xa_store.proofs.Common.{to_z-of_z, state, rows_of}
use Rattle.xa_store.specs.keeping.Lookup.{FindsDocument}
use Rattle.xa_store.specs.keeping.Columns.{TellsOne, document_told}
use Rattle.xa_store.proofs.FoundLemmas.{finds_in}
use Rattle.xa_store.proofs.DocumentLemmas.{document_found, reads_as_version}
use Rattle.xa_store.proofs.query.document.document_of.Goals as goal

pub returns-clause-finds : goal.returns-clause-finds
returns-clause-finds g c clean ours =
    let n = to_z-of_z w64 c.args.number c.ranges.number in
    let old = state g.S.Store c.args.conn.now in
    let rows = c.in_ok-rows.rows.items in
    let reads = reads_as_version c.args.key.now.version c.reads_back.ensures in
    finds_in (TellsOne document_told rows) (FindsDocument c.args.number c.args.key.now (rows_of old.now.trees))
    (document_found old (state g.S.Store c.document_rows.new.conn) c.args.number c.args.key.now reads ours rows (rw n at (c.in_ok-rows.ensures.shows clean))) c.read_one.result (rw c.as_slice.ensures.value at c.read_one.ensures)
