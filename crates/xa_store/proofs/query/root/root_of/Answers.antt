use Rattle.std.proofs.Common.{◌≡◌, w64}
use Rattle.xa_store.proofs.Common.{to_z-of_z, state, rows_of, state_at}
use Rattle.xa_store.specs.keeping.Columns.{TellsOne, root_told}
use Rattle.xa_store.proofs.FoundLemmas.{finds_in}
use Rattle.xa_store.proofs.RootLemmas.{root_read}
use Rattle.xa_store.proofs.query.root.root_of.Goals as goal

pub returns-clause-reads : goal.returns-clause-reads
returns-clause-reads g c clean ours =
    let n = to_z-of_z w64 c.args.number c.ranges.number in
    let old = state g.S.Store c.args.conn.now in
    let rows = c.in_ok-rows.rows.items in
    finds_in (TellsOne root_told rows) (λ root. root ≡ (state_at (rows_of old.now.trees) c.args.number).root)
    (root_read old (state g.S.Store c.query_rows.new.conn) c.args.number ours rows (rw n at (c.in_ok-rows.ensures.shows clean))) c.read_one.result (rw c.as_slice.ensures.value at c.read_one.ensures)
