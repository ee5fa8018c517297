use Rattle.std.proofs.Common.{w64}
use Rattle.xa_store.proofs.Common.{to_z-of_z, state, rows_of}
use Rattle.xa_store.specs.keeping.Lookup.{FindsRole}
use Rattle.xa_store.specs.keeping.Columns.{TellsOne, role_told}
use Rattle.xa_store.proofs.FoundLemmas.{finds_in}
use Rattle.xa_store.proofs.TokenLemmas.{role_found}
use Rattle.xa_store.proofs.query.token.role_of.Goals as goal

pub returns-clause-finds : goal.returns-clause-finds
returns-clause-finds g c clean ours =
    let n = to_z-of_z w64 c.args.number c.ranges.number in
    let shown = rw n at (rw c.as_bytes.ensures.value at (c.in_ok-rows.ensures.shows clean)) in
    let old = state g.S.Store c.args.conn.now in
    let rows = c.in_ok-rows.rows.items in
    finds_in (TellsOne role_told rows) (FindsRole c.args.number c.args.digest.now (rows_of old.now.trees))
    (role_found old (state g.S.Store c.query_rows.new.conn) c.args.number c.args.digest.now ours rows shown) c.read_one.result (rw c.as_slice.ensures.value at c.read_one.ensures)
