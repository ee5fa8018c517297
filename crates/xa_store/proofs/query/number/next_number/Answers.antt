use Rattle.xa_store.proofs.Common.{state}
use Rattle.xa_store.proofs.NextLemmas.{next_finds_in}
use Rattle.xa_store.proofs.query.number.next_number.Goals as goal

pub returns-clause-finds : goal.returns-clause-finds
returns-clause-finds g c clean ours =
    next_finds_in (state g.S.Store c.args.conn.now) (state g.S.Store c.query_rows.new.conn) ours c.in_ok-rows.rows.items (c.in_ok-rows.ensures.shows clean) c.read_next.result (rw c.as_slice.ensures.value at c.read_next.ensures)
