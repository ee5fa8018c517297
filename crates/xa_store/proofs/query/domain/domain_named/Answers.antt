use Rattle.xa_store.proofs.Common.{state}
use Rattle.xa_store.proofs.DomainLemmas.{domain_finds_in}
use Rattle.xa_store.proofs.query.domain.domain_named.Goals as goal

pub returns-clause-finds : goal.returns-clause-finds
returns-clause-finds g c clean ours =
    let shown = rw c.as_bytes.ensures at (c.in_ok-rows.ensures.shows clean) in
    domain_finds_in (state g.S.Store c.args.conn.now) (state g.S.Store c.query_rows.new.conn) c.args.name.now ours c.in_ok-rows.rows.items shown c.read_domain.result (rw c.as_slice.ensures.value at c.read_domain.ensures)
