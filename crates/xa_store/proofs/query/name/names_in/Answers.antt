use Rattle.xa_store.proofs.Common.{state}
use Rattle.xa_store.proofs.FoundLemmas.{becomes}
use Rattle.xa_store.proofs.NameLemmas.{names_read}
use Rattle.xa_store.proofs.query.name.names_in.Goals as goal

pub returns-clause-reads : goal.returns-clause-reads
returns-clause-reads g c clean ours =
    becomes c.read_all.result _ _ (names_read (state g.S.Store c.args.conn.now) (state g.S.Store c.query_rows.new.conn) ours c.in_ok-rows.rows.items (c.in_ok-rows.ensures.shows clean)) c.read_all.ensures
