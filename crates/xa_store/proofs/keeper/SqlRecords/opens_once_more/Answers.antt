use Rattle.xa_store.proofs.Common.{state}
use Rattle.xa_store.proofs.OnceMoreLemmas.{opens_once_more}
use Rattle.xa_store.proofs.keeper.SqlRecords.opens_once_more.Goals as goal

pub returns : goal.returns
returns g c =
    opens_once_more (state g.S.Store c.args.old.now) (state g.S.Store c.args.left.now) (state g.T.Store c.args.conn.now)
    (λ db up may. g.met.S.Store.settled c.args.old.now.store db up may) c.schema-before.ensures.live c.schema-after.ensures.live
