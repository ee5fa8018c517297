use Rattle.xa_store.proofs.Common.{state}
use Rattle.xa_store.proofs.ReopenLemmas.{ours_open}
use Rattle.xa_store.proofs.keeper.SqlRecords.opens_again.Goals as goal

pub returns : goal.returns
returns g c sound = ours_open (state g.S.Store c.args.self.now.conn) sound.ours
