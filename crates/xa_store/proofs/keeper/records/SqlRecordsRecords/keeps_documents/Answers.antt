use Rattle.xa_store.proofs.Common.{state, rows_of}
use Rattle.xa_store.proofs.KeptLemmas.{keeps_documents}
use Rattle.xa_store.proofs.keeper.records.SqlRecordsRecords.keeps_documents.Goals as goal

pub returns : goal.returns
returns g c sound = keeps_documents (rows_of (state g.S.Store c.args.self.now.conn).now.trees) sound.1.ours.documents
