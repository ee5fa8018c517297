use Rattle.pdpd.proofs.ServingLemmas.{served_some}
use Rattle.pdpd.proofs.serve.serve_at.Goals as goal

pub returns-clause-served : goal.returns-clause-served
returns-clause-served g c = served_some g.R.Records.custody _ _ c.args.serving.now.connections c.serve_connections.result _ _ _ _ c.serve_connections.ensures.served
