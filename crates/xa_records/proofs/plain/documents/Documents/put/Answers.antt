use Rattle.std.proofs.Common.{ap, ◌∙◌}
use Rattle.std.specs.FinMap as finite
use Rattle.xa_records.proofs.OrderLemmas.{keys_exact, keys_total}
use Rattle.xa_records.proofs.TreeLemmas as map
use Rattle.xa_records.proofs.plain.documents.Documents.put.Goals as goal

pub returns-clause-ok : goal.returns-clause-ok
returns-clause-ok c = map.put_is keys_total keys_exact c.self.inside.documents c.insert.new.self c.args.key c.args.document c.in_ok-insert.ensures.updates ∙ ap (λ m. finite.insert m c.args.key c.args.document) c.self.view_is
