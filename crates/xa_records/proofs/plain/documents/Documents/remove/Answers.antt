use Rattle.std.proofs.Common.{ap, ◌∙◌}
use Rattle.std.specs.FinMap as finite
use Rattle.xa_records.proofs.OrderLemmas.{keys_exact, keys_total}
use Rattle.xa_records.proofs.TreeLemmas as map
use Rattle.xa_records.proofs.plain.documents.Documents.remove.Goals as goal

pub returns : goal.returns
returns c = map.removed_is keys_total keys_exact c.self.inside.documents c.remove.new.self c.args.key.now c.remove.ensures.updates ∙ ap (λ m. finite.remove m c.args.key.now) c.self.view_is
