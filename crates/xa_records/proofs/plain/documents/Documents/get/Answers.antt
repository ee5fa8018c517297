use Rattle.std.proofs.Common.{ap, ◌∙◌}
use Rattle.std.specs.FinMap as finite
use Rattle.xa_records.proofs.OrderLemmas.{keys_total}
use Rattle.xa_records.proofs.TreeLemmas as map
use Rattle.xa_records.proofs.plain.documents.Documents.get.Goals as goal

pub returns : goal.returns
returns c = c.get.ensures.value ∙ map.found keys_total c.self.inside.documents c.args.key.now ∙ ap (λ m. finite.get m c.args.key.now) c.self.view_is
