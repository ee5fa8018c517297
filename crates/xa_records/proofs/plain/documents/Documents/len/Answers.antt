use Rattle.std.proofs.Common.{ap, ◌∙◌}
use Rattle.std.specs.FinMap as finite
use Rattle.xa_records.proofs.OrderLemmas.{keys_exact, keys_total}
use Rattle.xa_records.proofs.TreeLemmas as map
use Rattle.xa_records.proofs.plain.documents.Documents.len.Goals as goal

pub returns : goal.returns
returns c = c.len.ensures.len ∙ map.length_is keys_total keys_exact c.self.inside.documents c.len.ensures.ordered ∙ ap finite.len c.self.view_is
