use Rattle.std.proofs.Common.{ap, ◌∙◌}
use Rattle.std.specs.FinMap as finite
use Rattle.xa_records.proofs.OrderLemmas.{bytes_exact, bytes_total}
use Rattle.xa_records.proofs.TreeLemmas as map
use Rattle.xa_records.proofs.plain.tokens.Tokens.len.Goals as goal

pub returns : goal.returns
returns c = c.len.ensures.len ∙ map.length_is bytes_total bytes_exact c.self.inside.roles c.len.ensures.ordered ∙ ap finite.len c.self.view_is
