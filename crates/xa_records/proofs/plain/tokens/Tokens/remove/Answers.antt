use Rattle.std.proofs.Common.{ap, ◌∙◌}
use Rattle.std.specs.FinMap as finite
use Rattle.xa_records.proofs.OrderLemmas.{bytes_exact, bytes_total}
use Rattle.xa_records.proofs.TreeLemmas as map
use Rattle.xa_records.proofs.plain.tokens.Tokens.remove.Goals as goal

pub returns : goal.returns
returns c = map.removed_is bytes_total bytes_exact c.self.inside.roles c.remove.new.self c.args.digest.now c.remove.ensures.updates ∙ ap (λ m. finite.remove m c.args.digest.now) c.self.view_is
