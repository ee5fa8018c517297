use Rattle.std.proofs.Common.{ap, ◌∙◌}
use Rattle.std.specs.FinMap as finite
use Rattle.xa_records.proofs.OrderLemmas.{bytes_exact, bytes_total}
use Rattle.xa_records.proofs.TreeLemmas as map
use Rattle.xa_records.proofs.plain.tokens.Tokens.put.Goals as goal

pub returns-clause-ok : goal.returns-clause-ok
returns-clause-ok c = map.put_is bytes_total bytes_exact c.self.inside.roles c.insert.new.self c.args.digest c.args.role c.in_ok-insert.ensures.updates ∙ ap (λ m. finite.insert m c.args.digest c.args.role) c.self.view_is
