use Rattle.std.proofs.Common.{ap, ◌∙◌}
use Rattle.std.specs.FinMap as finite
use Rattle.xa_records.proofs.OrderLemmas.{bytes_total}
use Rattle.xa_records.proofs.TreeLemmas as map
use Rattle.xa_records.proofs.plain.tokens.Tokens.contains.Goals as goal
use Rattle.std.specs.Option.{is_some}

pub returns : goal.returns
returns c = c.contains_key.ensures ∙ ap is_some (map.found bytes_total c.self.inside.roles c.args.digest.now ∙ ap (λ m. finite.get m c.args.digest.now) c.self.view_is)
