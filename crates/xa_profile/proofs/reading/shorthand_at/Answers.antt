use Rattle.std.proofs.Common.{◌∙◌, ap}
use Rattle.json.specs.Find.{get}
use Rattle.json.specs.Value.{value_view}
use Rattle.xa_profile.proofs.TreeLemmas.{member_found}
use Rattle.xa_profile.proofs.reading.shorthand_at.Goals as goal

pub returns : goal.returns
returns c = member_found _ c.args.value.now c.get.result (c.get.ensures ∙ ap (λ name. get name (value_view c.args.value.now)) c.shorthand.ensures)
