use Rattle.std.proofs.Common.{◌∙◌}
use Rattle.xa_func.proofs.PartLemmas.{contains_found}
use Rattle.xa_func.proofs.text.contains.Goals as goal

pub returns : goal.returns
returns c = c.is_some.ensures ∙ contains_found _ _ _ c.find.ensures
