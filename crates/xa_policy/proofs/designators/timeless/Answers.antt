use Rattle.std.proofs.Common.{◌∙◌, sym}
use Rattle.xa_policy.proofs.DesignatorLemmas.{steady}
use Rattle.xa_policy.proofs.designators.timeless.Goals as goal

pub returns-clause-steady : goal.returns-clause-steady
returns-clause-steady c = λ is. steady _ (sym c.tree_is_timeless.ensures ∙ is)
