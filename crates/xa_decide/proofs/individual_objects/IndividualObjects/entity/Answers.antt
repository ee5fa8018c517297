use Rattle.std.proofs.Common.{ap, ◌∙◌}
use Rattle.xa_decide.specs.indexing.Naming.{text_said}
use Rattle.xa_decide.proofs.NamingLemmas.{entity_said}
use Rattle.xa_decide.proofs.individual_objects.IndividualObjects.entity.Goals as goal

pub returns : goal.returns
returns c = c.text.ensures ∙ ap (λ said. text_said said) c.naming.ensures ∙ entity_said c.args.self.now c.args.category.now
