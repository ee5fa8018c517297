use Rattle.std.proofs.Common.{◌≡◌, subst}
use Rattle.std.specs.Prelude.{Some}
use Rattle.serde_json.specs.Read.{read}
use Rattle.xa_profile.proofs.JsonLemmas.{json_of_read, no_json}
use Rattle.xa_profile.specs.parsing.Tree.{view}
use Rattle.xa_profile.proofs.tree.json.Goals as goal

pub returns-in-Ok-value_of : goal.returns-in-Ok-value_of
returns-in-Ok-value_of c =
    json_of_read _ _ c.in-Ok.ensures.1 (subst (λ s. read s ≡ Some (view c.in-Ok-value_of.value)) c.in-Ok.ensures.0 c.in-Ok-value_of.ensures.ok)

pub returns-in_default : goal.returns-in_default
returns-in_default c = no_json _ (λ utf8. absurd (c.in_default.ensures utf8))
