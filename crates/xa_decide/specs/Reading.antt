-- How much is read for what decides: the texts of the documents to which the root leads.
use Rattle.std.specs.Prelude.{◌≡◌, ℕ, List, Option, Some, None, Result, IfSome, IsOk}
use Rattle.xa_policy.specs.declared.linked.Linked.{Linked}
use Rattle.xa_policy.specs.declared.reference.Reference.{Reference}
use Rattle.xa_link.specs.declared.active.Active.{Active}
use Rattle.xa_link.specs.declared.link_error.LinkError.{LinkError}
use Rattle.xa_link.specs.Reading.{reading}

-- how many bytes are read for the tree of a root; none if no root is set
abbrev pub reading_for : List Active → Option Reference → ℕ
reading_for active None = 0
reading_for active (Some root) = reading active root

-- there is no tree, or it isn't too large: of one that is too large no clause says how much is left
abbrev pub IsNotTooLarge : Option (Result Linked LinkError) → Type 0
IsNotTooLarge tree = IfSome tree IsOk
