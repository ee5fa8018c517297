-- How what decides in a domain is made.
use Rattle.std.specs.Prelude.{◌≡◌, ℕ, List, [], Some, None}
use Rattle.std.specs.List.{AllByRecursion}
use Rattle.xa_link.specs.declared.active.Active.{Active}
use Rattle.xa_decide.specs.Decision.{Viewed, view_by}
use Rattle.xa_decide.specs.Reading.{reading_for}
use Rattle.xa_records.specs.declared.active_text.ActiveText.{ActiveText}
use Rattle.xa_records.specs.declared.kept_view.KeptView.{KeptView}
use Rattle.xa_records.specs.Keyed.{key_in}
use Rattle.xa_server.specs.View.{active_of}

-- each text is a document of its key
abbrev pub AreKeyed : List ActiveText → Type 0
AreKeyed texts = AllByRecursion (λ one. key_in one.text ≡ Some one.key) texts

-- a document as references may resolve to it, by the key under which it is kept
abbrev pub active_by_key : ActiveText → Active
active_by_key one = record { kind = one.key.kind; id = one.key.id; version = one.key.version; text = one.text }

-- how many bytes of texts are read for a view
abbrev pub read_for : KeptView → ℕ
read_for kept = reading_for (active_of kept.texts) kept.root

-- what decides if nothing is kept
abbrev pub nothing_viewed : Viewed
nothing_viewed = view_by [] None []
