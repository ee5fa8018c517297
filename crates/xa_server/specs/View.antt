-- What decides in a domain, by what is kept of it.
use Rattle.std.specs.Prelude.{ℕ, List, Option, Some, None, Result, Ok, Err}
use Rattle.std.specs.List.{filter_map}
use Rattle.xa_notation.specs.declared.document.Parsed.{Parsed}
use Rattle.xa_notation.specs.declared.notation_error.NotationError.{NotationError}
use Rattle.xa_notation.specs.Document.{document_of}
use Rattle.xa_link.specs.declared.active.Active.{Active}
use Rattle.xa_decide.specs.Decision.{Viewed, view_by}
use Rattle.xa_records.specs.declared.active_text.ActiveText.{ActiveText}
use Rattle.xa_records.specs.declared.kept_view.KeptView.{KeptView}
use Rattle.xa_records.specs.DomainState.{DomainState}
use Rattle.xa_records.specs.Readings.{view_of_state}

-- a document as references may resolve to it, with its text
abbrev pub active_document : List ℕ → Parsed → Active
active_document text parsed = record { kind = parsed.kind; id = parsed.id; version = parsed.version; text = text }

-- the document that a text is, if it is one, as references may resolve to it
abbrev pub active_if : List ℕ → Result Parsed NotationError → Option Active
active_if text (Ok parsed) = Some (active_document text parsed)
active_if text (Err _) = None

-- the documents to which references may resolve: each active text is read anew
abbrev pub active_of : List ActiveText → List Active
active_of texts = filter_map (λ one. active_if one.text (document_of one.text)) texts

-- what decides in a domain, by the texts, the root and the rows that are kept
abbrev pub viewed : KeptView → Viewed
viewed kept = view_by (active_of kept.texts) kept.root kept.source

-- what decides in a domain, by its state
abbrev pub view_of : DomainState → Viewed
view_of domain = viewed (view_of_state domain)
