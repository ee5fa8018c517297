-- The key of the document that a text is, and that texts are kept under their own.
use Rattle.std.specs.Prelude.{◌≡◌, ℕ, List, Option, Some, None, Result, Ok, Err}
use Rattle.std.specs.FinMap.{get}
use Rattle.xa_policy.specs.declared.document_key.DocumentKey.{DocumentKey}
use Rattle.xa_notation.specs.declared.document.Parsed.{Parsed}
use Rattle.xa_notation.specs.declared.notation_error.NotationError.{NotationError}
use Rattle.xa_notation.specs.Document.{document_of}
use Rattle.xa_records.specs.DomainState.{StoredDocument, key_of}
use Rattle.xa_records.specs.Kept.{Domain, Kept}

-- the key of what a text was read as, if that is a document
abbrev pub key_if : Result Parsed NotationError → Option DocumentKey
key_if (Ok parsed) = Some (key_of parsed)
key_if (Err _) = None

-- the key of the document that a text is, if it is one: `key_in text ≡ Some key` says what `IsDocumentOf key text` says
abbrev pub key_in : List ℕ → Option DocumentKey
key_in text = key_if (document_of text)

-- each text is a document of the key under which it is kept
abbrev pub KeepsDocuments : Kept → Type 0
KeepsDocuments kept =
    (name : List ℕ) (domain : Domain) → get kept.domains name ≡ Some domain
    → (key : DocumentKey) (document : StoredDocument) → get domain.state.documents key ≡ Some document
    → key_in document.text ≡ Some key
