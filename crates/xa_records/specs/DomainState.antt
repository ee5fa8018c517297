-- The state of one domain: what is kept of it, but for its number and its epoch.
use Rattle.std.specs.Prelude.{◌≡◌, ℕ, Bool, List, [], Option, None, Ok}
use Rattle.std.specs.Cmp.Lexicographic.{slice_cmp}
use Rattle.std.specs.FinMap.{FinMap, empty}
use Rattle.std.specs.Ordering.{nat_cmp}
use Rattle.std.specs.declared.cmp.Ordering.{Ordering}
use Rattle.xa_policy.specs.declared.document_key.DocumentKey.{DocumentKey}
use Rattle.xa_policy.specs.declared.reference.Reference.{Reference}
use Rattle.xa_policy.specs.DocumentKey.{compare_keys}
use Rattle.xa_notation.specs.declared.document.Parsed.{Parsed}
use Rattle.xa_notation.specs.declared.token.Role.{Role}
use Rattle.xa_notation.specs.Document.{document_of}
use Rattle.xa_decide.specs.declared.source_row.SourceRow.{SourceRow}

-- names and digests are in the order of their bytes
abbrev pub compare_bytes : List ℕ → List ℕ → Ordering
compare_bytes = slice_cmp nat_cmp

-- a document: its text as it was uploaded, and whether references may resolve to it
pub record StoredDocument : Type 0 where
  pub text : List ℕ
  pub active : Bool

-- the state of a domain: the roles of its tokens by their digests, its documents by their keys, its root, if one is
-- set, and the rows of its attribute source
pub record DomainState : Type 0 where
  pub tokens : FinMap compare_bytes Role
  pub documents : FinMap compare_keys StoredDocument
  pub root : Option Reference
  pub source : List SourceRow

-- a domain in which nothing has been put yet
abbrev pub new_domain : DomainState
new_domain = record { tokens = empty; documents = empty; root = None; source = [] }

-- the key of a document
abbrev pub key_of : Parsed → DocumentKey
key_of parsed = record { kind = parsed.kind; id = parsed.id; version = parsed.version }

-- the text is a document of that key
abbrev pub IsDocumentOf : DocumentKey → List ℕ → Type 0
IsDocumentOf key text = (parsed : Parsed) × (document_of text ≡ Ok parsed) × (key_of parsed ≡ key)
