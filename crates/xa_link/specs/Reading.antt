-- How much is read for the tree that a reference leads to: the texts of the documents on the paths from it, the text
-- of each place once.
use Rattle.std.specs.Prelude.{ℕ, zero, suc, ◌+◌, ◌==◌, ⊤, Bool, false, ◌||◌}
use Rattle.std.specs.Prelude.{if◌then◌else◌, List, [], ◌∷◌, length, Option, Some, None, Result, Ok, Err}
use Rattle.std.specs.List.{list_any}
use Rattle.xa_value.specs.declared.or_memory.OrMemory.{OrMemory}
use Rattle.xa_value.specs.declared.or_memory.OrMemory.TheVariants.{Memory, Error}
use Rattle.xa_policy.specs.declared.reference.Reference.{Reference}
use Rattle.xa_notation.specs.declared.document.Document.{Document, fold-Document}
use Rattle.xa_notation.specs.declared.document.Document.TheOpen.{Document-F}
use Rattle.xa_notation.specs.declared.document.Parsed.{Parsed}
use Rattle.xa_link.specs.declared.active.Active.{Active}
use Rattle.xa_link.specs.Linking.{document_at, next_place}

-- whether some reference in a document passes a test
abbrev pub some_step : (Reference → Bool) → Document-F Bool → Bool
some_step test (Document-F.Policy policy) = false
some_step test (Document-F.PolicySet set children) = list_any (λ passes. passes) children
some_step test (Document-F.Reference reference) = test reference

abbrev pub some_reference : (Reference → Bool) → Document → Bool
some_reference test = fold-Document Bool (some_step test)

-- whether some reference in a text passes a test; one that isn't a document has none
abbrev pub some_reference_in : (Reference → Bool) → Option Parsed → Bool
some_reference_in test None = false
some_reference_in test (Some parsed) = some_reference test parsed.document

-- whether a place is the next one, or one that the references in the document there lead to
abbrev pub is_at_or_below : (ℕ → Reference → Bool) → List Active → Option ℕ → ℕ → Bool
is_at_or_below below active None place = false
is_at_or_below below active (Some next) place =
    (place == next) || some_reference_in (below next) (document_at active next)

-- whether a reference at the end of a path of documents, to which at most that many may be added, leads to the
-- document at a place. These are the paths of the tree (`tree_within` of `specs/Linking`): none leads back to a
-- document on it
unfoldable pub leads_within : ℕ → List Active → List ℕ → Reference → ℕ → Bool
leads_within zero active path reference place = false
leads_within (suc more) active path reference place =
    is_at_or_below (λ next inner. leads_within more active (next ∷ path) inner place) active
    (next_place active path reference) place

-- whether the root leads to the document at a place: at most 17 documents stand on a path, the first one too
abbrev pub leads_to : List Active → Reference → ℕ → Bool
leads_to active root = leads_within 17 active [] root

-- the lengths of the texts at the places that pass a test, together: each counts once
abbrev pub bytes_at : (ℕ → Bool) → List Active → ℕ
bytes_at test [] = 0
bytes_at test (first ∷ rest) = (if test 0 then length first.text else 0) + bytes_at (λ place. test (suc place)) rest

-- how many bytes are read for the tree of a root
unfoldable pub reading : List Active → Reference → ℕ
reading active root = bytes_at (leads_to active root) active

-- if a call has answered, be it with an error of its own, P holds
abbrev pub OnceAnswered : {X E : Type 0} → Result X (OrMemory E) → Type 0 → Type 0
OnceAnswered (Ok x) P = P
OnceAnswered (Err Memory) P = ⊤
OnceAnswered (Err (Error e)) P = P
