-- The tree that a reference leads to (XACML 3.0, core, sections 5.10, 5.11 and 7.15): each reference in a document is
-- replaced by the tree of the document for which it stands.
use Rattle.std.specs.Prelude.{ℕ, zero, suc, ◌+◌, ◌==◌, nat_lt, if◌then◌else◌, List, [], ◌∷◌, sum}
use Rattle.std.specs.Prelude.{Option, Some, None, option_and_then, slice_get, Result, Ok, Err}
use Rattle.std.specs.List.{list_any}
use Rattle.std.specs.Result.{result_ok}
use Rattle.xa_policy.specs.declared.linked.Linked.{Linked, fold-Linked}
use Rattle.xa_policy.specs.declared.linked.Linked.TheOpen.{Linked-F}
use Rattle.xa_policy.specs.declared.linked.Linked.TheVariants.{Unresolved, Policy, PolicySet}
use Rattle.xa_policy.specs.declared.reference.Reference.{Reference}
use Rattle.xa_notation.specs.declared.document.Document.{Document, fold-Document}
use Rattle.xa_notation.specs.declared.document.Document.TheOpen.{Document-F}
use Rattle.xa_notation.specs.declared.document.Parsed.{Parsed}
use Rattle.xa_notation.specs.Document.{document_of}
use Rattle.xa_link.specs.declared.active.Active.{Active}
use Rattle.xa_link.specs.declared.link_error.LinkError.{LinkError}
use Rattle.xa_link.specs.declared.link_error.LinkError.TheVariants.{TooLarge}
use Rattle.xa_link.specs.Resolution.{resolve}

-- a document, or a part of one, in which each reference is replaced
abbrev pub replaced_step : (Reference → Linked) → Document-F Linked → Linked
replaced_step replacement (Document-F.Policy policy) = Policy policy
replaced_step replacement (Document-F.PolicySet set children) = PolicySet set children
replaced_step replacement (Document-F.Reference reference) = replacement reference

abbrev pub replaced : (Reference → Linked) → Document → Linked
replaced replacement = fold-Document Linked (replaced_step replacement)

-- the document that the active one at a place is, by its text, if it is one
abbrev pub document_at : List Active → ℕ → Option Parsed
document_at active place =
    option_and_then (λ (document : Active). result_ok (document_of document.text)) (slice_get active place)

-- a document in which each reference is replaced
abbrev pub replaced_in : (Reference → Linked) → Option Parsed → Linked
replaced_in replacement None = Unresolved
replaced_in replacement (Some parsed) = replaced replacement parsed.document

-- a document to which a path leads back makes a circle. Documents are told apart by their places in the list. Places
-- and documents give the same circles, since two references that stand for documents of one kind, id and version
-- stand for one place (`one_place_for_each_version`)
abbrev pub unless_circular : List ℕ → Option ℕ → Option ℕ
unless_circular path None = None
unless_circular path (Some place) = if list_any (λ p. p == place) path then None else Some place

-- the place of the document for which the reference stands, if it is not on the path already
abbrev pub next_place : List Active → List ℕ → Reference → Option ℕ
next_place active path reference = unless_circular path (resolve active reference)

-- the tree of the document at a place, by what the references in it lead to
abbrev pub tree_at : (ℕ → Reference → Linked) → List Active → Option ℕ → Linked
tree_at below active None = Unresolved
tree_at below active (Some place) = replaced_in (below place) (document_at active place)

-- what a reference leads to at the end of a path of documents, to which at most that many may be added
unfoldable pub tree_within : ℕ → List Active → List ℕ → Reference → Linked
tree_within zero active path reference = Unresolved
tree_within (suc more) active path reference =
    tree_at (λ place. tree_within more active (place ∷ path)) active (next_place active path reference)

-- the tree of a reference: at most 17 documents stand on a path, the first one too
abbrev pub tree : List Active → Reference → Linked
tree active reference = tree_within 17 active [] reference

-- the policies and policy sets of a tree
abbrev pub size_step : Linked-F ℕ → ℕ
size_step Linked-F.Unresolved = 0
size_step (Linked-F.Policy policy) = 1
size_step (Linked-F.PolicySet set children) = 1 + sum children

abbrev pub size : Linked → ℕ
size = fold-Linked ℕ size_step

-- a tree of at most 1,000 policies and policy sets
abbrev pub unless_large : Linked → Result Linked LinkError
unless_large linked = if nat_lt 1_000 (size linked) then Err TooLarge else Ok linked

-- the tree of a reference, or that it is too large
unfoldable pub link : List Active → Reference → Result Linked LinkError
link active reference = unless_large (tree active reference)
