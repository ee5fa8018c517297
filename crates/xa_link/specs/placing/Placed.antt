-- Documents whose references have given way to places, and the trees that they are linked to.
use Rattle.std.specs.Prelude.{◌≡◌, ℕ, zero, suc, ◌==◌, if◌then◌else◌, List}
use Rattle.std.specs.Prelude.{◌∷◌, Option, Some, None, option_map, slice_get}
use Rattle.xa_policy.specs.declared.linked.Linked.{Linked}
use Rattle.xa_policy.specs.declared.linked.Linked.TheVariants.{Unresolved, Policy, PolicySet}
use Rattle.xa_policy.specs.declared.reference.Reference.{Reference}
use Rattle.xa_notation.specs.declared.document.Document.{Document, fold-Document}
use Rattle.xa_notation.specs.declared.document.Document.TheOpen.{Document-F}
use Rattle.xa_notation.specs.declared.document.Parsed.{Parsed}
use Rattle.xa_link.specs.declared.active.Active.{Active}
use Rattle.xa_link.specs.declared.placed.Placed.{Placed, fold-Placed}
use Rattle.xa_link.specs.declared.placed.Placed.TheOpen.{Placed-F}
use Rattle.xa_link.specs.declared.placed.Placed.TheVariants as part
use Rattle.xa_link.specs.declared.resolved.Finding.{Finding}
use Rattle.xa_link.specs.declared.resolved.Finding.TheVariants.{NotLooked, Looked}
use Rattle.xa_link.specs.Linking.{document_at, tree_at, tree_within, unless_circular}
use Rattle.xa_link.specs.Resolution.{resolve}

-- a document, or a part of one, with the places that its references stand for
abbrev pub placed_step : (Reference → Option ℕ) → Document-F Placed → Placed
placed_step place_of (Document-F.Policy policy) = part.Policy policy
placed_step place_of (Document-F.PolicySet set children) = part.PolicySet set children
placed_step place_of (Document-F.Reference reference) = part.Reference (place_of reference)

abbrev pub placed : (Reference → Option ℕ) → Document → Placed
placed place_of = fold-Document Placed (placed_step place_of)

-- the active document at a place, with places for its references
abbrev pub placed_at : List Active → ℕ → Option Placed
placed_at active place =
    option_map (λ (parsed : Parsed). placed (resolve active) parsed.document) (document_at active place)

-- the tree of a document, by what the places in it lead to
abbrev pub linked_step : (Option ℕ → Linked) → Placed-F Linked → Linked
linked_step below (Placed-F.Policy policy) = Policy policy
linked_step below (Placed-F.PolicySet set children) = PolicySet set children
linked_step below (Placed-F.Reference place) = below place

abbrev pub linked : (Option ℕ → Linked) → Placed → Linked
linked below = fold-Placed Linked (linked_step below)

-- what a reference leads to that stands for the document at a place
abbrev pub led_within : ℕ → List Active → List ℕ → Option ℕ → Linked
led_within zero active path place = Unresolved
led_within (suc more) active path place =
    tree_at (λ next. tree_within more active (next ∷ path)) active (unless_circular path place)

-- a place beyond those that are kept wasn't looked at
abbrev pub or_not_looked : Option Finding → Finding
or_not_looked (Some finding) = finding
or_not_looked None = NotLooked

-- what is known of a place
abbrev pub held : List Finding → ℕ → Finding
held documents place = or_not_looked (slice_get documents place)

-- what was found of each place is what stands there
abbrev pub AreRight : List Active → List Finding → Type 0
AreRight active documents =
    (place : ℕ) (found : Option Placed) → held documents place ≡ Looked found → placed_at active place ≡ found

-- what is known of each place has stayed
abbrev pub SamePlaced : List Finding → List Finding → Type 0
SamePlaced documents after = (place : ℕ) → held after place ≡ held documents place

-- what is known of each place has stayed, but of this one it is what was found
abbrev pub HasPlaced : List Finding → ℕ → Option Placed → List Finding → Type 0
HasPlaced documents place found after =
    (other : ℕ) → held after other ≡ (if other == place then Looked found else held documents other)
