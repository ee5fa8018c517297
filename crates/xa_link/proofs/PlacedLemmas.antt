-- A tree by the places that references stand for is the tree by the references.
use Rattle.std.proofs.Common.{◌≡◌, ℕ, zero, suc, ◌<◌, Bool, true, false, ◌==◌, List, [], ◌∷◌, map, length, get_or, refl, sym, ap, subst, ◌∙◌, arith, slice_get, slice_set, Option, Some, None}
use Rattle.std.specs.Prelude.{if◌then◌else◌, option_map}
use Rattle.std.specs.Slice.{IsItemAt}
use Rattle.std.proofs.lemmas.Option.{slice_get-get_or}
use denote.Ref.{Bor}
use Rattle.std.proofs.lemmas.Bool.{eqb-true}
use Rattle.std.proofs.lemmas.Bool.Decides.{nat_tests}
use Rattle.std.proofs.lemmas.List.{get_or-set_same, get_or-set_other}
use Rattle.xa_policy.specs.declared.linked.Linked.{Linked}
use Rattle.xa_policy.specs.declared.linked.Linked.TheVariants.{Policy, PolicySet}
use Rattle.xa_policy.specs.declared.reference.Reference.{Reference}
use Rattle.xa_policy.specs.Policy.{PolicyParts, SetParts}
use Rattle.xa_notation.specs.declared.document.Document.{Document}
use Rattle.xa_notation.specs.declared.document.Document.TheFolds.{fold-roll-Document, map-Document, ind-Document}
use Rattle.xa_notation.specs.declared.document.Document.TheOpen.{Document-F}
use Rattle.xa_notation.specs.declared.document.Parsed.{Parsed}
use Rattle.xa_link.specs.declared.active.Active.{Active}
use Rattle.xa_link.specs.declared.placed.Placed.{Placed}
use Rattle.xa_link.specs.declared.placed.Placed.TheFolds.{fold-roll-Placed}
use Rattle.xa_link.specs.declared.placed.Placed.TheOpen.{Placed-F}
use Rattle.xa_link.specs.declared.placed.Placed.TheVariants as part
use Rattle.xa_link.specs.declared.resolved.Finding.{Finding}
use Rattle.xa_link.specs.declared.resolved.Finding.TheVariants.{NotLooked, Looked}
use Rattle.xa_link.specs.Linking.{document_at, replaced, replaced_step, tree_within}
use Rattle.xa_link.specs.placing.Placed.{AreRight, HasPlaced, SamePlaced, held, led_within, linked, linked_step, placed, placed_at, placed_step}
use Rattle.xa_link.specs.Resolution.{resolve}

-- ---- trees of documents with places

pub linked_policy : (below : Option ℕ → Linked) (policy : PolicyParts) → linked below (part.Policy policy) ≡ Policy policy
linked_policy below policy = ap (linked below) (sym (part.rolls-Policy policy)) ∙ fold-roll-Placed Linked (linked_step below) (Placed-F.Policy policy)

pub linked_set : (below : Option ℕ → Linked) (set : SetParts) (children : List Placed) → linked below (part.PolicySet set children) ≡ PolicySet set (map (linked below) children)
linked_set below set children =
    ap (linked below) (sym (part.rolls-PolicySet set children)) ∙ fold-roll-Placed Linked (linked_step below) (Placed-F.PolicySet set children)

pub linked_reference : (below : Option ℕ → Linked) (place : Option ℕ) → linked below (part.Reference place) ≡ below place
linked_reference below place = ap (linked below) (sym (part.rolls-Reference place)) ∙ fold-roll-Placed Linked (linked_step below) (Placed-F.Reference place)

-- a document with places gives what the document gives
module _ (below : Option ℕ → Linked) (place_of : Reference → Option ℕ) (replacement : Reference → Linked) (same : (r : Reference) → replacement r ≡ below (place_of r)) where
  abbrev IsAlike : Document → Type 0
  IsAlike d = linked below (placed place_of d) ≡ replaced replacement d

  children_alike : (ds : List ((d : Document) × IsAlike d))
      → map (linked below) (map (placed place_of) (map (λ e. e.0) ds)) ≡ map (replaced replacement) (map (λ e. e.0) ds)
  children_alike [] = refl
  children_alike (d ∷ ds) =
      ap (λ t. t ∷ map (linked below) (map (placed place_of) (map (λ e. e.0) ds))) d.1
      ∙ ap (λ ts. replaced replacement d.0 ∷ ts) (children_alike ds)

  layer_alike : (y : Document-F ((d : Document) × IsAlike d))
      → linked below (placed_step place_of (map-Document Document Placed (placed place_of) (map-Document ((d : Document) × IsAlike d) Document (λ e. e.0) y)))
      ≡ replaced_step replacement (map-Document Document Linked (replaced replacement) (map-Document ((d : Document) × IsAlike d) Document (λ e. e.0) y))
  layer_alike (Document-F.Policy policy) = linked_policy below policy
  layer_alike (Document-F.PolicySet set ds) =
      linked_set below set (map (placed place_of) (map (λ e. e.0) ds)) ∙ ap (λ ts. PolicySet set ts) (children_alike ds)
  layer_alike (Document-F.Reference reference) = linked_reference below (place_of reference) ∙ sym (same reference)

  pub linked_is : (d : Document) → linked below (placed place_of d) ≡ replaced replacement d
  linked_is = ind-Document IsAlike (λ x y is.
      let here = subst (λ z. linked below (placed_step place_of (map-Document Document Placed (placed place_of) z)) ≡ replaced_step replacement (map-Document Document Linked (replaced replacement) z)) is (layer_alike y) in
      ap (linked below) (fold-roll-Document Placed (placed_step place_of) x) ∙ here ∙ sym (fold-roll-Document Linked (replaced_step replacement) x))

-- ---- trees of references

pub led_is : (more : ℕ) (active : List Active) (path : List ℕ) (reference : Reference) → tree_within more active path reference ≡ led_within more active path (resolve active reference)
unfolding tree_within
led_is zero active path reference = refl
led_is (suc more) active path reference = refl

pub document_is : (more : ℕ) (active : List Active) (path : List ℕ) (d : Document)
    → linked (led_within more active path) (placed (resolve active) d) ≡ replaced (tree_within more active path) d
document_is more active path = linked_is (led_within more active path) (resolve active) (tree_within more active path) (led_is more active path)

-- ---- what is held

held_is : (documents : List Finding) (place : ℕ) → held documents place ≡ get_or documents place NotLooked
held_is [] place = refl
held_is (o ∷ os) zero = refl
held_is (o ∷ os) (suc place) = held_is os place

pub set_has : (documents : List Finding) (place : ℕ) (d : Option Placed) → place < length documents → HasPlaced documents place d (slice_set documents place (Looked d))
set_has documents place d within other = held_is (slice_set documents place (Looked d)) other ∙ by_case (other == place) refl where
  by_case : (b : Bool) → (other == place) ≡ b → get_or (slice_set documents place (Looked d)) other NotLooked ≡ (if b then Looked d else held documents other)
  by_case true same = ap (λ p. get_or (slice_set documents place (Looked d)) p NotLooked) (eqb-true other place same) ∙ get_or-set_same documents place (Looked d) NotLooked within
  by_case false differ = get_or-set_other documents place other (Looked d) NotLooked (λ z. grind (arith, nat_tests, differ, z)) ∙ sym (held_is documents other)

pub has_after : (a b c : List Finding) (place : ℕ) (d : Option Placed) → SamePlaced a b → HasPlaced b place d c → HasPlaced a place d c
has_after a b c place d same has other = has other ∙ ap (λ o. if other == place then Looked d else o) (same other)

pub right_same : (active : List Active) (a b : List Finding) → AreRight active a → SamePlaced a b → AreRight active b
right_same active a b right same place d there = right place d (sym (same place) ∙ there)

-- what was found, of a place that was looked at
abbrev found_or : Option Placed → Finding → Option Placed
found_or other NotLooked = other
found_or other (Looked found) = found

pub right_put : (active : List Active) (a b : List Finding) (place : ℕ) (d : Option Placed) → AreRight active a → placed_at active place ≡ d → HasPlaced a place d b → AreRight active b
right_put active a b place d right here has other e there = by_case (other == place) refl where
  by_case : (c : Bool) → (other == place) ≡ c → placed_at active other ≡ e
  by_case true same =
      let at : other ≡ place = eqb-true other place same in
      let put : Looked e ≡ Looked d = sym there ∙ has other ∙ ap (λ c. if c then Looked d else held a other) same in
      let same_found : e ≡ d = ap (found_or e) put in
      ap (placed_at active) at ∙ here ∙ sym same_found
  by_case false differ = right other e (ap (λ c. if c then Looked d else held a other) (sym differ) ∙ sym (has other) ∙ there)

-- what is looked up stands at the place
pub found_at : (active : List Active) (place : ℕ) (looked_up : Option (Bor Active)) (found : Bor Active) → IsItemAt active place looked_up → looked_up ≡ Some found → slice_get active place ≡ Some found.now
found_at active place None found at is = absurd (let f : None ≡ Some found = is in cc)
found_at active place (Some other) found at is =
    let same : other ≡ found = (let f : Some other ≡ Some found = is in cc) in
    slice_get-get_or active place other.now at.3.0 ∙ ap Some (sym at.1 ∙ ap (λ (b : Bor Active). b.now) same)

-- what was read stands there
pub placed_is : (active : List Active) (place : ℕ) (parsed : Parsed) (document : Placed) → document_at active place ≡ Some parsed
    → document ≡ placed (resolve active) parsed.document → placed_at active place ≡ Some document
placed_is active place parsed document at is = ap (λ o. option_map (λ (p : Parsed). placed (resolve active) p.document) o) at ∙ ap Some (sym is)

pub none_is : (active : List Active) (place : ℕ) → document_at active place ≡ None → placed_at active place ≡ None
none_is active place at = ap (λ o. option_map (λ (p : Parsed). placed (resolve active) p.document) o) at
