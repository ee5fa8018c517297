-- How far a reference can lead, which ends the recursion.
use Rattle.std.proofs.Common.{◌≡◌, ℕ, zero, suc, ◌+◌, ◌*◌, ◌≤◌, List, [], ◌∷◌, map, Option, Some, None, Ok, refl, sym, ap, ◌∙◌, arith}
use Rattle.std.specs.Prelude.{option_and_then, option_map, slice_get}
use Rattle.std.specs.Result.{result_ok}
use denote.Param.Weighed.{most}
use Rattle.xa_policy.specs.declared.linked.Linked.{Linked}
use Rattle.xa_policy.specs.declared.linked.Linked.TheVariants.{Unresolved}
use Rattle.xa_policy.specs.declared.reference.Reference.{Reference}
use Rattle.xa_policy.specs.Policy.{PolicyParts, SetParts}
use Rattle.xa_value.specs.Gives.{◌>>=◌}
use Rattle.xa_notation.specs.declared.document.Parsed.{Parsed}
use Rattle.xa_notation.specs.Document.{document_of}
use Rattle.xa_link.specs.declared.active.Active.{Active}
use Rattle.xa_link.specs.declared.placed.Placed.{Placed}
use Rattle.xa_link.specs.declared.placed.Placed.TheVariants as part
use Rattle.xa_link.proofs.placed.Placed.TheLaws.{the_size}
use Rattle.xa_link.specs.Linking.{document_at, link, replaced_in, tree_at, tree_within, unless_circular}
use Rattle.xa_link.specs.placing.Placed.{led_within, linked, placed, placed_at}
use Rattle.xa_link.specs.Resolution.{resolve}
use Rattle.xa_link.specs.placing.Room.{fitted, policy_fitted, set_fitted}
use Rattle.xa_link.proofs.PlacedLemmas.{document_is, led_is, linked_policy, linked_set, linked_reference}
use Rattle.xa_link.proofs.RoomLemmas.{link_is, policy_fits, set_fits}

-- how deep a document is, and how deep the deepest one
abbrev pub depth_if : List Active → Option Parsed → ℕ
depth_if all None = 0
depth_if all (Some p) = the_size (placed (resolve all) p.document)

abbrev pub depth_of : List Active → Active → ℕ
depth_of all a = depth_if all (result_ok (document_of a.text))

abbrev pub greatest_depth : List Active → ℕ
greatest_depth all = most (depth_of all) all

-- how far a reference can lead, where this many more documents may stand on the path
abbrev pub further : List Active → ℕ → ℕ
further active zero = 0
further active (suc more) = further active more + (4 * greatest_depth active + 4)

-- no document is deeper than the deepest
at_most : (all active : List Active) (place : ℕ) (found : Active) → slice_get active place ≡ Some found → depth_of all found ≤ most (depth_of all) active
at_most all [] place found is = absurd (let f : None ≡ Some found = is in cc)
at_most all (a ∷ rest) zero found is =
    let same : a ≡ found = (let f : Some a ≡ Some found = is in cc) in
    let depth : depth_of all a ≡ depth_of all found = ap (depth_of all) same in
    omega (arith, depth)
at_most all (a ∷ rest) (suc place) found is =
    let below : depth_of all found ≤ most (depth_of all) rest = at_most all rest place found is in
    omega (arith, below)

pub at_greatest : (active : List Active) (place : ℕ) (document : Placed) → placed_at active place ≡ Some document → the_size document ≤ greatest_depth active
at_greatest active place document is = by_found (slice_get active place) refl
  where
    by_read : (a : Active) → slice_get active place ≡ Some a → (r : Option Parsed) → result_ok (document_of a.text) ≡ r
        → option_map (λ (p : Parsed). placed (resolve active) p.document) r ≡ Some document → the_size document ≤ greatest_depth active
    by_read a at None read there = absurd (let f : None ≡ Some document = there in cc)
    by_read a at (Some p) read there =
        let same : placed (resolve active) p.document ≡ document = (let f : Some (placed (resolve active) p.document) ≡ Some document = there in cc) in
        let below : depth_of active a ≤ greatest_depth active = at_most active active place a at in
        let depth : depth_of active a ≡ the_size document = ap (depth_if active) read ∙ ap the_size same in
        omega (arith, below, depth)

    by_found : (o : Option Active) → slice_get active place ≡ o → the_size document ≤ greatest_depth active
    by_found None at = absurd (let f : None ≡ Some document = sym (ap (λ o. option_map (λ (p : Parsed). placed (resolve active) p.document) (option_and_then (λ (a : Active). result_ok (document_of a.text)) o)) at) ∙ is in cc)
    by_found (Some a) at = by_read a at (result_ok (document_of a.text)) refl (sym (ap (λ o. option_map (λ (p : Parsed). placed (resolve active) p.document) (option_and_then (λ (a : Active). result_ok (document_of a.text)) o)) at) ∙ is)

-- nothing stands at the place
pub none_at : (active : List Active) (place : ℕ) (more : ℕ) (path : List ℕ) → placed_at active place ≡ None
    → replaced_in (tree_within more active path) (document_at active place) ≡ Unresolved
none_at active place more path is = by_found (document_at active place) refl
  where
    by_found : (o : Option Parsed) → document_at active place ≡ o → replaced_in (tree_within more active path) (document_at active place) ≡ Unresolved
    by_found None at = ap (replaced_in (tree_within more active path)) at
    by_found (Some a) at = absurd (let f : Some (placed (resolve active) a.document) ≡ None = sym (ap (λ o. option_map (λ (p : Parsed). placed (resolve active) p.document) o) at) ∙ is in cc)

-- the tree of the document that was found, where the path is longer by its place
pub linked_where_found : (more : ℕ) (active : List Active) (place : ℕ) (path longer : List ℕ) (document : Placed) → placed_at active place ≡ Some document → longer ≡ path
    → linked (led_within more active longer) document ≡ replaced_in (tree_within more active path) (document_at active place)
linked_where_found more active place path longer document is is_longer =
    ap (λ p. linked (led_within more active p) document) is_longer ∙ by_found (document_at active place) refl
  where
    by_found : (o : Option Parsed) → document_at active place ≡ o → linked (led_within more active path) document ≡ replaced_in (tree_within more active path) (document_at active place)
    by_found None at = absurd (let f : None ≡ Some document = sym (ap (λ o. option_map (λ (p : Parsed). placed (resolve active) p.document) o) at) ∙ is in cc)
    by_found (Some a) at =
        let there : Some (placed (resolve active) a.document) ≡ Some document = sym (ap (λ o. option_map (λ (p : Parsed). placed (resolve active) p.document) o) at) ∙ is in
        let same : placed (resolve active) a.document ≡ document = cc in
        ap (linked (led_within more active path)) (sym same) ∙ document_is more active path a.document
        ∙ sym (ap (replaced_in (tree_within more active path)) at)

-- a policy and a policy set, for which there is room
pub policy_fits_linked : (below : Option ℕ → Linked) (room : ℕ) (policy : PolicyParts) (d : Placed) → d ≡ part.Policy policy
    → policy_fitted room policy ≡ fitted room (linked below d)
policy_fits_linked below room policy d is = policy_fits room policy ∙ ap (fitted room) (sym (ap (linked below) is ∙ linked_policy below policy))

pub set_fits_linked : (below : Option ℕ → Linked) (room : ℕ) (set : SetParts) (children : List Placed) (d : Placed) → d ≡ part.PolicySet set children
    → set_fitted room set (map (linked below) children) ≡ fitted room (linked below d)
set_fits_linked below room set children d is =
    set_fits room set (map (linked below) children) ∙ ap (fitted room) (sym (ap (linked below) is ∙ linked_set below set children))

-- a reference that leads to nothing: to no further document, or to none that isn't on the path
pub no_further : (more : ℕ) (active : List Active) (path : List ℕ) (place : Option ℕ) (d : Placed) → d ≡ part.Reference place → more ≡ 0
    → linked (led_within more active path) d ≡ Unresolved
no_further more active path place d is end =
    ap (linked (led_within more active path)) is ∙ linked_reference (led_within more active path) place ∙ ap (λ m. led_within m active path place) end

pub nowhere : (more : ℕ) (active : List Active) (path : List ℕ) (place : Option ℕ) (d : Placed) → d ≡ part.Reference place → unless_circular path place ≡ None
    → linked (led_within more active path) d ≡ Unresolved
nowhere more active path place d is none =
    ap (linked (led_within more active path)) is ∙ linked_reference (led_within more active path) place ∙ by_length more where
      by_length : (m : ℕ) → led_within m active path place ≡ Unresolved
      by_length zero = refl
      by_length (suc m) = ap (tree_at (λ next. tree_within m active (next ∷ path)) active) none

-- the whole tree has room for 1,000
pub link_is_led : (active : List Active) (reference : Reference) → link active reference ≡ (fitted 1_000 (led_within 17 active [] (resolve active reference)) >>= (λ f. Ok f.part))
link_is_led active reference = link_is active reference ∙ ap (λ t. fitted 1_000 t >>= (λ f. Ok f.part)) (led_is 17 active [] reference)
