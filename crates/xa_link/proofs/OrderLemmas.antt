-- The first document that doesn't stand before those that fit is the one for which a reference stands, if it fits.
use Rattle.std.proofs.Common.{◌≡◌, ℕ, ◌<◌, ◌≤◌, Bool, true, false, ◌⊎◌, inl, inr, List, length, get_or, refl, sym, ap, subst, ◌∙◌, arith, rules, Option, Some, None}
use Rattle.std.specs.Prelude.{slice_get}
use Rattle.std.specs.List.{AllWithin, Contains}
use Rattle.std.specs.List.Sorted.{IsNonDecreasingBy, IsPartitionedBy, IsSorted}
use Rattle.std.specs.Ordering.{is_gt, is_lt, nat_cmp, ordering_index, ordering_reverse, ordering_then}
use Rattle.std.specs.declared.cmp.Ordering.{Ordering}
use Rattle.std.specs.declared.cmp.Ordering.TheVariants.{Less, Equal, Greater}
use Rattle.std.specs.Cmp.Lexicographic.{slice_cmp}
use Rattle.std.specs.Option.{option_cmp}
use Rattle.std.proofs.lemmas.Bool.{cases_lt, eqb-true, true≢false}
use Rattle.std.proofs.lemmas.Cmp.{nat_list_cmp_total, tied_itself}
use Rattle.std.proofs.lemmas.List.Sorted.{searchable_from_sorted}
use Rattle.std.proofs.lemmas.Map.Views.{Contains-from_any}
use Rattle.std.proofs.lemmas.Option.{slice_get-get_or, slice_get_within}
use Rattle.xa_policy.specs.declared.pattern.PatternPart.{PatternPart}
use Rattle.xa_policy.specs.declared.reference.Reference.{Reference}
use Rattle.xa_link.specs.declared.active.Active.{Active}
use Rattle.xa_link.specs.placing.Order.{IsOrder, compare_documents, compare_groups, compare_places, group_of, standing}
use Rattle.xa_link.specs.Resolution.{fits, resolve}
use Rattle.xa_link.proofs.ResolutionLemmas.{IsResolved, resolved}
use Rattle.xa_link.proofs.StandingLemmas.{among_fits, fits_among, first_at_most, fitting, found_up, greater_up, groups_total, less_down, places_total}

-- the document fits, if there is one
abbrev fits_found : Reference → Option Active → Bool
fits_found reference None = false
fits_found reference (Some document) = fits reference document

-- the document at the place fits
abbrev fits_at : List Active → Reference → ℕ → Bool
fits_at active reference place = fits_found reference (slice_get active place)

-- ---- places in order

-- of two places in order the first is no later
in_order : (pattern : Option (List PatternPart)) (active : List Active) (order : List ℕ) → IsSorted (compare_places pattern active) order → (i j d : ℕ) → i ≤ j → j < length order
    → ordering_index (compare_places pattern active (get_or order i d) (get_or order j d)) ≤ 1
in_order pattern active order sorted i j d le lt =
    let up = searchable_from_sorted (places_total pattern active) (λ p. p) order (get_or order j d) sorted i j d le lt in
    let same : ordering_index (compare_places pattern active (get_or order j d) (get_or order j d)) ≡ 1 = ap ordering_index (tied_itself (places_total pattern active) (get_or order j d)) in
    omega (arith, up, same)

-- the places go from those before what fits to those behind it
falling : (active : List Active) (reference : Reference) (order : List ℕ) → IsOrder reference.version active order
    → IsNonDecreasingBy (λ place. ordering_index (standing reference (slice_get active place))) order
falling active reference order is i j d le lt =
    found_up reference (slice_get active (get_or order i d)) (slice_get active (get_or order j d))
    (first_at_most (option_cmp (compare_documents reference.version) (slice_get active (get_or order j d)) (slice_get active (get_or order i d))) (nat_cmp (get_or order i d) (get_or order j d))
    (in_order reference.version active order is.sorted i j d le lt))

-- what fits is neither before what fits nor behind it
fits_found_among : (reference : Reference) (o : Option Active) → fits_found reference o ≡ true → standing reference o ≡ Equal
fits_found_among reference None e = absurd (true≢false (sym e))
fits_found_among reference (Some d) e = fits_among reference d e

among_found_fits : (reference : Reference) (o : Option Active) → standing reference o ≡ Equal → fits_found reference o ≡ true
among_found_fits reference None e = absurd (let f : Greater ≡ Equal = e in cc)
among_found_fits reference (Some d) e = among_fits reference d e

unfit_if : (b : Bool) (a : Ordering) → (b ≡ true → a ≡ Equal) → is_lt a ≡ true → b ≡ false
unfit_if true a f e = absurd (true≢false (sym e ∙ ap is_lt (f refl)))
unfit_if false a f e = refl

unfit_if_behind : (b : Bool) (a : Ordering) → (b ≡ true → a ≡ Equal) → is_gt a ≡ true → b ≡ false
unfit_if_behind true a f e = absurd (true≢false (sym e ∙ ap is_gt (f refl)))
unfit_if_behind false a f e = refl

unfit_before : (active : List Active) (reference : Reference) (place : ℕ) → is_lt (standing reference (slice_get active place)) ≡ true → fits_at active reference place ≡ false
unfit_before active reference place e =
    unfit_if (fits_at active reference place) (standing reference (slice_get active place)) (fits_found_among reference (slice_get active place)) e

unfit_behind : (active : List Active) (reference : Reference) (place : ℕ) → is_gt (standing reference (slice_get active place)) ≡ true → fits_at active reference place ≡ false
unfit_behind active reference place e =
    unfit_if_behind (fits_at active reference place) (standing reference (slice_get active place)) (fits_found_among reference (slice_get active place)) e

-- places before the start are before those behind it
pub parted : (active : List Active) (reference : Reference) (order : List ℕ) → IsOrder reference.version active order → IsPartitionedBy (λ p. is_lt (standing reference (slice_get active p))) order
parted active reference order is i j d le lt e =
    less_down (standing reference (slice_get active (get_or order i d))) (standing reference (slice_get active (get_or order j d))) (falling active reference order is i j d le lt) e

-- ---- the first that fits

module _ (active : List Active) (order : List ℕ) (reference : Reference) (is : IsOrder reference.version active order) where
  here : (k : ℕ) (d : Active) → k < length active → slice_get active k ≡ Some (get_or active k d)
  here k d h = slice_get-get_or active k d h

  fits_here : (k : ℕ) (d : Active) → k < length active → fits_at active reference k ≡ fits reference (get_or active k d)
  fits_here k d h = ap (fits_found reference) (here k d h)

  place_of : (k : ℕ) → k < length active → Contains order k
  place_of k h = Contains-from_any eqb-true k order (is.all k h)

  fitting_within : (o : Option Active) → fits_found reference o ≡ true → (d : Active) × (o ≡ Some d)
  fitting_within None e = absurd (true≢false (sym e))
  fitting_within (Some d) e = (d, refl)

  -- of two that fit, where the place of the first comes no later
  versions : (b k : ℕ) (x y : Active) → slice_get active b ≡ Some x → slice_get active k ≡ Some y → fits reference x ≡ true → fits reference y ≡ true
      → ordering_index (compare_places reference.version active b k) ≤ 1 → ordering_index (ordering_then (slice_cmp nat_cmp y.version x.version) (nat_cmp b k)) ≤ 1
  versions b k x y at_b at_k fits_x fits_y h =
      let groups : compare_groups (group_of reference.version y) (group_of reference.version x) ≡ Equal =
      ap (λ g. compare_groups g (group_of reference.version x)) (sym (fitting reference y fits_y).group ∙ (fitting reference x fits_x).group) ∙ tied_itself groups_total (group_of reference.version x) in
      let found : option_cmp (compare_documents reference.version) (slice_get active k) (slice_get active b) ≡ slice_cmp nat_cmp y.version x.version =
      ap (λ o. option_cmp (compare_documents reference.version) o (slice_get active b)) at_k ∙ ap (option_cmp (compare_documents reference.version) (Some y)) at_b
      ∙ ap (λ a. ordering_then a (slice_cmp nat_cmp y.version x.version)) groups in
      subst (λ a. ordering_index (ordering_then a (nat_cmp b k)) ≤ 1) found h

  no_later_version : (o : Ordering) → ordering_index o ≤ 1 → is_lt (ordering_reverse o) ≡ false
  no_later_version Less h = refl
  no_later_version Equal h = refl
  no_later_version Greater h = absurd (omega (arith, h))

  earlier_version : (a b : Ordering) → ordering_index (ordering_then a b) ≤ 1 → b ≡ Greater → is_lt a ≡ true
  earlier_version Less b h e = refl
  earlier_version Equal b h e = absurd (let i : ordering_index b ≡ 2 = ap ordering_index e in omega (arith, h, i))
  earlier_version Greater b h e = absurd (omega (arith, h))

  module _ (b i : ℕ) (within : i < length order) (at_i : (d : ℕ) → get_or order i d ≡ b) (passes : fits_at active reference b ≡ true)
      (fails : (j d : ℕ) → j < i → fits_at active reference (get_or order j d) ≡ false) where
    found : (d : Active) × (slice_get active b ≡ Some d)
    found = fitting_within (slice_get active b) passes

    there : b < length active
    there = slice_get_within active b found.0 found.1

    fits_there : (d : Active) → fits reference (get_or active b d) ≡ true
    fits_there d = sym (fits_here b d there) ∙ passes

    compared : (k : ℕ) (d : Active) → k < length active → fits reference (get_or active k d) ≡ true
        → ordering_index (ordering_then (slice_cmp nat_cmp (get_or active k d).version (get_or active b d).version) (nat_cmp b k)) ≤ 1
    compared k d h fit = by_order (cases_lt (place_of k h).0 i)
      where
        j : ℕ
        j = (place_of k h).0

        at_j : get_or order j k ≡ k
        at_j = (place_of k h).2

        by_order : (j < i) ⊎ (i ≤ j) → ordering_index (ordering_then (slice_cmp nat_cmp (get_or active k d).version (get_or active b d).version) (nat_cmp b k)) ≤ 1
        by_order (inl before) = absurd (true≢false (sym fit ∙ sym (fits_here k d h) ∙ ap (fits_at active reference) (sym at_j) ∙ fails j k before))
        by_order (inr not_before) =
            versions b k (get_or active b d) (get_or active k d) (here b d there) (here k d h) (fits_there d) fit
            (subst (λ p. ordering_index (compare_places reference.version active p k) ≤ 1) (at_i k)
            (subst (λ p. ordering_index (compare_places reference.version active (get_or order i k) p) ≤ 1) at_j (in_order reference.version active order is.sorted i j k not_before (place_of k h).1)))

    after : (k : ℕ) → k < b → nat_cmp b k ≡ Greater
    after k h = search (rules, h)

    found_resolved : IsResolved reference active (length active) (Some b)
    found_resolved = (
      there,
      fits_there,
      λ k d h fit.
          ap is_lt (nat_list_cmp_total.antisymm (get_or active b d).version (get_or active k d).version)
          ∙ no_later_version (slice_cmp nat_cmp (get_or active k d).version (get_or active b d).version)
          (first_at_most (slice_cmp nat_cmp (get_or active k d).version (get_or active b d).version) (nat_cmp b k) (compared k d h fit)),
      λ k d h fit. earlier_version (slice_cmp nat_cmp (get_or active k d).version (get_or active b d).version) (nat_cmp b k) (compared k d (omega (arith, h, there)) fit) (after k h),
    )

  none_resolved : ((j d : ℕ) → j < length order → fits_at active reference (get_or order j d) ≡ false) → None ≡ resolve active reference
  none_resolved none = resolved reference active None (λ k d h.
      let at = place_of k h in
      sym (fits_here k d h) ∙ ap (fits_at active reference) (sym at.2) ∙ none at.0 k at.1)

  equal_if : (o : Ordering) → is_lt o ≡ false → is_gt o ≡ false → o ≡ Equal
  equal_if Less e f = absurd (true≢false e)
  equal_if Equal e f = refl
  equal_if Greater e f = absurd (true≢false f)

  -- those before the start stand before what fits
  module _ (start : ℕ) (before : AllWithin (λ p. is_lt (standing reference (slice_get active p)) ≡ true) order 0 start) where
    unfit_up_to : (j d : ℕ) → j < start → fits_at active reference (get_or order j d) ≡ false
    unfit_up_to j d h = unfit_before active reference (get_or order j d) (before j d (omega arith) h)

    -- where nothing is left, none fits
    pub at_end : length order ≤ start → None ≡ resolve active reference
    at_end end = none_resolved (λ j d h. unfit_up_to j d (omega (arith, h, end)))

    -- where the first that is left stands behind what fits, none does
    pub behind : (place : ℕ) → start < length order → ((d : ℕ) → get_or order start d ≡ place) → is_gt (standing reference (slice_get active place)) ≡ true → None ≡ resolve active reference
    behind place within at e = none_resolved (λ j d h. by_order j d h (cases_lt j start))
      where
        by_order : (j d : ℕ) → j < length order → (j < start) ⊎ (start ≤ j) → fits_at active reference (get_or order j d) ≡ false
        by_order j d h (inl before_start) = unfit_up_to j d before_start
        by_order j d h (inr not_before) =
            unfit_behind active reference (get_or order j d)
            (greater_up (standing reference (slice_get active (get_or order start d))) (standing reference (slice_get active (get_or order j d))) (falling active reference order is start j d not_before h)
            (ap (λ p. is_gt (standing reference (slice_get active p))) (at d) ∙ e))

    -- the first that is left fits, where it is neither before what fits nor behind it
    pub at_start : (place : ℕ) → start < length order → ((d : ℕ) → get_or order start d ≡ place) → is_lt (standing reference (slice_get active place)) ≡ false
        → is_gt (standing reference (slice_get active place)) ≡ false → Some place ≡ resolve active reference
    at_start place within at not_before not_behind =
        resolved reference active (Some place) (found_resolved place start within at
        (among_found_fits reference (slice_get active place) (equal_if (standing reference (slice_get active place)) not_before not_behind)) unfit_up_to)
