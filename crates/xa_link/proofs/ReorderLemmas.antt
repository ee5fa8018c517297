-- Places in order that are sorted anew by what a pattern sees, so that those that it sees alike stay in order, are in the order for that pattern.
use Rattle.std.proofs.Common.{◌≡◌, ℕ, ◌+◌, true, false, List, get_or, refl, sym, ap, ◌∙◌, slice_get, Option, Some, None}
use Rattle.std.specs.Prelude.{not, ◌&&◌}
use Rattle.std.specs.Cmp.{IsTotalOrder, on_total, back_total}
use Rattle.std.specs.Cmp.Lexicographic.{on_texts, options_total, slice_cmp}
use Rattle.std.specs.List.Sorted.{IsSorted, IsStable, ties}
use Rattle.std.specs.Option.{option_cmp}
use Rattle.std.specs.Ordering.{is_lt, nat_cmp, ordering_then}
use Rattle.std.specs.declared.cmp.Ordering.{Ordering}
use Rattle.std.specs.declared.cmp.Ordering.TheVariants.{Less, Equal, Greater}
use Rattle.std.proofs.lemmas.Bool.{true≢false}
use Rattle.std.proofs.lemmas.Cmp.{tied_back}
use Rattle.std.proofs.lemmas.List.MinMax.{ranks_by}
use Rattle.std.proofs.lemmas.List.Sorted.{ties_stay_sorted}
use Rattle.xa_policy.specs.declared.pattern.PatternPart.{PatternPart}
use Rattle.xa_link.specs.declared.active.Active.{Active}
use Rattle.xa_link.specs.placing.Order.{compare_documents, compare_names, compare_places, compare_seen_found, name_of}
use Rattle.xa_link.specs.placing.Seen.{seen_by}
use Rattle.xa_link.proofs.StandingLemmas.{places_total}

-- how what a pattern sees at two places compares, the greater being the first
abbrev pub compare_seen_places : Option (List PatternPart) → List Active → ℕ → ℕ → Ordering
compare_seen_places pattern active x y = compare_seen_found pattern (slice_get active y) (slice_get active x)

pub seen_total : (pattern : Option (List PatternPart)) (active : List Active) → IsTotalOrder (compare_seen_places pattern active)
seen_total pattern active = back_total (on_total (slice_get active) (options_total (on_texts (λ (d : Active). seen_by pattern d.version))))

by_first : (s n v p : Ordering) → ordering_then (ordering_then (ordering_then s n) v) p ≡ ordering_then s (ordering_then (ordering_then n v) p)
by_first Less n v p = refl
by_first Equal n v p = refl
by_first Greater n v p = refl

-- the order for a pattern is first by what it sees
module _ (pattern : Option (List PatternPart)) where
  found_first : (d e : Option Active) (p : Ordering)
      → ordering_then (option_cmp (compare_documents pattern) d e) p ≡ ordering_then (compare_seen_found pattern d e) (ordering_then (option_cmp (compare_documents None) d e) p)
  found_first None None p = refl
  found_first None (Some e) p = refl
  found_first (Some d) None p = refl
  found_first (Some d) (Some e) p =
      by_first (slice_cmp nat_cmp (seen_by pattern d.version) (seen_by pattern e.version)) (compare_names (name_of d) (name_of e)) (slice_cmp nat_cmp d.version e.version) p

  module _ (active : List Active) where
    seen_first : (x y : ℕ) → compare_places pattern active x y ≡ ordering_then (compare_seen_places pattern active x y) (compare_places None active x y)
    seen_first x y = found_first (slice_get active y) (slice_get active x) (nat_cmp x y)

    pub reordered : (xs ys : List ℕ) → IsSorted (compare_places None active) xs → IsSorted (compare_seen_places pattern active) ys → IsStable (compare_seen_places pattern active) xs ys
        → IsSorted (compare_places pattern active) ys
    reordered xs ys sorted by_seen stable k d low high =
        ap is_lt (seen_first (get_or ys (k + 1) d) (get_or ys k d)) ∙ by_case (compare_seen_places pattern active (get_or ys (k + 1) d) (get_or ys k d)) refl
      where
        by_case : (o : Ordering) → compare_seen_places pattern active (get_or ys (k + 1) d) (get_or ys k d) ≡ o
            → is_lt (ordering_then o (compare_places None active (get_or ys (k + 1) d) (get_or ys k d))) ≡ false
        by_case Less e = absurd (true≢false (sym (ap is_lt e) ∙ by_seen k d low high))
        by_case Greater e = refl
        by_case Equal e =
            let back : compare_seen_places pattern active (get_or ys k d) (get_or ys (k + 1) d) ≡ Equal = tied_back (seen_total pattern active) (get_or ys (k + 1) d) (get_or ys k d) e in
            let tied : ties (λ x y. is_lt (compare_seen_places pattern active x y)) (get_or ys k d) (get_or ys (k + 1) d) ≡ true =
            ap (λ o. not (is_lt o) && not (is_lt (compare_seen_places pattern active (get_or ys (k + 1) d) (get_or ys k d)))) back ∙ ap (λ o. not (is_lt o)) e in
            ties_stay_sorted (λ x y. is_lt (compare_places None active x y)) (λ x y. is_lt (compare_seen_places pattern active x y)) (ranks_by (places_total None active) (λ p. p))
            (ranks_by (seen_total pattern active) (λ p. p)) xs ys sorted stable k d high tied
