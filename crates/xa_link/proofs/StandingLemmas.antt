-- Along the order of documents, those before the ones that fit a reference come first, and those behind them last.
use Rattle.std.proofs.Common.{◌≡◌, ℕ, ◌≤◌, Bool, true, false, List, [], ◌∷◌, refl, sym, ap, subst, ◌∙◌, arith, bytes_eq, slice_get, Option, Some, None}
use Rattle.std.specs.Prelude.{not, ◌&&◌, ◌==◌, if◌then◌else◌}
use Rattle.std.specs.Cmp.{IsTotalOrder, nat_cmp_total, on_total, then_total, back_total}
use Rattle.std.specs.Cmp.Lexicographic.{on_texts, options_total, slice_cmp}
use Rattle.std.specs.Option.{option_cmp}
use Rattle.std.specs.Ordering.{is_eq, is_gt, is_lt, nat_cmp, ordering_index, ordering_reverse, ordering_then}
use Rattle.std.specs.declared.cmp.Ordering.{Ordering}
use Rattle.std.specs.declared.cmp.Ordering.TheVariants.{Less, Equal, Greater}
use Rattle.std.proofs.lemmas.Bool.{and_parts, eqb-true, true≢false}
use Rattle.std.proofs.lemmas.Bool.Decides.{nat_tests}
use Rattle.std.proofs.lemmas.Cmp.{nat_list_cmp_total, ranked, tied_itself}
use Rattle.std.proofs.lemmas.Map.Text.{is_eq-slice_cmp}
use Rattle.std.proofs.lemmas.Slice.Eq.{bytes_eq-Decides}
use Rattle.xa_policy.specs.declared.pattern.PatternPart.{PatternPart}
use Rattle.xa_policy.specs.declared.pattern.PatternPart.TheVariants.{Number, AnyNumber, AnyNumbers}
use Rattle.xa_policy.specs.declared.reference.DocumentKind.{DocumentKind}
use Rattle.xa_policy.specs.declared.reference.DocumentKind.TheVariants.{Policy, PolicySet}
use Rattle.xa_policy.specs.declared.reference.Reference.{Reference}
use Rattle.xa_link.specs.declared.active.Active.{Active}
use Rattle.xa_policy.specs.DocumentKey.{place_of_kind, same_kind}
use Rattle.xa_policy.specs.Version.{is_before}
use Rattle.xa_link.specs.placing.Order.{Group, Name, by_bounds, compare_documents, compare_groups, compare_names, compare_places, group_of, group_wanted, name, name_of, standing, standing_of}
use Rattle.xa_link.specs.placing.Seen.{seen, seen_by, wanted, wanted_by}
use Rattle.xa_link.specs.Resolution.{fits, fits_pattern, matches, not_after, not_before}

-- ---- total orders

pub names_total : IsTotalOrder compare_names
names_total = then_total (on_total (λ (n : Name). n.rank) nat_cmp_total) (on_texts (λ (n : Name). n.id))

pub groups_total : IsTotalOrder compare_groups
groups_total = then_total (on_texts (λ (g : Group). g.version)) (on_total (λ (g : Group). g.name) names_total)

pub documents_total : (pattern : Option (List PatternPart)) → IsTotalOrder (compare_documents pattern)
documents_total pattern = then_total (on_total (group_of pattern) groups_total) (on_texts (λ (d : Active). d.version))

pub places_total : (pattern : Option (List PatternPart)) (active : List Active) → IsTotalOrder (compare_places pattern active)
places_total pattern active = then_total (back_total (on_total (slice_get active) (options_total (documents_total pattern)))) nat_cmp_total

-- ---- orderings

at_most_two : (o : Ordering) → ordering_index o ≤ 2
at_most_two Less = omega arith
at_most_two Equal = omega arith
at_most_two Greater = omega arith

pub first_at_most : (a b : Ordering) → ordering_index (ordering_then a b) ≤ 1 → ordering_index a ≤ 1
first_at_most Less b h = omega arith
first_at_most Equal b h = omega arith
first_at_most Greater b h = h

then_up : (a x y : Ordering) → ordering_index x ≤ ordering_index y → ordering_index (ordering_then a x) ≤ ordering_index (ordering_then a y)
then_up Less x y h = omega arith
then_up Equal x y h = h
then_up Greater x y h = omega arith

pub greater_up : (a b : Ordering) → ordering_index a ≤ ordering_index b → is_gt a ≡ true → is_gt b ≡ true
greater_up Less b h e = absurd (true≢false (sym e))
greater_up Equal b h e = absurd (true≢false (sym e))
greater_up Greater Less h e = absurd (omega (arith, h))
greater_up Greater Equal h e = absurd (omega (arith, h))
greater_up Greater Greater h e = e

pub less_down : (a b : Ordering) → ordering_index a ≤ ordering_index b → is_lt b ≡ true → is_lt a ≡ true
less_down Less b h e = refl
less_down Equal Less h e = absurd (omega (arith, h))
less_down Equal Equal h e = e
less_down Equal Greater h e = e
less_down Greater Less h e = absurd (omega (arith, h))
less_down Greater Equal h e = absurd (omega (arith, h))
less_down Greater Greater h e = e

is_less : (o : Ordering) → is_lt o ≡ true → o ≡ Less
is_less Less e = refl
is_less Equal e = absurd (true≢false (sym e))
is_less Greater e = absurd (true≢false (sym e))

-- ---- along a total order, what stands to one thing

module _ {K : Type 0} {A : K → K → Ordering} (o : IsTotalOrder A) (n m r : K) where
  -- what is strictly less stands no later
  pub strictly_up : A n m ≡ Less → (x y : Ordering) → ordering_index (ordering_then (A n r) x) ≤ ordering_index (ordering_then (A m r) y)
  strictly_up less x y = by_both (A n r) (A m r) refl refl
    where
      by_both : (a b : Ordering) → A n r ≡ a → A m r ≡ b → ordering_index (ordering_then a x) ≤ ordering_index (ordering_then b y)
      by_both Less b e f = omega arith
      by_both Equal Greater e f = at_most_two x
      by_both Greater Greater e f = omega arith
      by_both Equal Equal e f =
          let back : A r m ≡ Equal = o.antisymm r m ∙ ap ordering_reverse f in
          let same : A m r ≡ A n r = f ∙ sym e in
          let turned : A n m ≡ A r m = o.congr n r m e in
          absurd (let f : Less ≡ Equal = sym less ∙ turned ∙ back in cc)
      by_both Equal Less e f =
          let back : A r m ≡ Greater = o.antisymm r m ∙ ap ordering_reverse f in
          let turned : A n m ≡ A r m = o.congr n r m e in
          absurd (let f : Less ≡ Greater = sym less ∙ turned ∙ back in cc)
      by_both Greater Equal e f =
          let turned : A m n ≡ A r n = o.congr m r n f in
          let back : A m n ≡ Greater = o.antisymm m n ∙ ap ordering_reverse less in
          let other : A r n ≡ Less = o.antisymm r n ∙ ap ordering_reverse e in
          absurd (let f : Less ≡ Greater = sym other ∙ sym turned ∙ back in cc)
      by_both Greater Less e f = absurd (let g : Less ≡ Greater = sym (o.trans n m r less f) ∙ e in cc)

  -- and so does what is no greater
  pub no_later : ordering_index (A n m) ≤ 1 → ordering_index (A n r) ≤ ordering_index (A m r)
  no_later h = by_order (A n m) refl h
    where
      whole : (a : Ordering) → ordering_then a Equal ≡ a
      whole Less = refl
      whole Equal = refl
      whole Greater = refl

      by_order : (a : Ordering) → A n m ≡ a → ordering_index a ≤ 1 → ordering_index (A n r) ≤ ordering_index (A m r)
      by_order Less e h =
          let up = strictly_up e Equal Equal in
          subst (λ a. ordering_index a ≤ ordering_index (A m r)) (whole (A n r)) (subst (λ b. ordering_index (ordering_then (A n r) Equal) ≤ ordering_index b) (whole (A m r)) up)
      by_order Equal e h = let same : ordering_index (A n r) ≡ ordering_index (A m r) = ap ordering_index (o.congr n m r e) in omega (arith, same)
      by_order Greater e h = absurd (omega (arith, h))

-- ---- versions

-- w is no later than v
module _ (v w : List ℕ) (up : ordering_index (slice_cmp nat_cmp w v) ≤ 1) where
  twice : (b : Bool) → not (not b) ≡ b
  twice true = refl
  twice false = refl

  past_latest : (latest : Option (List ℕ)) → not (not_after latest w) ≡ true → not (not_after latest v) ≡ true
  past_latest None e = e
  past_latest (Some l) e =
      let from : is_lt (slice_cmp nat_cmp l w) ≡ true = sym (twice (is_before l w)) ∙ e in
      let at_w : slice_cmp nat_cmp w l ≡ Greater = nat_list_cmp_total.antisymm w l ∙ ap ordering_reverse (is_less (slice_cmp nat_cmp l w) from) in
      let above : ordering_index (slice_cmp nat_cmp w l) ≤ ordering_index (slice_cmp nat_cmp v l) = no_later nat_list_cmp_total w v l up in
      let at_v : is_gt (slice_cmp nat_cmp v l) ≡ true = greater_up (slice_cmp nat_cmp w l) (slice_cmp nat_cmp v l) above (ap is_gt at_w) in
      twice (is_before l v) ∙ ap is_lt (nat_list_cmp_total.antisymm l v) ∙ turned (slice_cmp nat_cmp v l) ∙ at_v
    where
      turned : (o : Ordering) → is_lt (ordering_reverse o) ≡ is_gt o
      turned Less = refl
      turned Equal = refl
      turned Greater = refl

  before_earliest : (earliest : Option (List ℕ)) → not (not_before earliest v) ≡ true → not (not_before earliest w) ≡ true
  before_earliest None e = e
  before_earliest (Some l) e =
      twice (is_before w l) ∙ less_down (slice_cmp nat_cmp w l) (slice_cmp nat_cmp v l) (no_later nat_list_cmp_total w v l up) (sym (twice (is_before v l)) ∙ e)

  by_tests : (a b c d : Bool) → (c ≡ true → a ≡ true) → (b ≡ true → d ≡ true)
      → ordering_index (if a then Less else if b then Greater else Equal) ≤ ordering_index (if c then Less else if d then Greater else Equal)
  by_tests true b c d f g = omega arith
  by_tests false b true d f g = absurd (true≢false (sym (f refl)))
  by_tests false true false true f g = omega arith
  by_tests false true false false f g = absurd (true≢false (sym (g refl)))
  by_tests false false false true f g = omega arith
  by_tests false false false false f g = omega arith

  pub versions_up : (reference : Reference) → ordering_index (by_bounds reference v) ≤ ordering_index (by_bounds reference w)
  versions_up reference =
      by_tests (not (not_after reference.latest v)) (not (not_before reference.earliest v)) (not (not_after reference.latest w)) (not (not_before reference.earliest w))
      (past_latest reference.latest) (before_earliest reference.earliest)

-- ---- documents

pub documents_up : (reference : Reference) (d e : Active) → ordering_index (compare_documents reference.version e d) ≤ 1 → ordering_index (standing_of reference d) ≤ ordering_index (standing_of reference e)
documents_up reference d e h = by_groups (compare_groups there here) refl h
  where
    -- the groups of the two, and the one that is wanted
    here : Group
    here = group_of reference.version d

    there : Group
    there = group_of reference.version e

    by_groups : (a : Ordering) → compare_groups there here ≡ a → ordering_index (ordering_then a (slice_cmp nat_cmp e.version d.version)) ≤ 1
        → ordering_index (ordering_then (compare_groups (group_wanted reference) here) (by_bounds reference d.version))
        ≤ ordering_index (ordering_then (compare_groups (group_wanted reference) there) (by_bounds reference e.version))
    by_groups Less is h =
        strictly_up (back_total groups_total) here there (group_wanted reference) is (by_bounds reference d.version) (by_bounds reference e.version)
    by_groups Equal is h =
        let same : compare_groups (group_wanted reference) here ≡ compare_groups (group_wanted reference) there =
        (back_total groups_total).congr here there (group_wanted reference) is in
        subst (λ b. ordering_index (ordering_then (compare_groups (group_wanted reference) here) (by_bounds reference d.version)) ≤ ordering_index (ordering_then b (by_bounds reference e.version))) same
        (then_up (compare_groups (group_wanted reference) here) (by_bounds reference d.version) (by_bounds reference e.version) (versions_up d.version e.version h reference))
    by_groups Greater is h = absurd (omega (arith, h))

pub found_up : (reference : Reference) (d e : Option Active) → ordering_index (option_cmp (compare_documents reference.version) e d) ≤ 1 → ordering_index (standing reference d) ≤ ordering_index (standing reference e)
found_up reference None None h = omega arith
found_up reference None (Some e) h = absurd (omega (arith, h))
found_up reference (Some d) None h = at_most_two (standing_of reference d)
found_up reference (Some d) (Some e) h = documents_up reference d e h

-- ---- what fits is what is neither before what fits nor behind it

matches_wanted : (parts : List PatternPart) (v : List ℕ) → matches parts v ≡ true → wanted parts ≡ seen parts v
matches_wanted [] [] e = refl
matches_wanted [] (n ∷ v) e = absurd (true≢false (sym e))
matches_wanted (Number m ∷ parts) [] e = absurd (true≢false (sym e))
matches_wanted (Number m ∷ parts) (n ∷ v) e =
    let both = and_parts (m == n) (matches parts v) e in
    ap (λ k. k ∷ wanted parts) (eqb-true m n both.0) ∙ ap (λ ns. n ∷ ns) (matches_wanted parts v both.1)
matches_wanted (AnyNumber ∷ parts) [] e = absurd (true≢false (sym e))
matches_wanted (AnyNumber ∷ parts) (n ∷ v) e = ap (λ ns. 0 ∷ ns) (matches_wanted parts v e)
matches_wanted (AnyNumbers ∷ parts) [] e = absurd (true≢false (sym e))
matches_wanted (AnyNumbers ∷ parts) (n ∷ v) e = refl

pattern_wanted : (pattern : Option (List PatternPart)) (v : List ℕ) → fits_pattern pattern v ≡ true → wanted_by pattern ≡ seen_by pattern v
pattern_wanted None v e = refl
pattern_wanted (Some parts) v e = matches_wanted parts v e

kinds_alike : (a b : DocumentKind) → same_kind a b ≡ true → place_of_kind a ≡ place_of_kind b
kinds_alike Policy Policy e = refl
kinds_alike Policy PolicySet e = absurd (true≢false (sym e))
kinds_alike PolicySet Policy e = absurd (true≢false (sym e))
kinds_alike PolicySet PolicySet e = refl

-- what fits, in parts
pub record Fitting (reference : Reference) (d : Active) : Type 0 where
  pub group : group_wanted reference ≡ group_of reference.version d
  pub earliest : not_before reference.earliest d.version ≡ true
  pub latest : not_after reference.latest d.version ≡ true

pub fitting : (reference : Reference) (d : Active) → fits reference d ≡ true → Fitting reference d
fitting reference d e =
    let latest = and_parts _ (not_after reference.latest d.version) e in
    let earliest = and_parts _ (not_before reference.earliest d.version) latest.0 in
    let pattern = and_parts _ (fits_pattern reference.version d.version) earliest.0 in
    let id = and_parts (same_kind reference.kind d.kind) (bytes_eq reference.id d.id) pattern.0 in
    record {
      group =
          ap (λ v. record { version = v; name = name reference.kind reference.id }) (pattern_wanted reference.version d.version pattern.1)
          ∙ ap (λ k. record { version = seen_by reference.version d.version; name = record { rank = k; id = reference.id } }) (kinds_alike reference.kind d.kind id.0)
          ∙ ap (λ i. record { version = seen_by reference.version d.version; name = record { rank = place_of_kind d.kind; id = i } }) ((bytes_eq-Decides reference.id d.id).0 id.1);
      earliest = earliest.1;
      latest = latest.1;
    }

pub fits_among : (reference : Reference) (d : Active) → fits reference d ≡ true → standing_of reference d ≡ Equal
fits_among reference d e =
    let parts = fitting reference d e in
    let groups : compare_groups (group_wanted reference) (group_of reference.version d) ≡ Equal =
    ap (λ g. compare_groups g (group_of reference.version d)) parts.group ∙ tied_itself groups_total (group_of reference.version d) in
    ap (λ a. ordering_then a (by_bounds reference d.version)) groups
    ∙ ap (λ b. if not b then Less else if not (not_before reference.earliest d.version) then Greater else Equal) parts.latest
    ∙ ap (λ b. if not b then Greater else Equal) parts.earliest

then_equal : (a b : Ordering) → ordering_then a b ≡ Equal → (a ≡ Equal) × (b ≡ Equal)
then_equal Less b e = absurd (let f : Less ≡ Equal = e in cc)
then_equal Equal b e = (refl, e)
then_equal Greater b e = absurd (let f : Greater ≡ Equal = e in cc)

seen_matches : (parts : List PatternPart) (v : List ℕ) → slice_cmp nat_cmp (wanted parts) (seen parts v) ≡ Equal → matches parts v ≡ true
seen_matches [] [] e = refl
seen_matches [] (n ∷ v) e = absurd (let f : Less ≡ Equal = e in cc)
seen_matches (Number m ∷ parts) [] e = absurd (let f : Greater ≡ Equal = e in cc)
seen_matches (Number m ∷ parts) (n ∷ v) e =
    let both = then_equal (nat_cmp m n) (slice_cmp nat_cmp (wanted parts) (seen parts v)) e in
    let same : m ≡ n = ranked m n Equal (sym both.0) in
    let tests : (m == n) ≡ true = grind (arith, nat_tests, same) in
    ap (λ b. b && matches parts v) tests ∙ seen_matches parts v both.1
seen_matches (AnyNumber ∷ parts) [] e = absurd (let f : Greater ≡ Equal = e in cc)
seen_matches (AnyNumber ∷ parts) (n ∷ v) e = seen_matches parts v e
seen_matches (AnyNumbers ∷ parts) [] e = absurd (let f : Greater ≡ Equal = e in cc)
seen_matches (AnyNumbers ∷ parts) (n ∷ v) e = refl

seen_fits : (pattern : Option (List PatternPart)) (v : List ℕ) → slice_cmp nat_cmp (wanted_by pattern) (seen_by pattern v) ≡ Equal → fits_pattern pattern v ≡ true
seen_fits None v e = refl
seen_fits (Some parts) v e = seen_matches parts v e

kinds_same : (a b : DocumentKind) → nat_cmp (place_of_kind a) (place_of_kind b) ≡ Equal → same_kind a b ≡ true
kinds_same Policy Policy e = refl
kinds_same Policy PolicySet e = absurd (let f : Less ≡ Equal = e in cc)
kinds_same PolicySet Policy e = absurd (let f : Greater ≡ Equal = e in cc)
kinds_same PolicySet PolicySet e = refl

bounds_hold : (a b : Bool) → (if not a then Less else if not b then Greater else Equal) ≡ Equal → (a ≡ true) × (b ≡ true)
bounds_hold false b e = absurd (let f : Less ≡ Equal = e in cc)
bounds_hold true false e = absurd (let f : Greater ≡ Equal = e in cc)
bounds_hold true true e = (refl, refl)

pub among_fits : (reference : Reference) (d : Active) → standing_of reference d ≡ Equal → fits reference d ≡ true
among_fits reference d e =
    let parts = then_equal (compare_groups (group_wanted reference) (group_of reference.version d)) (by_bounds reference d.version) e in
    let group = then_equal (slice_cmp nat_cmp (wanted_by reference.version) (seen_by reference.version d.version)) (compare_names (name reference.kind reference.id) (name_of d)) parts.0 in
    let names = then_equal (nat_cmp (place_of_kind reference.kind) (place_of_kind d.kind)) (slice_cmp nat_cmp reference.id d.id) group.1 in
    let bounds = bounds_hold (not_after reference.latest d.version) (not_before reference.earliest d.version) parts.1 in
    let kind : same_kind reference.kind d.kind ≡ true = kinds_same reference.kind d.kind names.0 in
    let id : bytes_eq reference.id d.id ≡ true = sym (is_eq-slice_cmp reference.id d.id) ∙ ap is_eq names.1 in
    let pattern : fits_pattern reference.version d.version ≡ true = seen_fits reference.version d.version group.0 in
    all_hold (same_kind reference.kind d.kind) (bytes_eq reference.id d.id) (fits_pattern reference.version d.version) (not_before reference.earliest d.version) (not_after reference.latest d.version)
    kind id pattern bounds.1 bounds.0
  where
    all_hold : (a b c d e : Bool) → a ≡ true → b ≡ true → c ≡ true → d ≡ true → e ≡ true → (a && b && c && d && e) ≡ true
    all_hold a b c d e f g h i j = rw (f, g, h, i, j) refl
