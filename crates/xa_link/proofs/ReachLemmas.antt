-- To which documents references lead in so many steps, step by step from the last one.
use Rattle.std.proofs.Common.{◌≡◌, ◌⊎◌, inl, inr, ℕ, zero, suc, ◌+◌, arith, Bool, true, false, ◌==◌, List, [], ◌∷◌, map, Option, Some, None, refl, sym, ap, subst, ◌∙◌}
use Rattle.std.specs.Prelude.{◌||◌, if◌then◌else◌}
use Rattle.std.specs.List.{list_any}
use Rattle.std.proofs.lemmas.Bool.{eq-eqb, eqb-true, false_from_ne_true, or_cases, or_from, or_left, or_right, true≢false}
use Rattle.xa_policy.specs.declared.reference.Reference.{Reference}
use Rattle.xa_notation.specs.declared.document.Document.{Document}
use Rattle.xa_notation.specs.declared.document.Document.TheFolds.{fold-roll-Document, map-Document, ind-Document}
use Rattle.xa_notation.specs.declared.document.Document.TheOpen.{Document-F}
use Rattle.xa_notation.specs.declared.document.Parsed.{Parsed}
use Rattle.xa_link.specs.declared.active.Active.{Active}
use Rattle.xa_link.specs.Linking.{document_at, next_place, unless_circular}
use Rattle.xa_link.specs.placing.Progress.{led_at, led_to_within}
use Rattle.xa_link.specs.placing.Reach.{stands_at}
use Rattle.xa_link.specs.Reading.{is_at_or_below, leads_within, some_reference, some_reference_in, some_step}
use Rattle.xa_link.specs.Resolution.{resolve}
use Rattle.xa_link.proofs.LedLemmas.{led_here}

-- ---- a reference that passes a test

module _ (test : Reference → Bool) where
  abbrev HasOne : Document → Type 0
  HasOne d = some_reference test d ≡ true → (r : Reference) × (test r ≡ true) × ((other : Reference → Bool) → other r ≡ true → some_reference other d ≡ true)

  one_of_children : (ds : List ((d : Document) × HasOne d)) → list_any (λ b. b) (map (some_reference test) (map (λ e. e.0) ds)) ≡ true
      → (r : Reference) × (test r ≡ true) × ((other : Reference → Bool) → other r ≡ true → list_any (λ b. b) (map (some_reference other) (map (λ e. e.0) ds)) ≡ true)
  one_of_children [] passes = absurd (true≢false (sym passes))
  one_of_children (d ∷ ds) passes = by_first (one_of_children ds) (or_cases (some_reference test d.0) (list_any (λ b. b) (map (some_reference test) (map (λ e. e.0) ds))) passes)
    where
      by_first : (list_any (λ b. b) (map (some_reference test) (map (λ e. e.0) ds)) ≡ true
          → (r : Reference) × (test r ≡ true) × ((other : Reference → Bool) → other r ≡ true → list_any (λ b. b) (map (some_reference other) (map (λ e. e.0) ds)) ≡ true))
          → (some_reference test d.0 ≡ true) ⊎ (list_any (λ b. b) (map (some_reference test) (map (λ e. e.0) ds)) ≡ true)
          → (r : Reference) × (test r ≡ true) × ((other : Reference → Bool) → other r ≡ true → list_any (λ b. b) (map (some_reference other) (map (λ e. e.0) (d ∷ ds))) ≡ true)
      by_first others (inl here) =
          let found = d.1 here in
          (found.0, found.1, λ other e. or_left (some_reference other d.0) (list_any (λ b. b) (map (some_reference other) (map (λ e. e.0) ds))) (found.2 other e))
      by_first others (inr behind) =
          let found = others behind in
          (found.0, found.1, λ other e. or_right (some_reference other d.0) (list_any (λ b. b) (map (some_reference other) (map (λ e. e.0) ds))) (found.2 other e))

  one_of_layer : (y : Document-F ((d : Document) × HasOne d))
      → some_step test (map-Document Document Bool (some_reference test) (map-Document ((d : Document) × HasOne d) Document (λ e. e.0) y)) ≡ true
      → (r : Reference) × (test r ≡ true)
      × ((other : Reference → Bool) → other r ≡ true → some_step other (map-Document Document Bool (some_reference other) (map-Document ((d : Document) × HasOne d) Document (λ e. e.0) y)) ≡ true)
  one_of_layer (Document-F.Policy policy) passes = absurd (true≢false (sym passes))
  one_of_layer (Document-F.PolicySet set ds) passes = one_of_children ds passes
  one_of_layer (Document-F.Reference reference) passes = (reference, passes, λ other e. e)

  one_of : (d : Document) → HasOne d
  one_of = ind-Document HasOne (λ x y is passes.
      let here = subst (λ z. some_step test (map-Document Document Bool (some_reference test) z) ≡ true
      → (r : Reference) × (test r ≡ true) × ((other : Reference → Bool) → other r ≡ true → some_step other (map-Document Document Bool (some_reference other) z) ≡ true)) is (one_of_layer y) in
      let found = here (sym (fold-roll-Document Bool (some_step test) x) ∙ passes) in
      (found.0, found.1, λ other e. fold-roll-Document Bool (some_step other) x ∙ found.2 other e))

  one_in : (found : Option Parsed) → some_reference_in test found ≡ true
      → (r : Reference) × (test r ≡ true) × ((other : Reference → Bool) → other r ≡ true → some_reference_in other found ≡ true)
  one_in None passes = absurd (true≢false (sym passes))
  one_in (Some parsed) passes = one_of parsed.document passes

some_up : (f g : Reference → Bool) (found : Option Parsed) → ((r : Reference) → f r ≡ true → g r ≡ true) → some_reference_in f found ≡ true → some_reference_in g found ≡ true
some_up f g found up passes = let one = one_in f found passes in one.2 g (up one.0 one.1)

-- ---- one step

module _ (active : List Active) where
  -- a reference in the text at a place stands for the document at another
  abbrev pub LeadsOn : ℕ → ℕ → Type 0
  LeadsOn from place = some_reference_in (λ r. stands_at (resolve active r) place) (document_at active from) ≡ true

  abbrev below : ℕ → List ℕ → ℕ → ℕ → Bool
  below n path next place = some_reference_in (λ inner. leads_within n active (next ∷ path) inner place) (document_at active next)

  leads_zero : (path : List ℕ) (r : Reference) (place : ℕ) → leads_within 0 active path r place ≡ true → ⊥
  unfolding leads_within
  leads_zero path r place leads = true≢false (sym leads)

  leads_none : (n : ℕ) (path : List ℕ) (r : Reference) (place : ℕ) → next_place active path r ≡ None → leads_within (suc n) active path r place ≡ true → ⊥
  unfolding leads_within
  leads_none n path r place none leads =
      true≢false (sym leads ∙ ap (λ o. is_at_or_below (λ next inner. leads_within n active (next ∷ path) inner place) active o place) none)

  leads_at : (n : ℕ) (path : List ℕ) (r : Reference) (next place : ℕ) → next_place active path r ≡ Some next → leads_within (suc n) active path r place ≡ led_at n active path next place
  unfolding leads_within
  leads_at n path r next place is = ap (λ o. is_at_or_below (λ k inner. leads_within n active (k ∷ path) inner place) active o place) is

  -- a reference that stands for a document that isn't on the path leads there
  next_is : (path : List ℕ) (r : Reference) (place : ℕ) → stands_at (resolve active r) place ≡ true → list_any (λ p. p == place) path ≡ false → next_place active path r ≡ Some place
  next_is path r place stands free = by_place (resolve active r) refl
    where
      by_place : (o : Option ℕ) → resolve active r ≡ o → next_place active path r ≡ Some place
      by_place None at = absurd (true≢false (sym stands ∙ ap (λ o. stands_at o place) at))
      by_place (Some next) at =
          let same : place ≡ next = eqb-true place next (sym (ap (λ o. stands_at o place) at) ∙ stands) in
          ap (unless_circular path) (at ∙ ap Some (sym same)) ∙ ap (λ b. if b then None else Some place) free

  -- where it leads to a document, it stands for that
  stands_is : (path : List ℕ) (r : Reference) (next place : ℕ) → next_place active path r ≡ Some next → (place == next) ≡ true → stands_at (resolve active r) place ≡ true
  stands_is path r next place is same = by_place (resolve active r) refl
    where
      by_circle : (k : ℕ) (b : Bool) → (if b then None else Some k) ≡ Some next → k ≡ next
      by_circle k true e = absurd (let f : None ≡ Some next = e in cc)
      by_circle k false e = (let f : Some k ≡ Some next = e in cc)

      by_place : (o : Option ℕ) → resolve active r ≡ o → stands_at (resolve active r) place ≡ true
      by_place None at = absurd (let f : None ≡ Some next = sym (ap (unless_circular path) at) ∙ is in cc)
      by_place (Some k) at =
          let found : k ≡ next = by_circle k (list_any (λ p. p == k) path) (sym (ap (unless_circular path) at) ∙ is) in
          ap (λ o. stands_at o place) at ∙ ap (λ n. place == n) found ∙ same

  -- ---- one document further

  further_at : (n : ℕ) (path : List ℕ) (next from place : ℕ)
      → ((r : Reference) → leads_within n active (next ∷ path) r from ≡ true
      → (list_any (λ p. p == place) (next ∷ path) ≡ true) ⊎ (leads_within (suc n) active (next ∷ path) r place ≡ true))
      → led_at n active path next from ≡ true → LeadsOn from place
      → (list_any (λ p. p == place) path ≡ true) ⊎ (led_at (suc n) active path next place ≡ true)
  further_at n path next from place deeper led on = by_here (place == next) refl
    where
      unless_on : (r : Reference) → list_any (λ p. p == place) (next ∷ path) ≡ false
          → (list_any (λ p. p == place) (next ∷ path) ≡ true) ⊎ (leads_within (suc n) active (next ∷ path) r place ≡ true) → leads_within (suc n) active (next ∷ path) r place ≡ true
      unless_on r off (inl is) = absurd (true≢false (sym is ∙ off))
      unless_on r off (inr leads) = leads

      inner_leads : (place == next) ≡ false → list_any (λ p. p == place) path ≡ false → ((from == next) ≡ true) ⊎ (below n path next from ≡ true) → below (suc n) path next place ≡ true
      inner_leads differ free (inl same) =
          let off : list_any (λ p. p == place) (next ∷ path) ≡ false =
          or_from (next == place) (list_any (λ p. p == place) path)
          (false_from_ne_true (next == place) (λ e. true≢false (sym (eq-eqb place next (sym (eqb-true next place e))) ∙ differ))) free in
          some_up (λ r. stands_at (resolve active r) place) (λ inner. leads_within (suc n) active (next ∷ path) inner place) (document_at active next)
          (λ r stands. leads_at n (next ∷ path) r place place (next_is (next ∷ path) r place stands off) ∙ led_here n active place (next ∷ path) place (eq-eqb place place refl))
          (subst (λ f. some_reference_in (λ r. stands_at (resolve active r) place) (document_at active f) ≡ true) (eqb-true from next same) on)
      inner_leads differ free (inr deep) =
          let off : list_any (λ p. p == place) (next ∷ path) ≡ false =
          or_from (next == place) (list_any (λ p. p == place) path)
          (false_from_ne_true (next == place) (λ e. true≢false (sym (eq-eqb place next (sym (eqb-true next place e))) ∙ differ))) free in
          some_up (λ inner. leads_within n active (next ∷ path) inner from) (λ inner. leads_within (suc n) active (next ∷ path) inner place) (document_at active next)
          (λ r leads. unless_on r off (deeper r leads)) deep

      by_path : (place == next) ≡ false → (b : Bool) → list_any (λ p. p == place) path ≡ b → (list_any (λ p. p == place) path ≡ true) ⊎ (led_at (suc n) active path next place ≡ true)
      by_path differ true is = inl is
      by_path differ false free =
          inr (or_right (place == next) (below (suc n) path next place) (inner_leads differ free (or_cases (from == next) (below n path next from) led)))

      by_here : (b : Bool) → (place == next) ≡ b → (list_any (λ p. p == place) path ≡ true) ⊎ (led_at (suc n) active path next place ≡ true)
      by_here true same = inr (led_here (suc n) active next path place same)
      by_here false differ = by_path differ (list_any (λ p. p == place) path) refl

  further : (n : ℕ) (path : List ℕ) (r : Reference) (from place : ℕ) → leads_within n active path r from ≡ true → LeadsOn from place
      → (list_any (λ p. p == place) path ≡ true) ⊎ (leads_within (suc n) active path r place ≡ true)
  further zero path r from place leads on = absurd (leads_zero path r from leads)
  further (suc n) path r from place leads on = by_next (λ next inner below. further n (next ∷ path) inner from place below on) (next_place active path r) refl
    where
      as_reference : (next : ℕ) → next_place active path r ≡ Some next → (list_any (λ p. p == place) path ≡ true) ⊎ (led_at (suc n) active path next place ≡ true)
          → (list_any (λ p. p == place) path ≡ true) ⊎ (leads_within (suc (suc n)) active path r place ≡ true)
      as_reference next at (inl is) = inl is
      as_reference next at (inr led) = inr (leads_at (suc n) path r next place at ∙ led)

      by_next : ((next : ℕ) (inner : Reference) → leads_within n active (next ∷ path) inner from ≡ true
          → (list_any (λ p. p == place) (next ∷ path) ≡ true) ⊎ (leads_within (suc n) active (next ∷ path) inner place ≡ true))
          → (o : Option ℕ) → next_place active path r ≡ o → (list_any (λ p. p == place) path ≡ true) ⊎ (leads_within (suc (suc n)) active path r place ≡ true)
      by_next deeper None at = absurd (leads_none n path r from at leads)
      by_next deeper (Some next) at =
          as_reference next at (further_at n path next from place (deeper next) (sym (leads_at n path r next from at) ∙ leads) on)

  -- ---- the last step

  -- among so many documents, which may be none, is the one at a place
  abbrev led_among : ℕ → List ℕ → ℕ → ℕ → Bool
  led_among zero path next place = false
  led_among (suc n) path next place = led_at n active path next place

  -- a reference stands for the document at a place, or leads to one in which another does
  abbrev Last : ℕ → List ℕ → Reference → ℕ → Type 0
  Last zero path r place = ⊥
  Last (suc n) path r place =
      (stands_at (resolve active r) place ≡ true) ⊎ ((from : ℕ) × (leads_within n active path r from ≡ true) × LeadsOn from place)

  last_at : (n : ℕ) (path : List ℕ) (next place : ℕ) → ((r : Reference) → leads_within n active (next ∷ path) r place ≡ true → Last n (next ∷ path) r place)
      → led_at n active path next place ≡ true
      → ((place == next) ≡ true) ⊎ ((from : ℕ) × (led_among n path next from ≡ true) × LeadsOn from place)
  last_at n path next place deeper led = by_first (or_cases (place == next) (below n path next place) led)
    where
      by_inner : (m : ℕ) → n ≡ m → (r : Reference) → leads_within m active (next ∷ path) r place ≡ true
          → ((other : Reference → Bool) → other r ≡ true → some_reference_in other (document_at active next) ≡ true) → Last m (next ∷ path) r place
          → ((place == next) ≡ true) ⊎ ((from : ℕ) × (led_among m path next from ≡ true) × LeadsOn from place)
      by_inner zero is r leads in_it last = absurd (leads_zero (next ∷ path) r place leads)
      by_inner (suc m) is r leads in_it (inl stands) =
          inr (next, led_here m active next path next (eq-eqb next next refl), in_it (λ inner. stands_at (resolve active inner) place) stands)
      by_inner (suc m) is r leads in_it (inr last) =
          inr (
            last.0,
            or_right (last.0 == next) (some_reference_in (λ inner. leads_within m active (next ∷ path) inner last.0) (document_at active next))
                (in_it (λ inner. leads_within m active (next ∷ path) inner last.0) last.1),
            last.2,
          )

      by_first : ((place == next) ≡ true) ⊎ (below n path next place ≡ true) → ((place == next) ≡ true) ⊎ ((from : ℕ) × (led_among n path next from ≡ true) × LeadsOn from place)
      by_first (inl same) = inl same
      by_first (inr deep) =
          let one = one_in (λ inner. leads_within n active (next ∷ path) inner place) (document_at active next) deep in
          by_inner n refl one.0 one.1 one.2 (deeper one.0 one.1)

  last : (n : ℕ) (path : List ℕ) (r : Reference) (place : ℕ) → leads_within n active path r place ≡ true → Last n path r place
  last zero path r place leads = leads_zero path r place leads
  last (suc n) path r place leads = by_next (λ next inner below. last n (next ∷ path) inner place below) (next_place active path r) refl
    where
      as_reference : (next : ℕ) → next_place active path r ≡ Some next → (m : ℕ) → n ≡ m → (from : ℕ) → led_among m path next from ≡ true → leads_within m active path r from ≡ true
      as_reference next at zero is from led = absurd (true≢false (sym led))
      as_reference next at (suc m) is from led = leads_at m path r next from at ∙ led

      by_last : (next : ℕ) → next_place active path r ≡ Some next → ((place == next) ≡ true) ⊎ ((from : ℕ) × (led_among n path next from ≡ true) × LeadsOn from place) → Last (suc n) path r place
      by_last next at (inl same) = inl (stands_is path r next place at same)
      by_last next at (inr step) = inr (step.0, as_reference next at n refl step.0 step.1, step.2)

      by_next : ((next : ℕ) (inner : Reference) → leads_within n active (next ∷ path) inner place ≡ true → Last n (next ∷ path) inner place)
          → (o : Option ℕ) → next_place active path r ≡ o → Last (suc n) path r place
      by_next deeper None at = absurd (leads_none n path r place at leads)
      by_next deeper (Some next) at = by_last next at (last_at n path next place (deeper next) (sym (leads_at n path r next place at) ∙ leads))

  -- ---- one document more may be on the path

  more_at : (n : ℕ) (path : List ℕ) (next place : ℕ) → ((r : Reference) → leads_within n active (next ∷ path) r place ≡ true → leads_within (suc n) active (next ∷ path) r place ≡ true)
      → led_at n active path next place ≡ true → led_at (suc n) active path next place ≡ true
  more_at n path next place deeper led = by_first (or_cases (place == next) (below n path next place) (same_below led))
    where
      same_below : led_at n active path next place ≡ true → ((place == next) || below n path next place) ≡ true
      same_below e = e

      by_first : ((place == next) ≡ true) ⊎ (below n path next place ≡ true) → led_at (suc n) active path next place ≡ true
      by_first (inl same) = led_here (suc n) active next path place same
      by_first (inr deep) =
          or_right (place == next) (some_reference_in (λ inner. leads_within (suc n) active (next ∷ path) inner place) (document_at active next))
          (some_up (λ inner. leads_within n active (next ∷ path) inner place) (λ inner. leads_within (suc n) active (next ∷ path) inner place) (document_at active next) deeper deep)

  more : (n : ℕ) (path : List ℕ) (r : Reference) (place : ℕ) → leads_within n active path r place ≡ true → leads_within (suc n) active path r place ≡ true
  more zero path r place leads = absurd (leads_zero path r place leads)
  more (suc n) path r place leads = by_next (λ next inner below. more n (next ∷ path) inner place below) (next_place active path r) refl
    where
      by_next : ((next : ℕ) (inner : Reference) → leads_within n active (next ∷ path) inner place ≡ true → leads_within (suc n) active (next ∷ path) inner place ≡ true)
          → (o : Option ℕ) → next_place active path r ≡ o → leads_within (suc (suc n)) active path r place ≡ true
      by_next deeper None at = absurd (leads_none n path r place at leads)
      by_next deeper (Some next) at =
          leads_at (suc n) path r next place at ∙ more_at n path next place (deeper next) (sym (leads_at n path r next place at) ∙ leads)

-- ---- from a root

module _ (active : List Active) (root : ℕ) where
  abbrev pub led : ℕ → ℕ → Bool
  led n place = led_to_within n active [] (Some root) place

  pub led_more : (n place : ℕ) → led n place ≡ true → led (suc n) place ≡ true
  led_more zero place e = absurd (true≢false (sym e))
  led_more (suc n) place e = more_at active n [] root place (λ r. more active n (root ∷ []) r place) e

  pub led_up : (k n m place : ℕ) → m ≡ k + n → led n place ≡ true → led m place ≡ true
  led_up zero n m place is e = subst (λ j. led j place ≡ true) (let same : n ≡ m = omega (arith, is) in same) e
  led_up (suc k) n m place is e = led_up k (suc n) m place (let same : m ≡ k + suc n = omega (arith, is) in same) (led_more n place e)

  pub led_on : (n from place : ℕ) → led n from ≡ true → LeadsOn active from place → led (suc n) place ≡ true
  led_on zero from place e on = absurd (true≢false (sym e))
  led_on (suc n) from place e on = by_path (further_at active n [] root from place (λ r leads. further active n (root ∷ []) r from place leads on) e on)
    where
      by_path : (list_any (λ p. p == place) [] ≡ true) ⊎ (led (suc (suc n)) place ≡ true) → led (suc (suc n)) place ≡ true
      by_path (inl none) = absurd (true≢false (sym none))
      by_path (inr is) = is

  pub led_root : (n place : ℕ) → (place == root) ≡ true → led (suc n) place ≡ true
  led_root n place same = led_here n active root [] place same

  pub led_last : (n place : ℕ) → led (suc n) place ≡ true → ((place == root) ≡ true) ⊎ ((from : ℕ) × (led n from ≡ true) × LeadsOn active from place)
  led_last n place e = as_led (last_at active n [] root place (λ r. last active n (root ∷ []) r place) e)
    where
      same_led : (m from : ℕ) → led_among active m [] root from ≡ true → led m from ≡ true
      same_led zero from is = is
      same_led (suc m) from is = is

      as_led : ((place == root) ≡ true) ⊎ ((from : ℕ) × (led_among active n [] root from ≡ true) × LeadsOn active from place)
          → ((place == root) ≡ true) ⊎ ((from : ℕ) × (led n from ≡ true) × LeadsOn active from place)
      as_led (inl same) = inl same
      as_led (inr step) = inr (step.0, same_led n step.0 step.1, step.2)

  -- the first document
  pub led_first : (place : ℕ) → led 1 place ≡ (place == root)
  led_first place = by_test (led 1 place) refl (place == root) refl
    where
      by_last : ((place == root) ≡ true) ⊎ ((from : ℕ) × (led 0 from ≡ true) × LeadsOn active from place) → (place == root) ≡ true
      by_last (inl same) = same
      by_last (inr step) = absurd (true≢false (sym step.1))

      by_test : (a : Bool) → led 1 place ≡ a → (b : Bool) → (place == root) ≡ b → led 1 place ≡ (place == root)
      by_test true is b same = is ∙ sym (by_last (led_last 0 place is))
      by_test false is true same = absurd (true≢false (sym (led_root 0 place same) ∙ is))
      by_test false is false same = is ∙ sym same
