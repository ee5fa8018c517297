-- The first of the latest versions that fit, among more and more documents.
use Rattle.std.proofs.Common.{◌≡◌, ℕ, ◌+◌, ◌<◌, ◌≤◌, Bool, true, false, ◌⊎◌, inl, inr, List, [], ◌∷◌, length, get_or, Option, Some, None, refl, sym, ap, ◌∙◌, arith}
use Rattle.std.specs.Prelude.{MatchOption, not, ◌&&◌}
use Rattle.std.specs.Cmp.{IsStrictWeakOrder}
use Rattle.std.specs.List.{list_all, position}
use Rattle.std.proofs.lemmas.Bool.{cases_lt, le-ltb}
use Rattle.std.proofs.lemmas.Cmp.{nat_list_cmp_total}
use Rattle.std.proofs.lemmas.List.{get_or_default}
use Rattle.std.proofs.lemmas.List.Folds.{list_all_at}
use Rattle.std.proofs.lemmas.List.MinMax.{ranks_by}
use Rattle.std.proofs.lemmas.List.Sums.{position_or_len_is, list_all-from_AllPass}
use borrow.Author.Tests.{lt-ltb}
use Rattle.xa_policy.specs.declared.reference.Reference.{Reference}
use Rattle.xa_policy.specs.Version.{is_before}
use Rattle.xa_link.specs.declared.active.Active.{Active}
use Rattle.xa_link.specs.Resolution.{fits, resolve}

-- ---- over any test and order

-- among the first i, the place of the first that passes and than which none that passes is later, if any passes
abbrev pub IsFound : {X : Type 0} → (X → Bool) → (X → X → Bool) → List X → ℕ → Option ℕ → Type 0
IsFound {X} test before xs i None = (k : ℕ) (d : X) → k < i → test (get_or xs k d) ≡ false
IsFound {X} test before xs i (Some b) =
    (b < i) × ((d : X) → test (get_or xs b d) ≡ true)
    × ((k : ℕ) (d : X) → k < i → test (get_or xs k d) ≡ true → before (get_or xs b d) (get_or xs k d) ≡ false)
    × ((k : ℕ) (d : X) → k < b → test (get_or xs k d) ≡ true → before (get_or xs k d) (get_or xs b d) ≡ true)

last_or_before : (k i : ℕ) → k < i + 1 → (k < i) ⊎ (k ≡ i)
last_or_before k i h = by_cases (cases_lt k i)
  where
    by_cases : (k < i) ⊎ (i ≤ k) → (k < i) ⊎ (k ≡ i)
    by_cases (inl m) = inl m
    by_cases (inr m) = inr (omega (arith, h, m))

-- none is before itself
not_itself : {X : Type 0} (before : X → X → Bool) → IsStrictWeakOrder before → (x : X) → before x x ≡ false
not_itself before order x = by_test (before x x) refl
  where
    by_test : (b : Bool) → before x x ≡ b → before x x ≡ false
    by_test false e = e
    by_test true e = order.one_way x x e

-- what is not after y is before whatever y is before
before_by : {X : Type 0} (before : X → X → Bool) → IsStrictWeakOrder before → (y z x : X) → before y z ≡ false → before y x ≡ true → before z x ≡ true
before_by before order y z x not_after after = by_test (before z x) refl
  where
    by_test : (b : Bool) → before z x ≡ b → before z x ≡ true
    by_test true e = e
    by_test false e = absurd (let f : true ≡ false = sym after ∙ order.chain y z x not_after e in cc)

-- a turn at the place i, where x stands
module _ {X : Type 0} (test : X → Bool) (before : X → X → Bool) (xs : List X) (i : ℕ) (x : X) (there : i < length xs) (here : (d : X) → get_or xs i d ≡ x) where
  unfit_there : (k : ℕ) (d : X) → test x ≡ false → k ≡ i → test (get_or xs k d) ≡ false
  unfit_there k d unfit e = ap (λ j. test (get_or xs j d)) e ∙ ap test (here d) ∙ unfit

  -- one that does not pass changes nothing
  pub found_unfit : (o : Option ℕ) → IsFound test before xs i o → test x ≡ false → IsFound test before xs (i + 1) o
  found_unfit None found unfit = λ k d l. by_place k d (last_or_before k i l)
    where
      by_place : (k : ℕ) (d : X) → (k < i) ⊎ (k ≡ i) → test (get_or xs k d) ≡ false
      by_place k d (inl m) = found k d m
      by_place k d (inr e) = unfit_there k d unfit e
  found_unfit (Some b) found unfit = (omega (arith, found.0), found.1, λ k d l fit. by_place k d fit (last_or_before k i l), found.3)
    where
      by_place : (k : ℕ) (d : X) → test (get_or xs k d) ≡ true → (k < i) ⊎ (k ≡ i) → before (get_or xs b d) (get_or xs k d) ≡ false
      by_place k d fit (inl m) = found.2 k d m fit
      by_place k d fit (inr e) = absurd (let f : true ≡ false = sym fit ∙ unfit_there k d unfit e in cc)

  -- nor does one that is no later
  pub found_no_later : (b : ℕ) → IsFound test before xs i (Some b) → before (get_or xs b x) x ≡ false → IsFound test before xs (i + 1) (Some b)
  found_no_later b found earlier = (omega (arith, found.0), found.1, λ k d l fit. by_place k d fit (last_or_before k i l), found.3)
    where
      by_place : (k : ℕ) (d : X) → test (get_or xs k d) ≡ true → (k < i) ⊎ (k ≡ i) → before (get_or xs b d) (get_or xs k d) ≡ false
      by_place k d fit (inl m) = found.2 k d m fit
      by_place k d fit (inr e) =
          let at_i : get_or xs k d ≡ x = ap (λ j. get_or xs j d) e ∙ here d in
          let at_b : get_or xs b d ≡ get_or xs b x = get_or_default xs b d x (omega (arith, found.0, there)) in
          rw (at_i, at_b) earlier

  -- the first that passes is found
  pub found_first : IsStrictWeakOrder before → IsFound test before xs i None → test x ≡ true → IsFound test before xs (i + 1) (Some i)
  found_first order found fit = (
    omega arith,
    λ d. ap test (here d) ∙ fit,
    λ k d l passes. by_place k d passes (last_or_before k i l),
    λ k d l passes. absurd (let f : true ≡ false = sym passes ∙ found k d l in cc),
  )
    where
      by_place : (k : ℕ) (d : X) → test (get_or xs k d) ≡ true → (k < i) ⊎ (k ≡ i) → before (get_or xs i d) (get_or xs k d) ≡ false
      by_place k d passes (inl m) = absurd (let f : true ≡ false = sym passes ∙ found k d m in cc)
      by_place k d passes (inr e) = ap (λ j. before (get_or xs i d) (get_or xs j d)) e ∙ not_itself before order (get_or xs i d)

  -- and so is a later one
  pub found_later : IsStrictWeakOrder before → (b : ℕ) → IsFound test before xs i (Some b) → test x ≡ true → before (get_or xs b x) x ≡ true → IsFound test before xs (i + 1) (Some i)
  found_later order b found fit later = (
    omega arith,
    λ d. ap test (here d) ∙ fit,
    λ k d l passes. by_place k d passes (last_or_before k i l),
    λ k d l passes. earlier_too k d l passes,
  )
    where
      at_b : (d : X) → get_or xs b d ≡ get_or xs b x
      at_b d = get_or_default xs b d x (omega (arith, found.0, there))

      -- what is no later than the one at b is before x
      earlier_too : (k : ℕ) (d : X) → k < i → test (get_or xs k d) ≡ true → before (get_or xs k d) (get_or xs i d) ≡ true
      earlier_too k d l passes = ap (before (get_or xs k d)) (here d) ∙ before_by before order (get_or xs b x) (get_or xs k d) x (sym (ap (λ y. before y (get_or xs k d)) (at_b d)) ∙ found.2 k d l passes) later

      by_place : (k : ℕ) (d : X) → test (get_or xs k d) ≡ true → (k < i) ⊎ (k ≡ i) → before (get_or xs i d) (get_or xs k d) ≡ false
      by_place k d passes (inl m) = order.one_way (get_or xs k d) (get_or xs i d) (earlier_too k d m passes)
      by_place k d passes (inr e) = ap (λ j. before (get_or xs i d) (get_or xs j d)) e ∙ not_itself before order (get_or xs i d)

-- ---- the first place at which a test passes

position_none : {X : Type 0} (q : X → Bool) (xs : List X) (d : X) → ((k : ℕ) → k < length xs → q (get_or xs k d) ≡ false) → None ≡ position q xs
position_none q xs d none =
    let n = position_or_len_is q xs (length xs) d (omega arith) none (λ l. absurd (omega (arith, l))) in
    rw (n, le-ltb (length xs) (length xs) (omega arith)) refl

position_some : {X : Type 0} (q : X → Bool) (xs : List X) (b : ℕ) (d : X) → b < length xs → q (get_or xs b d) ≡ true → ((k : ℕ) → k < b → q (get_or xs k d) ≡ false) → Some b ≡ position q xs
position_some q xs b d there passes fails =
    let n = position_or_len_is q xs b d (omega (arith, there)) fails (λ l. passes) in
    rw (n, lt-ltb b (length xs) there) refl

-- at the end, it is the place that the definition gives
pub found_is : {X : Type 0} (test : X → Bool) (before : X → X → Bool) (xs : List X) (o : Option ℕ) → IsFound test before xs (length xs) o
    → o ≡ position (λ x. test x && list_all (λ y. not (test y && before x y)) xs) xs
found_is test before [] None found = refl
found_is test before [] (Some b) found = absurd (omega (arith, found.0))
found_is test before (x ∷ xs) None found =
    position_none (λ z. test z && list_all (λ y. not (test y && before z y)) (x ∷ xs)) (x ∷ xs) x
    (λ k l. ap (λ b. b && list_all (λ y. not (test y && before (get_or (x ∷ xs) k x) y)) (x ∷ xs)) (found k x l))
found_is {X} test before (x ∷ xs) (Some b) found =
    position_some (λ z. test z && list_all (λ y. not (test y && before z y)) (x ∷ xs)) (x ∷ xs) b x found.0 passes fails
  where
    -- none that passes is later than the one at b
    at_k : (k : ℕ) (d : X) → (c : Bool) → k < length (x ∷ xs) → test (get_or (x ∷ xs) k d) ≡ c → not (test (get_or (x ∷ xs) k d) && before (get_or (x ∷ xs) b x) (get_or (x ∷ xs) k d)) ≡ true
    at_k k d false l e = ap (λ c. not (c && before (get_or (x ∷ xs) b x) (get_or (x ∷ xs) k d))) e
    at_k k d true l e =
        let same = get_or_default (x ∷ xs) b d x found.0 in
        let none = sym (ap (λ y. before y (get_or (x ∷ xs) k d)) same) ∙ found.2 k d l e in
        ap (λ c. not (c && before (get_or (x ∷ xs) b x) (get_or (x ∷ xs) k d))) e ∙ ap not none

    passes : (test (get_or (x ∷ xs) b x) && list_all (λ y. not (test y && before (get_or (x ∷ xs) b x) y)) (x ∷ xs)) ≡ true
    passes =
        ap (λ c. c && list_all (λ y. not (test y && before (get_or (x ∷ xs) b x) y)) (x ∷ xs)) (found.1 x)
        ∙ list_all-from_AllPass (λ y. not (test y && before (get_or (x ∷ xs) b x) y)) (x ∷ xs) (λ k d l. at_k k d (test (get_or (x ∷ xs) k d)) l refl)

    -- before b each that passes has a later one at b
    at_b : (k : ℕ) (c : Bool) → k < b → test (get_or (x ∷ xs) k x) ≡ c → (test (get_or (x ∷ xs) k x) && list_all (λ y. not (test y && before (get_or (x ∷ xs) k x) y)) (x ∷ xs)) ≡ false
    at_b k false l e = ap (λ c. c && list_all (λ y. not (test y && before (get_or (x ∷ xs) k x) y)) (x ∷ xs)) e
    at_b k true l e =
        let later : not (test (get_or (x ∷ xs) b x) && before (get_or (x ∷ xs) k x) (get_or (x ∷ xs) b x)) ≡ false =
        ap (λ c. not (c && before (get_or (x ∷ xs) k x) (get_or (x ∷ xs) b x))) (found.1 x) ∙ ap not (found.3 k x l e) in
        ap (λ c. c && list_all (λ y. not (test y && before (get_or (x ∷ xs) k x) y)) (x ∷ xs)) e
        ∙ list_all_at (λ y. not (test y && before (get_or (x ∷ xs) k x) y)) (x ∷ xs) b x found.0 later

    fails : (k : ℕ) → k < b → (test (get_or (x ∷ xs) k x) && list_all (λ y. not (test y && before (get_or (x ∷ xs) k x) y)) (x ∷ xs)) ≡ false
    fails k l = at_b k (test (get_or (x ∷ xs) k x)) l refl

-- versions are put in order
pub versions_in_order : IsStrictWeakOrder (λ (a : Active) b. is_before a.version b.version)
versions_in_order = ranks_by nat_list_cmp_total (λ a. a.version)

abbrev pub IsResolved : Reference → List Active → ℕ → Option ℕ → Type 0
IsResolved reference active i found = IsFound (fits reference) (λ a b. is_before a.version b.version) active i found

-- a turn at the place i, where the document stands
module _ (reference : Reference) (active : List Active) (i : ℕ) (document : Active) (there : i < length active) (is : document ≡ get_or active i document) where
  here : (d : Active) → get_or active i d ≡ document
  here d = get_or_default active i d document there ∙ sym is

  -- what the test for a later version answers
  abbrev pub IsLaterTest : Option ℕ → Bool → Type 0
  IsLaterTest o later = MatchOption o (later ≡ true) (λ place. later ≡ is_before (get_or active place document).version document.version)

  pub turn_taken : (o : Option ℕ) (later : Bool) → IsResolved reference active i o → fits reference document ≡ true → IsLaterTest o later → later ≡ true → IsResolved reference active (i + 1) (Some i)
  turn_taken None later found fit test is_true = found_first (fits reference) (λ a b. is_before a.version b.version) active i document there here versions_in_order found fit
  turn_taken (Some b) later found fit test is_true = found_later (fits reference) (λ a b. is_before a.version b.version) active i document there here versions_in_order b found fit (sym test ∙ is_true)

  pub turn_no_later : (o : Option ℕ) (later : Bool) → IsResolved reference active i o → IsLaterTest o later → later ≡ false → IsResolved reference active (i + 1) o
  turn_no_later None later found test is_false = absurd (let f : true ≡ false = sym test ∙ is_false in cc)
  turn_no_later (Some b) later found test is_false = found_no_later (fits reference) (λ a b. is_before a.version b.version) active i document there here b found (sym test ∙ is_false)

  pub turn_unfit : (o : Option ℕ) → IsResolved reference active i o → fits reference document ≡ false → IsResolved reference active (i + 1) o
  turn_unfit o found unfit = found_unfit (fits reference) (λ a b. is_before a.version b.version) active i document there here o found unfit

pub resolved : (reference : Reference) (active : List Active) (o : Option ℕ) → IsResolved reference active (length active) o → o ≡ resolve active reference
resolved reference active o found = found_is (fits reference) (λ a b. is_before a.version b.version) active o found
