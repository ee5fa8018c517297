-- The places that the walk counts are those of each domain, from 0 on, each once.
use Rattle.std.proofs.Common.{◌≡◌, ◌⊎◌, inl, inr, ◌+◌, ◌<◌, ◌≤◌, ℕ, zero, suc, ℤ, pos, negsuc, ◌+ℤ◌, Bool, true, false, ◌&&◌, cond, List, [], ◌∷◌, map, filter, length, get_or, int_eq, int_le, int_cmp, Ordering, Less, is_eq, is_lt, IsPermutation, IsSorted, refl, sym, ap, subst, ◌∙◌, arith, add-one}
use Rattle.xa_store.proofs.Common.{IsTotalOrder, AllByRecursion, ordering_reverse, ordering_then, int_cmp_total, on_total, then_total, tied_itself, ints, IsPermutation-map, IsPermutation-sym, IsPermutation-trans, sort_by, same_int, IsPermutation-filter, all_from_test, all_of, all_weaker, ascending-map, ascending_weaker, filter_none, test_from_all, first_of_both, second_of_both, IsPermutation-sort_by, sorted_unique, IsAscending, SourcePlace, are_counted, count_from, places_of}
use Rattle.xa_store.specs.keeping.Check.{follows, no_place}
use Rattle.xa_store.proofs.KeyLemmas.{own_number}
use Rattle.xa_store.proofs.OrderedLemmas.{apart_among, rises_sorted}
use Rattle.xa_store.proofs.RiseLemmas.{both_true}

-- each place comes after the one before
abbrev pub count_on : SourcePlace → List SourcePlace → Bool
count_on last [] = true
count_on last (place ∷ places) = follows last place && count_on place places

-- by the domain, and then by the place
abbrev pub place_cmp : SourcePlace → SourcePlace → Ordering
place_cmp a b = ordering_then (int_cmp a.domain b.domain) (int_cmp a.index b.index)

-- ---- a row more

-- the places of one domain, in the order of the list
abbrev at : ℤ → List SourcePlace → List ℤ
at n ps = map (λ (p : SourcePlace). p.index) (filter (λ p. int_eq p.domain n) ps)

-- where a domain goes on after the last place
abbrev start : SourcePlace → ℤ → ℤ
start last n = cond (int_eq n last.domain) (last.index +ℤ pos 1) (pos 0)

-- each domain goes on so
abbrev GoesOn : SourcePlace → List SourcePlace → Type 0
GoesOn last ps = (n : ℤ) → count_from (start last n) (at n ps) ≡ true

at_cons : (n : ℤ) (p : SourcePlace) (ps : List SourcePlace) → at n (p ∷ ps) ≡ cond (int_eq p.domain n) (p.index ∷ at n ps) (at n ps)
at_cons n p ps =
    elim (int_eq p.domain n) as (λ b. map (λ (x : SourcePlace). x.index) (cond b (p ∷ filter (λ x. int_eq x.domain n) ps) (filter (λ x. int_eq x.domain n) ps)) ≡ cond b (p.index ∷ at n ps) (at n ps)) [ true ↦ refl | false ↦ refl ]

on_is : (q p : SourcePlace) → follows q p ≡ int_eq p.index (start q p.domain)
on_is q p = elim (int_eq p.domain q.domain) as (λ b. cond b (int_eq p.index (q.index +ℤ pos 1)) (int_eq p.index (pos 0)) ≡ int_eq p.index (cond b (q.index +ℤ pos 1) (pos 0))) [ true ↦ refl | false ↦ refl ]

turn_same : (m n : ℤ) → int_eq m n ≡ true → int_eq n m ≡ true
turn_same m n h = grind (arith, ints)

turn_other : (m n : ℤ) → int_eq m n ≡ false → int_eq n m ≡ false
turn_other m n h = grind (arith, ints)

module _ (q p : SourcePlace) (ps : List SourcePlace) (past : int_eq p.domain q.domain ≡ false → count_from (q.index +ℤ pos 1) (at q.domain ps) ≡ count_from (pos 0) (at q.domain ps)) where
  -- another domain goes on after the last place as after that row
  elsewhere : (n : ℤ) → int_eq p.domain n ≡ false → count_from (start q n) (at n ps) ≡ count_from (start p n) (at n ps)
  elsewhere n apart = go (int_eq n q.domain) refl ∙ sym (ap (λ b. count_from (cond b (p.index +ℤ pos 1) (pos 0)) (at n ps)) (turn_other p.domain n apart))
    where
      go : (b : Bool) → int_eq n q.domain ≡ b → count_from (cond b (q.index +ℤ pos 1) (pos 0)) (at n ps) ≡ count_from (pos 0) (at n ps)
      go false is = refl
      go true is =
          let same : n ≡ q.domain = same_int n q.domain is in
          subst (λ m. count_from (q.index +ℤ pos 1) (at m ps) ≡ count_from (pos 0) (at m ps)) (sym same) (past (ap (int_eq p.domain) (sym same) ∙ apart))

  -- its own domain goes on after it by one more
  here : (n : ℤ) → int_eq p.domain n ≡ true → follows q p ≡ true → start p n ≡ start q n +ℤ pos 1
  here n own on =
      let same : p.domain ≡ n = same_int p.domain n own in
      let place : p.index ≡ start q n = same_int p.index (start q p.domain) (sym (on_is q p) ∙ on) ∙ ap (start q) same in
      ap (λ b. cond b (p.index +ℤ pos 1) (pos 0)) (turn_same p.domain n own) ∙ ap (λ j. j +ℤ pos 1) place

  good_before : follows q p ≡ true → GoesOn p ps → GoesOn q (p ∷ ps)
  good_before on good n = ap (count_from (start q n)) (at_cons n p ps) ∙ go (int_eq p.domain n) refl
    where
      go : (b : Bool) → int_eq p.domain n ≡ b → count_from (start q n) (cond b (p.index ∷ at n ps) (at n ps)) ≡ true
      go true own =
          let same : p.domain ≡ n = same_int p.domain n own in
          both_true (int_eq p.index (start q n)) (count_from (start q n +ℤ pos 1) (at n ps)) (ap (λ m. int_eq p.index (start q m)) (sym same) ∙ sym (on_is q p) ∙ on)
          (ap (λ k. count_from k (at n ps)) (sym (here n own on)) ∙ good n)
      go false apart = elsewhere n apart ∙ good n

  module _ (good : GoesOn q (p ∷ ps)) where
    seen : (n : ℤ) (b : Bool) → int_eq p.domain n ≡ b → count_from (start q n) (cond b (p.index ∷ at n ps) (at n ps)) ≡ true
    seen n b is = sym (ap (λ c. count_from (start q n) (cond c (p.index ∷ at n ps) (at n ps))) is) ∙ sym (ap (count_from (start q n)) (at_cons n p ps)) ∙ good n

    on_after : follows q p ≡ true
    on_after = on_is q p ∙ first_of_both (int_eq p.index (start q p.domain)) (count_from (start q p.domain +ℤ pos 1) (at p.domain ps)) (seen p.domain true (own_number p.domain))

    good_after : GoesOn p ps
    good_after n = go (int_eq p.domain n) refl
      where
        go : (b : Bool) → int_eq p.domain n ≡ b → count_from (start p n) (at n ps) ≡ true
        go true own = ap (λ k. count_from k (at n ps)) (here n own on_after) ∙ second_of_both (int_eq p.index (start q n)) (count_from (start q n +ℤ pos 1) (at n ps)) (seen n true own)
        go false apart = sym (elsewhere n apart) ∙ seen n false apart

-- ---- along a list in which the domains' numbers don't fall

abbrev Rises : List SourcePlace → Type 0
Rises = IsAscending (λ a b. int_le a.domain b.domain ≡ true)

beyond : (a m n : ℤ) → int_le a m ≡ true → int_eq m a ≡ false → int_le m n ≡ true → int_eq n a ≡ false
beyond a m n p q r = grind (arith, ints)

-- of a domain that was left no more comes
none_more : (q p : SourcePlace) (ps : List SourcePlace) → Rises (q ∷ p ∷ ps) → int_eq p.domain q.domain ≡ false → count_from (q.index +ℤ pos 1) (at q.domain ps) ≡ count_from (pos 0) (at q.domain ps)
none_more q p ps up apart =
    let none : at q.domain ps ≡ [] =
    ap (map (λ (x : SourcePlace). x.index)) (filter_none (λ x. int_eq x.domain q.domain) ps (all_weaker (λ x. int_le p.domain x.domain ≡ true) (λ x. int_eq x.domain q.domain ≡ false) (λ x h. beyond q.domain p.domain x.domain up.0.0 apart h) ps up.1.0)) in
    ap (count_from (q.index +ℤ pos 1)) none ∙ sym (ap (count_from (pos 0)) none)

walk_good : (q : SourcePlace) (ps : List SourcePlace) → Rises (q ∷ ps) → count_on q ps ≡ true → GoesOn q ps
walk_good q [] up h = λ n. refl
walk_good q (p ∷ ps) up h = good_before q p ps (none_more q p ps up) (first_of_both (follows q p) (count_on p ps) h) (walk_good p ps up.1 (second_of_both (follows q p) (count_on p ps) h))

good_walk : (q : SourcePlace) (ps : List SourcePlace) → Rises (q ∷ ps) → GoesOn q ps → count_on q ps ≡ true
good_walk q [] up good = refl
good_walk q (p ∷ ps) up good =
    let past = none_more q p ps up in both_true (follows q p) (count_on p ps) (on_after q p ps past good) (good_walk p ps up.1 (good_after q p ps past good))

-- from before the first place
walk_all : (ps : List SourcePlace) → Rises ps → count_on no_place ps ≡ true → GoesOn no_place ps
walk_all [] up h = λ n. refl
walk_all (p ∷ ps) up h = good_before no_place p ps (λ _. refl) (first_of_both (follows no_place p) (count_on p ps) h) (walk_good p ps up (second_of_both (follows no_place p) (count_on p ps) h))

all_walk : (ps : List SourcePlace) → Rises ps → GoesOn no_place ps → count_on no_place ps ≡ true
all_walk [] up good = refl
all_walk (p ∷ ps) up good =
    both_true (follows no_place p) (count_on p ps) (on_after no_place p ps (λ _. refl) good) (good_walk p ps up (good_after no_place p ps (λ _. refl) good))

from_zero : (n : ℤ) → start no_place n ≡ pos 0
from_zero n = elim (int_eq n (negsuc 0)) as (λ b. cond b (negsuc 0 +ℤ pos 1) (pos 0) ≡ pos 0) [ true ↦ refl | false ↦ refl ]

-- ---- each domain

-- of a domain there is no row, or this holds of it
each_or_none : (Q : ℤ → Type 0) (n : ℤ) (ps : List SourcePlace) → AllByRecursion (λ p. Q p.domain) ps → (filter (λ p. int_eq p.domain n) ps ≡ []) ⊎ Q n
each_or_none Q n [] all = inl refl
each_or_none Q n (p ∷ ps) all = go (int_eq p.domain n) refl (each_or_none Q n ps all.1)
  where
    go : (b : Bool) → int_eq p.domain n ≡ b → (filter (λ x. int_eq x.domain n) ps ≡ []) ⊎ Q n → (cond b (p ∷ filter (λ x. int_eq x.domain n) ps) (filter (λ x. int_eq x.domain n) ps) ≡ []) ⊎ Q n
    go true own rest = inr (subst Q (same_int p.domain n own) all.0)
    go false apart rest = rest

abbrev pub CountsAt : List SourcePlace → ℤ → Type 0
CountsAt ps n = count_from (pos 0) (places_of ps n) ≡ true

pub counted_each : (ps : List SourcePlace) → are_counted ps ≡ true → (n : ℤ) → CountsAt ps n
counted_each ps h n = elim (each_or_none (CountsAt ps) n ps (all_from_test (λ p. count_from (pos 0) (places_of ps p.domain)) ps h)) [
  | inl none ↦ ap (λ l. count_from (pos 0) (sort_by int_cmp (map (λ (p : SourcePlace). p.index) l))) none
  | inr is ↦ is
]

pub each_counted : (ps : List SourcePlace) → ((n : ℤ) → CountsAt ps n) → are_counted ps ≡ true
each_counted ps all = test_from_all (λ p. count_from (pos 0) (places_of ps p.domain)) ps (all_of (λ p. CountsAt ps p.domain) (λ p. all p.domain) ps)

-- ---- the list that is walked is sorted by domain and place

place_total : IsTotalOrder place_cmp
place_total = then_total (on_total (λ (p : SourcePlace). p.domain) int_cmp_total) (on_total (λ (p : SourcePlace). p.index) int_cmp_total)

not_above : (m n : ℤ) (o : Ordering) → ordering_then (int_cmp m n) o ≡ Less → int_le m n ≡ true
not_above m n o h = grind (arith, ints)

-- two places of one domain
by_place : (a b : SourcePlace) (n : ℤ) → int_eq a.domain n ≡ true → int_eq b.domain n ≡ true → place_cmp a b ≡ int_cmp a.index b.index
by_place a b n p q =
    let same : a.domain ≡ b.domain = same_int a.domain n p ∙ sym (same_int b.domain n q) in
    ap (λ o. ordering_then o (int_cmp a.index b.index)) (ap (int_cmp a.domain) (sym same) ∙ tied_itself int_cmp_total a.domain)

-- a list that ascends is sorted
sorted_from : (xs : List ℤ) → IsAscending (λ a b. int_cmp a b ≡ Less) xs → IsSorted int_cmp xs
sorted_from [] up = λ k d p q. absurd (omega arith)
sorted_from (x ∷ []) up = λ k d p q. absurd (omega arith)
sorted_from (x ∷ y ∷ xs) up = go (sorted_from (y ∷ xs) up.1)
  where
    go : IsSorted int_cmp (y ∷ xs) → (k : ℕ) (d : ℤ) → 0 ≤ k → k + 1 < length (x ∷ y ∷ xs) → is_lt (int_cmp (get_or (x ∷ y ∷ xs) (k + 1) d) (get_or (x ∷ y ∷ xs) k d)) ≡ false
    go later zero d p q = ap is_lt (int_cmp_total.antisymm y x ∙ ap ordering_reverse up.0.0)
    go later (suc k) d p q = rw add-one (rw add-one at (later k d (omega arith) (omega arith)))

module _ (ps : List SourcePlace) (untied : IsAscending (λ a b. is_eq (place_cmp a b) ≡ false) ps) where
  abbrev walked : List SourcePlace
  walked = sort_by place_cmp ps

  strict : IsAscending (λ a b. place_cmp a b ≡ Less) walked
  strict = rises_sorted place_cmp place_total ps untied

  up : Rises walked
  up = ascending_weaker (λ a b. place_cmp a b ≡ Less) (λ a b. int_le a.domain b.domain ≡ true) (λ a b less. not_above a.domain b.domain (int_cmp a.index b.index) less) walked strict

  module _ (n : ℤ) where
    in_order : IsAscending (λ a b. int_cmp a b ≡ Less) (at n walked)
    in_order =
        ascending-map (λ a b. int_cmp a b ≡ Less) (λ (p : SourcePlace). p.index) (filter (λ p. int_eq p.domain n) walked)
        (apart_among (λ (p : SourcePlace). int_eq p.domain n) (λ a b. place_cmp a b ≡ Less) (λ a b. int_cmp a.index b.index ≡ Less) (λ a b p q less. sym (by_place a b n p q) ∙ less) walked strict)

    ascends : IsAscending (λ a b. int_cmp a b ≡ Less) (places_of ps n)
    ascends =
        rises_sorted int_cmp int_cmp_total (at n ps)
        (ascending-map (λ a b. is_eq (int_cmp a b) ≡ false) (λ (p : SourcePlace). p.index) (filter (λ p. int_eq p.domain n) ps)
        (apart_among (λ (p : SourcePlace). int_eq p.domain n) (λ a b. is_eq (place_cmp a b) ≡ false) (λ a b. is_eq (int_cmp a.index b.index) ≡ false) (λ a b p q h. sym (ap is_eq (by_place a b n p q)) ∙ h) ps untied))

    among : IsPermutation (at n walked) (at n ps)
    among =
        IsPermutation-map (λ (p : SourcePlace). p.index) (filter (λ p. int_eq p.domain n) walked) (filter (λ p. int_eq p.domain n) ps)
        (IsPermutation-filter (λ p. int_eq p.domain n) walked ps (IsPermutation-sort_by place_cmp place_total ps))

    -- its places, sorted, stand so in the list
    sorted_places : at n walked ≡ places_of ps n
    sorted_places =
        sorted_unique int_cmp int_cmp_total (sort_by int_cmp (at n ps)) (at n walked) ascends
        (IsPermutation-trans (places_of ps n) (at n ps) (at n walked) (IsPermutation-sort_by int_cmp int_cmp_total (at n ps)) (IsPermutation-sym (at n walked) (at n ps) among)) (sorted_from (at n walked) in_order)

    goes_on_is : count_from (start no_place n) (at n walked) ≡ count_from (pos 0) (places_of ps n)
    goes_on_is = ap (λ k. count_from k (at n walked)) (from_zero n) ∙ ap (count_from (pos 0)) sorted_places

  same_truth : (s t : Bool) → (s ≡ true → t ≡ true) → (t ≡ true → s ≡ true) → s ≡ t
  same_truth true t f g = sym (f refl)
  same_truth false true f g = g refl
  same_truth false false f g = refl

  -- the walk counts each domain's places from 0 on
  pub walk_counts : count_on no_place (sort_by place_cmp ps) ≡ are_counted ps
  walk_counts =
      same_truth (count_on no_place walked) (are_counted ps) (λ h. each_counted ps (λ n. sym (goes_on_is n) ∙ walk_all walked up h n))
      (λ h. all_walk walked up (λ n. goes_on_is n ∙ counted_each ps h n))
