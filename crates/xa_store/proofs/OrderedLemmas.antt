-- Lists of records whose keys are apart, in the order of the keys, and the finite maps of them.
use Rattle.std.proofs.Common.{◌≡◌, ℤ, Bool, true, false, cond, ◌&&◌, List, [], ◌∷◌, map, filter, Ordering, Less, Equal, Greater, is_eq, is_gt, int_eq, refl, sym, ap, ◌∙◌, arith, true≢false}
use Rattle.xa_store.proofs.Common.{IsTotalOrder, AllByRecursion, ordering_reverse, put, entries, from_entries, entries-insert, len-entries, len-empty, empty, ints, nil_from_length, insert_sorted, sort_by, all_weaker, IsAscending}

module _ {X : Type 0} (P : X → Type 0) (cmp : X → X → Ordering) where
  all_inserted : (new : X) (xs : List X) → P new → AllByRecursion P xs → AllByRecursion P (insert_sorted cmp new xs)
  all_inserted new [] h all = (h, tt)
  all_inserted new (x ∷ xs) h all =
      elim (is_gt (cmp new x)) as (λ b. AllByRecursion P (cond b (x ∷ insert_sorted cmp new xs) (new ∷ x ∷ xs))) [ true ↦ (all.0, all_inserted new xs h all.1) | false ↦ (h, all) ]

  pub all_sorted : (xs : List X) → AllByRecursion P xs → AllByRecursion P (sort_by cmp xs)
  all_sorted [] all = tt
  all_sorted (x ∷ xs) all = all_inserted x (sort_by cmp xs) all.0 (all_sorted xs all.1)

-- of those that pass a test
module _ {X : Type 0} (p : X → Bool) where
  pub all_among : (P Q : X → Type 0) → ((x : X) → p x ≡ true → P x → Q x) → (xs : List X) → AllByRecursion P xs → AllByRecursion Q (filter p xs)
  all_among P Q f [] all = tt
  all_among P Q f (x ∷ xs) all = go (p x) refl (all_among P Q f xs all.1)
    where
      go : (b : Bool) → p x ≡ b → AllByRecursion Q (filter p xs) → AllByRecursion Q (cond b (x ∷ filter p xs) (filter p xs))
      go true is more = (f x is all.0, more)
      go false is more = more

  pub apart_among : (R S : X → X → Type 0) → ((a b : X) → p a ≡ true → p b ≡ true → R a b → S a b) → (xs : List X) → IsAscending R xs → IsAscending S (filter p xs)
  apart_among R S f [] up = tt
  apart_among R S f (x ∷ xs) up = go (p x) refl (λ is. all_among (R x) (S x) (λ y. f x y is) xs up.0) (apart_among R S f xs up.1)
    where
      go : (b : Bool) → p x ≡ b → (p x ≡ true → AllByRecursion (S x) (filter p xs)) → IsAscending S (filter p xs) → IsAscending S (cond b (x ∷ filter p xs) (filter p xs))
      go true is first more = (first is, more)
      go false is first more = more

pub same_number : (a b n : ℤ) → int_eq a n ≡ true → int_eq b n ≡ true → int_eq a b ≡ true
same_number a b n p q = grind (arith, ints)

-- two keys that begin with one number are apart by what follows
pub apart_then : (a b n : ℤ) (rest : Bool) → int_eq a n ≡ true → int_eq b n ≡ true → (int_eq a b && rest) ≡ false → rest ≡ false
apart_then a b n rest p q h = sym (ap (λ c. c && rest) (same_number a b n p q)) ∙ h

module _ {X K V : Type 0} {R : K → K → Ordering} (total : IsTotalOrder R) (key : X → K) (value : X → V) where
  abbrev pub by_key : X → X → Ordering
  by_key a b = R (key a) (key b)

  abbrev pub entry : X → K × V
  entry x = (key x, value x)

  put_sorted : (new : X) (xs : List X) → AllByRecursion (λ x. is_eq (by_key new x) ≡ false) xs → put R (key new) (value new) (map entry xs) ≡ map entry (insert_sorted by_key new xs)
  put_sorted new [] apart = refl
  put_sorted new (x ∷ xs) apart = go (R (key new) (key x)) refl (put_sorted new xs apart.1)
    where
      go : (o : Ordering) → R (key new) (key x) ≡ o → put R (key new) (value new) (map entry xs) ≡ map entry (insert_sorted by_key new xs)
          → put R (key new) (value new) (map entry (x ∷ xs)) ≡ map entry (insert_sorted by_key new (x ∷ xs))
      go Less is more = rw is refl
      go Equal is more = absurd (true≢false (sym (ap is_eq is) ∙ apart.0))
      go Greater is more = rw is (ap (λ l. entry x ∷ l) more)

  pub entries_sorted : (xs : List X) → IsAscending (λ a b. is_eq (by_key a b) ≡ false) xs → entries (from_entries {R = R} (map entry xs)) ≡ map entry (sort_by by_key xs)
  entries_sorted [] up = nil_from_length _ (sym (len-entries empty) ∙ len-empty R V)
  entries_sorted (x ∷ xs) up =
      entries-insert total (from_entries (map entry xs)) (key x) (value x) ∙ ap (put R (key x) (value x)) (entries_sorted xs up.1)
      ∙ put_sorted x (sort_by by_key xs) (all_sorted (λ y. is_eq (by_key x y) ≡ false) by_key xs up.0)

module _ {X : Type 0} (cmp : X → X → Ordering) (total : IsTotalOrder cmp) where
  rises_inserted : (new : X) (xs : List X) → AllByRecursion (λ y. is_eq (cmp new y) ≡ false) xs → IsAscending (λ a b. cmp a b ≡ Less) xs → IsAscending (λ a b. cmp a b ≡ Less) (insert_sorted cmp new xs)
  rises_inserted new [] apart up = (tt, tt)
  rises_inserted new (x ∷ xs) apart up = go (cmp new x) refl (rises_inserted new xs apart.1 up.1)
    where
      go : (o : Ordering) → cmp new x ≡ o → IsAscending (λ a b. cmp a b ≡ Less) (insert_sorted cmp new xs)
          → IsAscending (λ a b. cmp a b ≡ Less) (cond (is_gt o) (x ∷ insert_sorted cmp new xs) (new ∷ x ∷ xs))
      go Less e more = ((e, all_weaker _ (λ y. cmp new y ≡ Less) (λ y. total.trans new x y e) xs up.0), up)
      go Equal e more = absurd (true≢false (sym (ap is_eq e) ∙ apart.0))
      go Greater e more = (all_inserted (λ y. cmp x y ≡ Less) cmp new xs (total.antisymm x new ∙ ap ordering_reverse e) up.0, more)

  pub rises_sorted : (xs : List X) → IsAscending (λ a b. is_eq (cmp a b) ≡ false) xs → IsAscending (λ a b. cmp a b ≡ Less) (sort_by cmp xs)
  rises_sorted [] apart = tt
  rises_sorted (x ∷ xs) apart = rises_inserted x (sort_by cmp xs) (all_sorted (λ y. is_eq (cmp x y) ≡ false) cmp xs apart.0) (rises_sorted xs apart.1)
