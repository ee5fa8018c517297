-- Rows of a table whose keys stand apart.
use Rattle.std.proofs.Common.{◌≡◌, ◌≤◌, ℤ, List, [], ◌∷◌, ◌++◌, filter, length, Bool, true, false, refl, subst, arith}
use Rattle.xa_store.proofs.Common.{AllByRecursion, both_ways, cond_both, IsKeyedBy, insert_by, next_key, AreApart, all_weaker, all-append, ascending-append, filter_none, IsKeyedBy-insert_by}
use Rattle.xa_store.proofs.KeyLemmas.{pushed_last}

pub not_true : (b : Bool) → (b ≡ true → ⊥) → b ≡ false
not_true true h = absurd (h refl)
not_true false h = refl

module _ {X : Type 0} (same : X → X → Bool) (p : X → Bool) (alike : (x y : X) → p x ≡ true → p y ≡ true → same x y ≡ true) where
  -- one row at most passes the test of a key
  pub apart_few : (xs : List X) → AreApart same xs → length (filter p xs) ≤ 1
  apart_few [] apart = omega arith
  apart_few (x ∷ xs) apart =
      let fails = λ (here : p x ≡ true). all_weaker (λ y. same x y ≡ false) (λ y. p y ≡ false) (λ y differs. not_true (p y) (λ t. both_ways _ differs (alike x y here t))) xs apart.0 in
      cond_both (p x) (x ∷ filter p xs) (filter p xs) (λ l. length l ≤ 1) (λ here. rw (filter_none p xs (fails here)) (omega arith)) (λ _. apart_few xs apart.1)

-- a row of a new key that stands last
module _ {X : Type 0} (key : X → ℤ) (same : X → X → Bool) (P : X → Type 0) (xs : List X) (new : X) (up : IsKeyedBy key xs) (last : key new ≡ next_key key xs) where
  pub stands_last : insert_by key xs new ≡ xs ++ new ∷ []
  stands_last = pushed_last key xs new up last

  pub keyed_last : IsKeyedBy key (xs ++ new ∷ [])
  keyed_last = subst (IsKeyedBy key) stands_last (IsKeyedBy-insert_by key xs new up)

  pub all_last : AllByRecursion P xs → P new → AllByRecursion P (xs ++ new ∷ [])
  all_last all one = all-append P xs (new ∷ []) all (one, tt)

  pub apart_last : AreApart same xs → AllByRecursion (λ x. same x new ≡ false) xs → AreApart same (xs ++ new ∷ [])
  apart_last apart fresh = ascending-append (λ a b. same a b ≡ false) xs (new ∷ []) apart (tt, tt) (all_weaker (λ x. same x new ≡ false) (λ x. AllByRecursion (λ y. same x y ≡ false) (new ∷ [])) (λ x h. (h, tt)) xs fresh)
