-- The rows of one domain among those of all, after the writes of the statements.
use Rattle.std.proofs.Common.{◌≡◌, Bool, true, false, not, cond, ◌&&◌, List, [], ◌∷◌, ◌++◌, filter, find, Some, None, refl, ap, ◌∙◌}
use Rattle.xa_store.proofs.Common.{AllByRecursion, update_where, delete_where}

-- two tests that agree on each element
pub filter_alike : {X : Type 0} (p q : X → Bool) (xs : List X) → AllByRecursion (λ x. p x ≡ q x) xs → filter p xs ≡ filter q xs
filter_alike p q [] all = refl
filter_alike p q (x ∷ xs) all = ap (λ b. cond b (x ∷ filter p xs) (filter p xs)) all.0 ∙ ap (λ l. cond (q x) (x ∷ l) l) (filter_alike p q xs all.1)

module _ {X : Type 0} (p q : X → Bool) where
  abbrev both : X → Bool
  both x = p x && q x

  -- rows that pass both tests pass the second among those that pass the first
  pub filter_both : (xs : List X) → filter both xs ≡ filter q (filter p xs)
  filter_both [] = refl
  filter_both (x ∷ xs) =
      elim (p x) as (λ b. cond (b && q x) (x ∷ filter both xs) (filter both xs) ≡ filter q (cond b (x ∷ filter p xs) (filter p xs))) [
        | true ↦ ap (λ l. cond (q x) (x ∷ l) l) (filter_both xs)
        | false ↦ filter_both xs
      ]

  pub filter_delete : (xs : List X) → filter p (delete_where both xs) ≡ delete_where q (filter p xs)
  filter_delete [] = refl
  filter_delete (x ∷ xs) = go (p x) (q x) refl refl (filter_delete xs)
    where
      go : (a b : Bool) → p x ≡ a → q x ≡ b → filter p (delete_where both xs) ≡ delete_where q (filter p xs)
          → filter p (cond (not (a && b)) (x ∷ delete_where both xs) (delete_where both xs)) ≡ delete_where q (cond a (x ∷ filter p xs) (filter p xs))
      go true true is here more = rw here more
      go true false is here more = rw (here, is) (ap (λ l. x ∷ l) more)
      go false b is here more = rw is more

  module _ (f : X → X) (keeps : (x : X) → p (f x) ≡ p x) where
    pub filter_update : (xs : List X) → filter p (update_where both f xs) ≡ update_where q f (filter p xs)
    filter_update [] = refl
    filter_update (x ∷ xs) = go (p x) (q x) refl refl (filter_update xs)
      where
        go : (a b : Bool) → p x ≡ a → q x ≡ b → filter p (update_where both f xs) ≡ update_where q f (filter p xs)
            → filter p (cond (a && b) (f x) x ∷ update_where both f xs) ≡ update_where q f (cond a (x ∷ filter p xs) (filter p xs))
        go true true is here more = rw (here, keeps x, is) (ap (λ l. f x ∷ l) more)
        go true false is here more = rw (here, is) (ap (λ l. x ∷ l) more)
        go false b is here more = rw is more

  -- a test that never passes with the first does not see the write
  module _ (r : X → Bool) (apart : (x : X) → p x ≡ true → r x ≡ false) where
    pub filter_delete_apart : (xs : List X) → filter r (delete_where both xs) ≡ filter r xs
    filter_delete_apart [] = refl
    filter_delete_apart (x ∷ xs) = go (p x) refl (q x) (filter_delete_apart xs)
      where
        go : (a : Bool) → p x ≡ a → (b : Bool) → filter r (delete_where both xs) ≡ filter r xs
            → filter r (cond (not (a && b)) (x ∷ delete_where both xs) (delete_where both xs)) ≡ cond (r x) (x ∷ filter r xs) (filter r xs)
        go true is true more = rw (apart x is) more
        go true is false more = ap (λ l. cond (r x) (x ∷ l) l) more
        go false is b more = ap (λ l. cond (r x) (x ∷ l) l) more

    pub filter_update_apart : (f : X → X) → ((x : X) → r (f x) ≡ r x) → (xs : List X) → filter r (update_where both f xs) ≡ filter r xs
    filter_update_apart f keeps [] = refl
    filter_update_apart f keeps (x ∷ xs) = go (p x) refl (q x) (filter_update_apart f keeps xs)
      where
        go : (a : Bool) → p x ≡ a → (b : Bool) → filter r (update_where both f xs) ≡ filter r xs
            → filter r (cond (a && b) (f x) x ∷ update_where both f xs) ≡ cond (r x) (x ∷ filter r xs) (filter r xs)
        go true is true more = rw (keeps x, apart x is) more
        go true is false more = ap (λ l. cond (r x) (x ∷ l) l) more
        go false is b more = ap (λ l. cond (r x) (x ∷ l) l) more

module _ {X : Type 0} (p : X → Bool) where
  pub filter_delete_all : (xs : List X) → filter p (delete_where p xs) ≡ []
  filter_delete_all [] = refl
  filter_delete_all (x ∷ xs) = go (p x) refl (filter_delete_all xs)
    where
      go : (a : Bool) → p x ≡ a → filter p (delete_where p xs) ≡ [] → filter p (cond (not a) (x ∷ delete_where p xs) (delete_where p xs)) ≡ []
      go true is more = more
      go false is more = rw is more

  pub filter_delete_others : (r : X → Bool) → ((x : X) → p x ≡ true → r x ≡ false) → (xs : List X) → filter r (delete_where p xs) ≡ filter r xs
  filter_delete_others r apart [] = refl
  filter_delete_others r apart (x ∷ xs) = go (p x) refl (filter_delete_others r apart xs)
    where
      go : (a : Bool) → p x ≡ a → filter r (delete_where p xs) ≡ filter r xs → filter r (cond (not a) (x ∷ delete_where p xs) (delete_where p xs)) ≡ cond (r x) (x ∷ filter r xs) (filter r xs)
      go true is more = rw (apart x is) more
      go false is more = ap (λ l. cond (r x) (x ∷ l) l) more

  -- a row that stands last
  pub filter_push : (xs : List X) (new : X) → p new ≡ true → filter p (xs ++ new ∷ []) ≡ filter p xs ++ new ∷ []
  filter_push [] new is = rw is refl
  filter_push (x ∷ xs) new is =
      elim (p x) as (λ b. cond b (x ∷ filter p (xs ++ new ∷ [])) (filter p (xs ++ new ∷ [])) ≡ cond b (x ∷ filter p xs) (filter p xs) ++ new ∷ []) [
        | true ↦ ap (λ l. x ∷ l) (filter_push xs new is)
        | false ↦ filter_push xs new is
      ]

  pub filter_push_apart : (xs : List X) (new : X) → p new ≡ false → filter p (xs ++ new ∷ []) ≡ filter p xs
  filter_push_apart [] new is = rw is refl
  filter_push_apart (x ∷ xs) new is = ap (λ l. cond (p x) (x ∷ l) l) (filter_push_apart xs new is)

  pub find_none : (xs : List X) → filter p xs ≡ [] → find p xs ≡ None
  find_none [] none = refl
  find_none (x ∷ xs) none = go (p x) (find_none xs) none
    where
      go : (b : Bool) → (filter p xs ≡ [] → find p xs ≡ None) → cond b (x ∷ filter p xs) (filter p xs) ≡ [] → cond b (Some x) (find p xs) ≡ None
      go true more none = absurd cc
      go false more none = more none

  pub find_one : (xs : List X) (one : X) (rest : List X) → filter p xs ≡ one ∷ rest → find p xs ≡ Some one
  find_one [] one rest is = cc
  find_one (x ∷ xs) one rest is = go (p x) (find_one xs one rest) is
    where
      go : (b : Bool) → (filter p xs ≡ one ∷ rest → find p xs ≡ Some one) → cond b (x ∷ filter p xs) (filter p xs) ≡ one ∷ rest → cond b (Some x) (find p xs) ≡ Some one
      go true more is = cc
      go false more is = more is
