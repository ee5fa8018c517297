-- What is kept after a look-up and after a body was put there: for who states a fact P of everything that is kept.
use Rattle.std.proofs.Common.{◌≡◌, ℕ, zero, suc, ◌+◌, ◌≤◌, true, false, ◌&&◌, nat_eq, List, [], ◌∷◌, length, take, take_all, Option, Some, None, refl, sym, ap, subst, arith, ◌∙◌}
use Rattle.std.specs.Cmp.Lexicographic.{pointwise, bytes_decides}
use Rattle.std.specs.List.{AllByRecursion}
use Rattle.std.specs.Map.{lookup_entry, remove_entry}
use Rattle.std.specs.Option.{option_map_or}
use Rattle.std.proofs.lemmas.Bool.{and_parts, eqb-true}
use Rattle.lru.specs.LruCache.{lru_cache, promoted, put_entries}
use Rattle.xa_cache.specs.declared.key.Key.{Key}
use Rattle.xa_cache.specs.Bodies.{key_of, same_key, found, first, looked, kept}

-- keys that compare alike are one
pub one_key : (a b : Key) → same_key a b ≡ true → a ≡ b
one_key a b same =
    let outer = and_parts (nat_eq a.number b.number) (nat_eq a.epoch b.epoch && pointwise nat_eq a.body b.body) same in
    let inner = and_parts (nat_eq a.epoch b.epoch) (pointwise nat_eq a.body b.body) outer.1 in
    let number = eqb-true a.number b.number outer.0 in
    let epoch = eqb-true a.epoch b.epoch inner.0 in
    let body = (bytes_decides a.body b.body).0 inner.1 in
    λ i. key_of (number i) (epoch i) (body i)

module _ (key : Key) where
  -- what a look-up comes upon stands under that very key
  among : (es : List (Key × List ℕ)) (e : Key × List ℕ) → lookup_entry (same_key key) es ≡ Some e → (e.0 ≡ key) × (found key es ≡ Some e.1) × (length (remove_entry (same_key key) es) + 1 ≡ length es)
  among [] e h = cc
  among (f ∷ es) e h = (elim (same_key key f.0) as (λ y. same_key key f.0 ≡ y → (e.0 ≡ key) × (found key (f ∷ es) ≡ Some e.1) × (length (remove_entry (same_key key) (f ∷ es)) + 1 ≡ length (f ∷ es))) [
    | true ↦ λ t. let h' = rw t at h in let same : f ≡ e = cc in (subst (λ g. g.0 ≡ key) same (sym (one_key key f.0 t)), rw t (ap (λ g. Some g.1) same), rw t (omega arith))
    | false ↦ λ t. let on = among es e (rw t at h) in (on.0, rw t on.1, rw t (omega (arith, on.2)))
  ]) refl

  -- and if it comes upon nothing, none is taken away
  none : (es : List (Key × List ℕ)) → lookup_entry (same_key key) es ≡ None → (found key es ≡ None) × (remove_entry (same_key key) es ≡ es)
  none [] h = (refl, refl)
  none (f ∷ es) h = (elim (same_key key f.0) as (λ y. same_key key f.0 ≡ y → (found key (f ∷ es) ≡ None) × (remove_entry (same_key key) (f ∷ es) ≡ f ∷ es)) [
    | true ↦ λ t. let h' = rw t at h in absurd cc
    | false ↦ λ t. let on = none es (rw t at h) in (rw t on.0, rw t (ap (λ fs. f ∷ fs) on.1))
  ]) refl

  -- to promote a key is to look it up
  promoted_at : (es : List (Key × List ℕ)) (o : Option (Key × List ℕ)) → lookup_entry (same_key key) es ≡ o → option_map_or (λ e. e ∷ remove_entry (same_key key) es) o es ≡ looked key es
  promoted_at es None h = rw (none es h).0 refl
  promoted_at es (Some e) h = let on = among es e h in rw on.1 (ap (λ k. (k, e.1) ∷ remove_entry (same_key key) es) on.0)

  pub promoted_looked : (es : List (Key × List ℕ)) → promoted (same_key key) es ≡ looked key es
  promoted_looked es = promoted_at es (lookup_entry (same_key key) es) refl

  -- to put a body is to keep it
  put_at : (body : List ℕ) (es : List (Key × List ℕ)) (o : Option (Key × List ℕ)) → length es ≤ 512 → lookup_entry (same_key key) es ≡ o
      → option_map_or (λ e. (e.0, body) ∷ remove_entry (same_key key) es) o ((key, body) ∷ take 511 es) ≡ kept key body es
  put_at body es None short h = ap (λ fs. (key, body) ∷ take 511 fs) (sym (none es h).1)
  put_at body es (Some e) short h =
      let on = among es e h in let rest = remove_entry (same_key key) es in
      ap (λ k. (k, body) ∷ rest) on.0 ∙ ap (λ fs. (key, body) ∷ fs) (sym (take_all 511 rest (omega (arith, short, on.2))))

  pub put_kept : (body : List ℕ) (es : List (Key × List ℕ)) (cap : ℕ) → cap ≡ 512 → length es ≤ cap → put_entries same_key (lru_cache es cap) key body ≡ kept key body es
  put_kept body es cap full short =
      ap (λ n. put_entries same_key (lru_cache es n) key body) full ∙ put_at body es (lookup_entry (same_key key) es) (omega (arith, short, full)) refl

module _ (P : Key × List ℕ → Type 0) (key : Key) where
  all_removed : (es : List (Key × List ℕ)) → AllByRecursion P es → AllByRecursion P (remove_entry (same_key key) es)
  all_removed [] all = tt
  all_removed (f ∷ es) all = (elim (same_key key f.0) as (λ y. same_key key f.0 ≡ y → AllByRecursion P (remove_entry (same_key key) (f ∷ es))) [
    | true ↦ λ t. rw t all.1
    | false ↦ λ t. rw t (all.0, all_removed es all.1)
  ]) refl

  all_taken : (n : ℕ) (es : List (Key × List ℕ)) → AllByRecursion P es → AllByRecursion P (take n es)
  all_taken zero es all = tt
  all_taken (suc n) [] all = tt
  all_taken (suc n) (e ∷ es) all = (all.0, all_taken n es all.1)

  -- what is found was kept under that very key
  pub all_found : (es : List (Key × List ℕ)) (body : List ℕ) → AllByRecursion P es → found key es ≡ Some body → P (key, body)
  all_found [] body all h = absurd cc
  all_found (f ∷ es) body all h = (elim (same_key key f.0) as (λ y. same_key key f.0 ≡ y → P (key, body)) [
    | true ↦ λ t. let h' = rw t at h in let same : f.1 ≡ body = cc in subst (λ k. P (k, body)) (sym (one_key key f.0 t)) (subst (λ b. P (f.0, b)) same all.0)
    | false ↦ λ t. all_found es body all.1 (rw t at h)
  ]) refl

  looked_at : (es : List (Key × List ℕ)) (o : Option (List ℕ)) → AllByRecursion P es → found key es ≡ o → AllByRecursion P (option_map_or (first key es) o es)
  looked_at es None all h = all
  looked_at es (Some body) all h = (all_found es body all h, all_removed es all)

  -- it holds of all that is kept after a look-up
  pub all_looked : (es : List (Key × List ℕ)) → AllByRecursion P es → AllByRecursion P (looked key es)
  all_looked es all = looked_at es (found key es) all refl

  -- it holds of all that is kept after a body was kept of which it holds
  pub all_kept : (body : List ℕ) (es : List (Key × List ℕ)) → P (key, body) → AllByRecursion P es → AllByRecursion P (kept key body es)
  all_kept body es this all = all_taken 512 (first key es body) (this, all_removed es all)

-- if nothing is found, nothing moves
pub unlooked : (key : Key) (es : List (Key × List ℕ)) → found key es ≡ None → looked key es ≡ es
unlooked key es h = rw h refl
