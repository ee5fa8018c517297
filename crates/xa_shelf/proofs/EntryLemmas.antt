-- What holds of all entries holds of all after a look-up, and after an entry of which it holds was put.
use Rattle.std.proofs.Common.{◌≡◌, ℕ, zero, suc, ◌-◌, Bool, true, false, List, [], ◌∷◌, take, Option, Some, None, refl, subst}
use Rattle.std.specs.List.{AllByRecursion}
use Rattle.std.specs.Map.{lookup, lookup_entry, remove_entry}
use Rattle.std.specs.Option.{option_map_or}
use Rattle.lru.specs.LruCache.{LruCache, promoted, put_entries}

module _ {K V : Type 0} (P : K × V → Type 0) where
  pub all_taken : (n : ℕ) (es : List (K × V)) → AllByRecursion P es → AllByRecursion P (take n es)
  all_taken zero es all = tt
  all_taken (suc n) [] all = tt
  all_taken (suc n) (e ∷ es) all = (all.0, all_taken n es all.1)

  module _ (test : K → Bool) where
    pub all_removed : (es : List (K × V)) → AllByRecursion P es → AllByRecursion P (remove_entry test es)
    all_removed [] all = tt
    all_removed (f ∷ es) all = (elim (test f.0) as (λ y. test f.0 ≡ y → AllByRecursion P (remove_entry test (f ∷ es))) [
      | true ↦ λ t. rw t all.1
      | false ↦ λ t. rw t (all.0, all_removed es all.1)
    ]) refl

    -- an entry that is found is one of them, and its key passes
    entry_found : (es : List (K × V)) (e : K × V) → AllByRecursion P es → lookup_entry test es ≡ Some e → P e × (test e.0 ≡ true)
    entry_found [] e all h = absurd cc
    entry_found (f ∷ es) e all h = (elim (test f.0) as (λ y. test f.0 ≡ y → P e × (test e.0 ≡ true)) [
      | true ↦ λ t. let h' = rw t at h in let same : f ≡ e = cc in (subst P same all.0, subst (λ g. test g.0 ≡ true) same t)
      | false ↦ λ t. entry_found es e all.1 (rw t at h)
    ]) refl

    -- a value that is found stands in one of them, under a key that passes
    pub value_found : (es : List (K × V)) (v : V) → AllByRecursion P es → lookup test es ≡ Some v → (k : K) × P (k, v) × (test k ≡ true)
    value_found [] v all h = absurd cc
    value_found (f ∷ es) v all h = (elim (test f.0) as (λ y. test f.0 ≡ y → (k : K) × P (k, v) × (test k ≡ true)) [
      | true ↦ λ t. let h' = rw t at h in let same : f.1 ≡ v = cc in (f.0, subst (λ w. P (f.0, w)) same all.0, t)
      | false ↦ λ t. value_found es v all.1 (rw t at h)
    ]) refl

    promoted_at : (es : List (K × V)) (o : Option (K × V)) → AllByRecursion P es → lookup_entry test es ≡ o → AllByRecursion P (option_map_or (λ e. e ∷ remove_entry test es) o es)
    promoted_at es None all h = all
    promoted_at es (Some e) all h = ((entry_found es e all h).0, all_removed es all)

    pub all_promoted : (es : List (K × V)) → AllByRecursion P es → AllByRecursion P (promoted test es)
    all_promoted es all = promoted_at es (lookup_entry test es) all refl

  -- it holds of a value under each key that equals the one under which it is put
  module _ (eq : K → K → Bool) (c : LruCache K V) (k : K) (v : V) (this : (j : K) → eq k j ≡ true → P (j, v)) (first : P (k, v)) where
    put_at : (o : Option (K × V)) → AllByRecursion P c.entries → lookup_entry (eq k) c.entries ≡ o → AllByRecursion P (option_map_or (λ e. (e.0, v) ∷ remove_entry (eq k) c.entries) o ((k, v) ∷ take (c.cap - 1) c.entries))
    put_at None all h = (first, all_taken (c.cap - 1) c.entries all)
    put_at (Some e) all h = (this e.0 (entry_found (eq k) c.entries e all h).1, all_removed (eq k) c.entries all)

    pub all_put : AllByRecursion P c.entries → AllByRecursion P (put_entries eq c k v)
    all_put all = put_at (lookup_entry (eq k) c.entries) all refl
