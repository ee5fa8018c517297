-- Finite maps after one key is put in or taken out, and what holds of all their entries.
use Rattle.std.proofs.Common.{◌≡◌, Bool, true, false, List, [], ◌∷◌, refl, sym, ap, ◌∙◌, cond}
use Rattle.std.specs.Prelude.{Some, None, T, ◌≢◌, ◌⊎◌, ◌&&◌}
use Rattle.std.proofs.Common.{inl, inr}
use Rattle.std.specs.Cmp.{IsTotalOrder, eq_by_cmp_equiv}
use Rattle.std.specs.declared.cmp.Ordering.{Ordering}
use Rattle.std.specs.declared.cmp.Ordering.TheVariants.{Less, Equal, Greater}
use Rattle.std.specs.FinMap.Entries.{below_all, find_tied, is_sorted}
use Rattle.std.specs.FinMap.{FinMap, IsAntisymmetric, entries, entries_sorted, find, get, insert, remove, get-entries, get-insert, get-remove, same_map}
use Rattle.std.specs.List.{AllByRecursion}
use Rattle.std.specs.Ordering.{eq_by_cmp, is_eq, is_lt}

ties : (o : Ordering) → is_eq o ≡ true → o ≡ Equal
ties Less e = absurd (cc)
ties Equal e = refl
ties Greater e = absurd (cc)

module _ {K : Type 0} {R : K → K → Ordering} (exact : IsAntisymmetric R) where
  -- a key either is that key, or has another place in the order
  by_tie : (b : Bool) (q k : K) → eq_by_cmp R q k ≡ b → (q ≡ k) ⊎ (eq_by_cmp R q k ≡ false)
  by_tie true q k e = inl (exact q k (ties _ e))
  by_tie false q k e = inr e

  pub here_or_elsewhere : (q k : K) → (q ≡ k) ⊎ (eq_by_cmp R q k ≡ false)
  here_or_elsewhere q k = by_tie _ q k refl

  pub elsewhere : (q k : K) → q ≢ k → eq_by_cmp R q k ≡ false
  elsewhere q k other = elim (here_or_elsewhere q k) [ inl e ↦ absurd (other e) | inr e ↦ e ]

pub different : {K : Type 0} {R : K → K → Ordering} → IsTotalOrder R → (q k : K) → eq_by_cmp R q k ≡ false → q ≢ k
different {R = R} o q k apart e = let tie = (eq_by_cmp_equiv o).refl k in let same : eq_by_cmp R q k ≡ true = ap (λ x. eq_by_cmp R x k) e ∙ tie in absurd (cc)

module _ {K X : Type 0} {R : K → K → Ordering} (o : IsTotalOrder R) where
  pub get_put : (m : FinMap R X) (k : K) (v : X) → get (insert m k v) k ≡ Some v
  get_put m k v = get-insert o m k v k ∙ ap (λ b. cond b (Some v) (get m k)) ((eq_by_cmp_equiv o).refl k)

  pub get_taken : (m : FinMap R X) (k : K) → get (remove m k) k ≡ None
  get_taken m k = get-remove o m k k ∙ ap (λ b. cond b None (get m k)) ((eq_by_cmp_equiv o).refl k)

  module _ (exact : IsAntisymmetric R) where
    pub get_put_elsewhere : (m : FinMap R X) (k : K) (v : X) (q : K) → q ≢ k → get (insert m k v) q ≡ get m q
    get_put_elsewhere m k v q other = get-insert o m k v q ∙ ap (λ b. cond b (Some v) (get m q)) (elsewhere exact q k other)

    pub get_taken_elsewhere : (m : FinMap R X) (k q : K) → q ≢ k → get (remove m k) q ≡ get m q
    get_taken_elsewhere m k q other = get-remove o m k q ∙ ap (λ b. cond b None (get m q)) (elsewhere exact q k other)

    -- what is there already
    pub put_again : (m : FinMap R X) (k : K) (v : X) → get m k ≡ Some v → insert m k v ≡ m
    put_again m k v there = same_map o exact _ _ (λ q. elim (here_or_elsewhere exact q k) [
      | inl e ↦ ap (get (insert m k v)) e ∙ get_put m k v ∙ sym there ∙ ap (get m) (sym e)
      | inr e ↦ get-insert o m k v q ∙ ap (λ b. cond b (Some v) (get m q)) e
    ])

-- ---- all entries

parts : (a b : Bool) → T (a && b) → T a × T b
parts true b h = (tt, h)
parts false b h = absurd h

-- what is below all keys isn't found
none_below : {K X : Type 0} (R : K → K → Ordering) (k : K) (es : List (K × X)) → T (below_all R k es) → find R k es ≡ None
none_below R k [] h = refl
none_below R k (e ∷ es) h = by_place (R k e.0) refl h (λ below. none_below R k es below) where
  by_place : (o : Ordering) → R k e.0 ≡ o → T (is_lt o && below_all R k es) → (T (below_all R k es) → find R k es ≡ None) → find R k (e ∷ es) ≡ None
  by_place Less at h rest = ap (λ o. cond (is_eq o) (Some e.1) (find R k es)) at ∙ rest h
  by_place Equal at h rest = absurd h
  by_place Greater at h rest = absurd h

module _ {K X : Type 0} {R : K → K → Ordering} (o : IsTotalOrder R) (P : K × X → Type 0) where
  all_found : (es : List (K × X)) → T (is_sorted R es) → ((q : K) (v : X) → find R q es ≡ Some v → P (q, v)) → AllByRecursion P es
  all_found [] sorted each = tt
  all_found (e ∷ es) sorted each =
      let both = parts (below_all R e.0 es) (is_sorted R es) sorted in (
        each e.0 e.1 (ap (λ b. cond b (Some e.1) (find R e.0 es)) ((eq_by_cmp_equiv o).refl e.0)),
        all_found es both.1 (λ q v found. by_tie (eq_by_cmp R q e.0) q v refl found both.0),
      )
    where
      by_tie : (b : Bool) (q : K) (v : X) → eq_by_cmp R q e.0 ≡ b → find R q es ≡ Some v → T (below_all R e.0 es) → P (q, v)
      by_tie false q v apart found below = each q v (ap (λ b. cond b (Some e.1) (find R q es)) apart ∙ found)
      by_tie true q v tied found below =
          absurd (let f : None ≡ Some v = sym (none_below R e.0 es below) ∙ find_tied R o q e.0 (ties _ tied) es ∙ found in cc)

  -- what holds of each key with what the map has there holds of all entries
  pub all_entries : (m : FinMap R X) → ((q : K) (v : X) → get m q ≡ Some v → P (q, v)) → AllByRecursion P (entries m)
  all_entries m each = all_found (entries m) (entries_sorted m) (λ q v found. each q v (get-entries m q ∙ found))
