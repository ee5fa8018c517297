-- An ordered map of std, and the finite map of its entries.
use Rattle.std.proofs.Common.{◌≡◌, List, [], ◌∷◌, refl, sym, ap, ◌∙◌, cond, true, false, length, subst}
use Rattle.std.specs.Prelude.{Bool, ◌&&◌, Some, None}
use Rattle.std.specs.declared.cmp.Ordering.{Ordering}
use Rattle.std.specs.declared.cmp.Ordering.TheVariants.{Less}
use Rattle.std.specs.Ordering.{is_lt, eq_by_cmp}
use Rattle.std.specs.Cmp.{IsTotalOrder, eq_by_cmp_equiv}
use Rattle.std.specs.Map.{lookup}
use Rattle.std.specs.BTreeMap as tree
use Rattle.std.specs.BTreeMap.{BTreeMap, is_at, UpdatesBy}
use Rattle.std.specs.Prelude.{T}
use Rattle.std.specs.List.{AllByRecursion}
use Rattle.std.specs.List.Sorted.{IsStrictlySortedBy}
use Rattle.std.specs.FinMap.Entries.{is_sorted, below_all}
use Rattle.std.specs.Map.{keys_of}
use Rattle.std.specs.FinMap.{entries, get-from_sorted, entries-from_sorted, len, len-entries, IsAntisymmetric, find, from_entries, get, insert, remove, same_map, get-from_entries, get-insert, get-remove}

both : (a b : Bool) → T a → T b → T (a && b)
both true b p q = q
both false b p q = absurd p

-- what a look-up finds
pub lookup_is : {K X : Type 0} (R : K → K → Ordering) (q : K) (es : List (K × X)) → lookup (is_at (R q)) es ≡ find R q es
lookup_is R q [] = refl
lookup_is R q (e ∷ es) = ap (cond (eq_by_cmp R q e.0) (Some e.1)) (lookup_is R q es)

below_by : {K X : Type 0} (R : K → K → Ordering) (x : K) (es : List (K × X)) → AllByRecursion (λ y. R x y ≡ Less) (keys_of es) → T (below_all R x es)
below_by R x [] h = tt
below_by R x (e ∷ es) h = both (is_lt (R x e.0)) (below_all R x es) (subst (λ r. T (is_lt r)) (sym h.0) tt) (below_by R x es h.1)

-- keys that ascend
sorted_by : {K X : Type 0} (R : K → K → Ordering) (es : List (K × X)) → IsStrictlySortedBy R (keys_of es) → T (is_sorted R es)
unfolding IsStrictlySortedBy
sorted_by R [] h = tt
sorted_by R (e ∷ es) h = both (below_all R e.0 es) (is_sorted R es) (below_by R e.0 es h.0) (sorted_by R es h.1)

module _ {K X : Type 0} {R : K → K → Ordering} (o : IsTotalOrder R) where
  pub found : (m : BTreeMap K X) (q : K) → tree.get R m q ≡ get (from_entries {R = R} m.entries) q
  found m q = lookup_is R q m.entries ∙ sym (get-from_entries o m.entries q)

  module _ (same : IsAntisymmetric R) where
    pub put_is : (m n : BTreeMap K X) (k : K) (v : X) → UpdatesBy R (R k) m n (Some v) → from_entries {R = R} n.entries ≡ insert (from_entries m.entries) k v
    put_is m n k v u = same_map o same _ _ (λ q. sym (found n q) ∙ u.0 q ∙ ap (cond (eq_by_cmp R k q) (Some v)) (found m q)
        ∙ ap (λ b. cond b (Some v) (get (from_entries {R = R} m.entries) q)) ((eq_by_cmp_equiv o).symm k q) ∙ sym (get-insert o (from_entries m.entries) k v q))

    pub removed_is : (m n : BTreeMap K X) (k : K) → UpdatesBy R (R k) m n None → from_entries {R = R} n.entries ≡ remove (from_entries m.entries) k
    removed_is m n k u = same_map o same _ _ (λ q. sym (found n q) ∙ u.0 q ∙ ap (cond (eq_by_cmp R k q) None) (found m q)
        ∙ ap (λ b. cond b None (get (from_entries {R = R} m.entries) q)) ((eq_by_cmp_equiv o).symm k q) ∙ sym (get-remove o (from_entries m.entries) k q))

    -- the entries of a map whose keys ascend
    pub entries_are : (m : BTreeMap K X) → tree.IsOrdered R m → entries (from_entries {R = R} m.entries) ≡ m.entries
    entries_are m ascends = let s = sorted_by R m.entries ascends in
        ap entries (same_map o same _ _ (λ q. get-from_entries o m.entries q ∙ sym (get-from_sorted R m.entries q s))) ∙ entries-from_sorted R m.entries s

    pub length_is : (m : BTreeMap K X) → tree.IsOrdered R m → length m.entries ≡ len (from_entries {R = R} m.entries)
    length_is m ascends = sym (len-entries (from_entries {R = R} m.entries) ∙ ap length (entries_are m ascends))
