-- A set of keys finds what a walk over the values finds.
use Rattle.std.proofs.Common.{◌≡◌, ℕ, ◌<◌, ◌≤◌, ◌⊎◌, inl, inr, refl, ap, sym, ◌∙◌, arith, get_or, length, Bool, true, false, not, cond, ◌||◌, List, [], ◌∷◌, ◌++◌, map}
use Rattle.std.specs.Prelude.{Result, Ok, Err}
use Rattle.std.specs.BTreeSet.{BTreeSet, contains, Updates, IsOrdered, IsFromIterResult}
use Rattle.std.specs.List.Sorted.{IsBinarySearchResult, IsPermutation, IsSearchInRange, IsSorted}
use Rattle.std.specs.Result.{is_ok}
use Rattle.std.proofs.lemmas.List.{map-append}
use Rattle.std.proofs.lemmas.List.Elements.{All-from_all_within}
use Rattle.std.proofs.lemmas.List.Folds.{list_any-append, list_any_at, list_any_none}
use Rattle.std.proofs.lemmas.List.Sorted.{list_any-IsPermutation, searchable_from_sorted}
use Rattle.std.specs.Set.{is_member}
use Rattle.std.specs.Ordering.{eq_by_cmp, is_eq}
use Rattle.xa_value.specs.declared.data_type.DataType.{DataType}
use Rattle.xa_value.specs.declared.value.Value.{Value}
use Rattle.xa_value.specs.Order.{NumberAndBytes, key_of, compare_keys, same, type_of}
use Rattle.xa_value.proofs.OrderLemmas.{keys_equal, keys_match, keys_ordered, keys_tell_apart, same_types}
use Rattle.xa_bag.specs.Bag.{OfType}
use Rattle.xa_bag.proofs.BagLemmas.{of_type_push}
use Rattle.xa_bag.proofs.SetLemmas.{with_new}
use Rattle.xa_bag.specs.Sets.{is_among}

-- the set has the keys of the values, and no others
abbrev pub HasKeys : BTreeSet NumberAndBytes → List Value → Type 0
HasKeys keys vs = IsFromIterResult compare_keys (map key_of vs) keys

-- among values of its type, a value is found by its key
found_by_key : (t : DataType) (vs : List Value) (v : Value) → OfType t vs → type_of v ≡ t → is_member (eq_by_cmp compare_keys) (map key_of vs) (key_of v) ≡ is_among vs v
found_by_key t [] v typed is = refl
found_by_key t (w ∷ ws) v typed is =
    rw (sym (keys_tell_apart v w (is ∙ sym typed.0)), found_by_key t ws v typed.1 is) refl

-- a set with the keys of values of one type finds a value of the type
pub found : (keys : BTreeSet NumberAndBytes) (t : DataType) (vs : List Value) (v : Value) (k : NumberAndBytes)
    → HasKeys keys vs → OfType t vs → type_of v ≡ t → k ≡ key_of v → contains compare_keys keys k ≡ is_among vs v
found keys t vs v k has typed is key = ap (contains compare_keys keys) key ∙ has.0 (key_of v) ∙ found_by_key t vs v typed is

-- keys compare as equal both ways
tied_back : (j k : NumberAndBytes) → eq_by_cmp compare_keys j k ≡ eq_by_cmp compare_keys k j
tied_back j k = sym (keys_match j k) ∙ keys_equal.symm j k ∙ keys_match k j

-- a search among keys in order finds whether the key is one of them
searched : (keys : List NumberAndBytes) (k : NumberAndBytes) (r : Result ℕ ℕ)
    → IsSorted compare_keys keys → IsBinarySearchResult (λ j. compare_keys j k) keys r → IsSearchInRange r (length keys)
    → is_ok r ≡ is_member (eq_by_cmp compare_keys) keys k
searched keys k (Ok i) up at below = sym (list_any_at (eq_by_cmp compare_keys k) keys i k below (tied_back k (get_or keys i k) ∙ ap is_eq (at k)))
searched keys k (Err i) up at below =
    let parts = at (searchable_from_sorted keys_ordered (λ j. j) keys k up) in
    sym (list_any_none (eq_by_cmp compare_keys k) keys (All-from_all_within (λ j. eq_by_cmp compare_keys k j ≡ false) keys (λ n d low high.
    tied_back k (get_or keys n d) ∙ elim (either n) [
      | inl before ↦ ap is_eq (parts.0 n d low before)
      | inr behind ↦ ap is_eq (parts.1 n d behind high)
    ]))) where
      either : (n : ℕ) → (n < i) ⊎ (i ≤ n)
      either n = grind arith

-- the keys of values of one type, put in order, find a value of the type
pub found_in_order : (keys : List NumberAndBytes) (t : DataType) (vs : List Value) (v : Value) (k : NumberAndBytes) (r : Result ℕ ℕ)
    → IsPermutation (map key_of vs) keys → IsSorted compare_keys keys → OfType t vs → type_of v ≡ t → k ≡ key_of v
    → IsBinarySearchResult (λ j. compare_keys j k) keys r → IsSearchInRange r (length keys) → is_ok r ≡ is_among vs v
found_in_order keys t vs v k r moved up typed is key at below =
    searched keys k r up at below
    ∙ sym (list_any-IsPermutation (eq_by_cmp compare_keys k) (map key_of vs) keys moved)
    ∙ ap (λ j. is_member (eq_by_cmp compare_keys) (map key_of vs) j) key
    ∙ found_by_key t vs v typed is

-- among values of another type, it is not found
pub not_found : (t : DataType) (vs : List Value) (v : Value) → OfType t vs → (type_of v ≡ t → ⊥) → is_among vs v ≡ false
not_found t [] v typed other = refl
not_found t (w ∷ ws) v typed other = rw (differs (same v w) refl, not_found t ws v typed.1 other) refl where
  differs : (b : Bool) → same v w ≡ b → same v w ≡ false
  differs false e = e
  differs true e = absurd (other (same_types v w e ∙ typed.0))

-- a key that is put into the set is that of a value put at the end
pub key_put : (old new : BTreeSet NumberAndBytes) (vs : List Value) (v : Value) (k : NumberAndBytes)
    → HasKeys old vs → k ≡ key_of v → Updates compare_keys old new k true → IsOrdered compare_keys new → HasKeys new (vs ++ v ∷ [])
key_put old new vs v k has key put order = (found_in_new, order) where
  E : NumberAndBytes → NumberAndBytes → Bool
  E = eq_by_cmp compare_keys

  by_case : (a b : Bool) → cond a true b ≡ (b || (a || false))
  by_case true true = refl
  by_case true false = refl
  by_case false true = refl
  by_case false false = refl

  found_in_new : (q : NumberAndBytes) → contains compare_keys new q ≡ is_member E (map key_of (vs ++ v ∷ [])) q
  found_in_new q =
      put.0 q ∙ ap (λ b. cond (E k q) true b) (has.0 q) ∙ by_case (E k q) (is_member E (map key_of vs) q)
      ∙ ap (λ b. is_member E (map key_of vs) q || (b || false)) (tied_back k q ∙ ap (λ j. E q j) key)
      ∙ sym (ap (λ ks. is_member E ks q) (map-append key_of vs (v ∷ [])) ∙ list_any-append (E q) (map key_of vs) (key_of v ∷ []))

-- a key that was in the set belongs to a value that is kept
pub kept_as_it_is : (keys : BTreeSet NumberAndBytes) (t : DataType) (vs : List Value) (v : Value) (k : NumberAndBytes) (added : Bool)
    → HasKeys keys vs → OfType t vs → type_of v ≡ t → k ≡ key_of v → added ≡ not (contains compare_keys keys k) → added ≡ false → vs ≡ with_new vs v
kept_as_it_is keys t vs v k added has typed is key test old = rw (sym (found keys t vs v k has typed is key), there) refl where
  by_case : (b : Bool) → not b ≡ false → b ≡ true
  by_case true e = refl
  by_case false e = absurd (cc)

  there : contains compare_keys keys k ≡ true
  there = by_case (contains compare_keys keys k) (sym test ∙ old)

-- a key that was not in the set belongs to a value that is new
pub put_at_end : (keys : BTreeSet NumberAndBytes) (t : DataType) (vs : List Value) (v : Value) (k : NumberAndBytes) (added : Bool)
    → HasKeys keys vs → OfType t vs → type_of v ≡ t → k ≡ key_of v → added ≡ not (contains compare_keys keys k) → added ≡ true → vs ++ v ∷ [] ≡ with_new vs v
put_at_end keys t vs v k added has typed is key test new = rw (sym (found keys t vs v k has typed is key), absent) refl where
  by_case : (b : Bool) → not b ≡ true → b ≡ false
  by_case false e = refl
  by_case true e = absurd (cc)

  absent : contains compare_keys keys k ≡ false
  absent = by_case (contains compare_keys keys k) (sym test ∙ new)

-- one more value of the type, if it is new
pub of_type_with_new : (t : DataType) (vs : List Value) (v : Value) → OfType t vs → type_of v ≡ t → OfType t (with_new vs v)
of_type_with_new t vs v typed is = by_case (is_among vs v) where
  by_case : (b : Bool) → OfType t (cond b vs (vs ++ v ∷ []))
  by_case true = typed
  by_case false = of_type_push t vs v typed is
