-- The laws of equality and of order.
use Rattle.std.proofs.Common.{◌≡◌, ℕ, Bool, true, false, Some, None, List, get_or, ℤ, ◌<ℤ◌, refl, sym, ap, subst, ◌∙◌}
use Rattle.std.specs.Prelude.{◌==◌, bytes_eq, option_map}
use Rattle.std.specs.Cmp.{IsEquivalence, IsTotalOrder, int_ranks}
use Rattle.std.specs.Ordering.{int_eq, int_cmp, nat_cmp, ordering_reverse, ordering_then, MatchOrdering, is_eq}
use Rattle.std.specs.Cmp.Lexicographic.{slice_cmp}
use Rattle.std.specs.declared.cmp.Ordering.{Ordering}
use Rattle.std.specs.declared.cmp.Ordering.TheVariants.{Less, Equal, Greater}
use Rattle.std.proofs.lemmas.Cmp.{int_cmp_total, nat_list_cmp_total, on_total, then_total, nat_eq_equiv, int_eq_equiv, nat_list_eq_equiv, and_equiv, on_equiv}
use Rattle.std.proofs.lemmas.Bool.{eqb-true, and_parts}
use Rattle.std.proofs.lemmas.Slice.Eq.{bytes_eq-Decides}
use Rattle.std.proofs.lemmas.Bool.Decides.{Decides-int_eq}
use Rattle.std.proofs.lemmas.Map.Text.{is_eq-slice_cmp}
use Rattle.xa_value.specs.declared.data_type.DataType.{DataType}
use Rattle.xa_value.specs.declared.data_type.DataType.TheVariants.{String, Boolean, Integer, Date, Time, DateTime, DayTimeDuration, YearMonthDuration, AnyUri, HexBinary, Base64Binary}
use Rattle.xa_value.specs.Types.{all_types, place_of}
use Rattle.xa_value.specs.declared.value.Value.{Value}
use Rattle.xa_value.specs.Order.{type_of, number_of, bytes_of, NumberAndBytes, key_of, compare_keys, equal_keys, same, is_ordered, order, IsOrder, KeysTellApart}

-- equal keys are an equivalence
pub keys_equal : IsEquivalence equal_keys
keys_equal = and_equiv (on_equiv (λ k. k.number) int_eq_equiv) (on_equiv (λ k. k.bytes) nat_list_eq_equiv)

-- keys are equal where they compare as equal
pub keys_match : (j k : NumberAndBytes) → equal_keys j k ≡ is_eq (compare_keys j k)
keys_match j k = by_number (int_cmp j.number k.number) refl where
  by_number : (o : Ordering) → int_cmp j.number k.number ≡ o → equal_keys j k ≡ is_eq (ordering_then (int_cmp j.number k.number) (slice_cmp nat_cmp j.bytes k.bytes))
  by_number Less e = rw e refl
  by_number Greater e = rw e refl
  by_number Equal e = rw e (sym (is_eq-slice_cmp j.bytes k.bytes))

-- `same` is an equivalence
pub same_is_equivalence : IsEquivalence same
unfolding same
same_is_equivalence = and_equiv (on_equiv (λ v. place_of (type_of v)) nat_eq_equiv) (on_equiv key_of keys_equal)

-- keys compare totally
pub keys_ordered : IsTotalOrder compare_keys
keys_ordered = then_total (on_total (λ k. k.number) int_cmp_total) (on_total (λ k. k.bytes) nat_list_cmp_total)

-- values compare totally by their keys
abbrev compared : Value → Value → Ordering
compared a b = compare_keys (key_of a) (key_of b)

compared_is_total : IsTotalOrder compared
compared_is_total = on_total key_of keys_ordered

-- the type at a place
type_at : ℕ → DataType
type_at n = get_or all_types n String

unfolded_type_at : (t : DataType) → type_at (place_of t) ≡ t
unfolding type_at
unfolded_type_at String = refl
unfolded_type_at Boolean = refl
unfolded_type_at Integer = refl
unfolded_type_at Date = refl
unfolded_type_at Time = refl
unfolded_type_at DateTime = refl
unfolded_type_at DayTimeDuration = refl
unfolded_type_at YearMonthDuration = refl
unfolded_type_at AnyUri = refl
unfolded_type_at HexBinary = refl
unfolded_type_at Base64Binary = refl

-- types at one place are one type
same_place : (s t : DataType) → (place_of s == place_of t) ≡ true → s ≡ t
same_place s t e = sym (unfolded_type_at s) ∙ ap type_at (eqb-true (place_of s) (place_of t) e) ∙ unfolded_type_at t

order_unlike : (a b : Value) → (place_of (type_of a) == place_of (type_of b)) ≡ false → order a b ≡ None
unfolding order
order_unlike a b e = rw e refl

order_unordered : (a b : Value) → (place_of (type_of a) == place_of (type_of b)) ≡ true → is_ordered (type_of a) ≡ false → order a b ≡ None
unfolding order
order_unordered a b e o = rw (e, o) refl

order_alike : (a b : Value) → (place_of (type_of a) == place_of (type_of b)) ≡ true → is_ordered (type_of a) ≡ true → order a b ≡ Some (compared a b)
unfolding order
order_alike a b e o = rw (e, o) refl

-- what an order shows
record Ordered (a b : Value) (o : Ordering) : Type 0 where
  place : (place_of (type_of a) == place_of (type_of b)) ≡ true
  has_order : is_ordered (type_of a) ≡ true
  outcome : compared a b ≡ o

ordered : (a b : Value) (o : Ordering) → order a b ≡ Some o → Ordered a b o
ordered a b o h = by_place (place_of (type_of a) == place_of (type_of b)) refl
  where
    by_order : (c : Bool) → (place_of (type_of a) == place_of (type_of b)) ≡ true → is_ordered (type_of a) ≡ c → Ordered a b o
    by_order true e i = record { place = e; has_order = i; outcome = let k : Some (compared a b) ≡ Some o = sym (order_alike a b e i) ∙ h in cc }
    by_order false e i = absurd (let k : None ≡ Some o = sym (order_unordered a b e i) ∙ h in cc)

    by_place : (c : Bool) → (place_of (type_of a) == place_of (type_of b)) ≡ c → Ordered a b o
    by_place true e = by_order (is_ordered (type_of a)) e refl
    by_place false e = absurd (let k : None ≡ Some o = sym (order_unlike a b e) ∙ h in cc)

-- two that compare equal one after the other are equal both times
both_equal : (o p : Ordering) → ordering_then o p ≡ Equal → (o ≡ Equal) × (p ≡ Equal)
both_equal Less p e = absurd (cc)
both_equal Equal p e = (refl, e)
both_equal Greater p e = absurd (cc)

equal_numbers : (x y : ℤ) → int_cmp x y ≡ Equal → int_eq x y ≡ true
equal_numbers x y e =
    let P : Ordering → Type 0 = λ o. MatchOrdering o (x <ℤ y) (x ≡ y) (y <ℤ x) in
    (Decides-int_eq x y).1 (subst P e (int_ranks x y))

equal_bytes : (xs ys : List ℕ) → slice_cmp nat_cmp xs ys ≡ Equal → bytes_eq xs ys ≡ true
equal_bytes xs ys e = sym (is_eq-slice_cmp xs ys) ∙ ap is_eq e

same_from_equal : (a b : Value) → order a b ≡ Some Equal → same a b ≡ true
unfolding same
same_from_equal a b h =
    let k = ordered a b Equal h in
    let parts = both_equal _ _ k.outcome in
    rw (k.place, equal_numbers (number_of a) (number_of b) parts.0, equal_bytes (bytes_of a) (bytes_of b) parts.1) refl

back : (a b : Value) → (place_of (type_of a) == place_of (type_of b)) ≡ true → (place_of (type_of b) == place_of (type_of a)) ≡ true
back a b e = nat_eq_equiv.symm (place_of (type_of b)) (place_of (type_of a)) ∙ e

order_reversed : (a b : Value) → order a b ≡ option_map ordering_reverse (order b a)
order_reversed a b = by_place (place_of (type_of a) == place_of (type_of b)) refl
  where
    by_order : (c : Bool) → (place_of (type_of a) == place_of (type_of b)) ≡ true → is_ordered (type_of a) ≡ c → order a b ≡ option_map ordering_reverse (order b a)
    by_order true e o =
        let o' : is_ordered (type_of b) ≡ true = sym (ap is_ordered (same_place (type_of a) (type_of b) e)) ∙ o in
        order_alike a b e o ∙ ap Some (compared_is_total.antisymm a b) ∙ sym (ap (option_map ordering_reverse) (order_alike b a (back a b e) o'))
    by_order false e o =
        let o' : is_ordered (type_of b) ≡ false = sym (ap is_ordered (same_place (type_of a) (type_of b) e)) ∙ o in
        order_unordered a b e o ∙ sym (ap (option_map ordering_reverse) (order_unordered b a (back a b e) o'))

    by_place : (c : Bool) → (place_of (type_of a) == place_of (type_of b)) ≡ c → order a b ≡ option_map ordering_reverse (order b a)
    by_place true e = by_order (is_ordered (type_of a)) e refl
    by_place false e = order_unlike a b e ∙ sym (ap (option_map ordering_reverse) (order_unlike b a (nat_eq_equiv.symm (place_of (type_of b)) (place_of (type_of a)) ∙ e)))

order_transitive : (a b c : Value) → order a b ≡ Some Less → order b c ≡ Some Less → order a c ≡ Some Less
order_transitive a b c h k =
    let first = ordered a b Less h in
    let second = ordered b c Less k in
    let e : (place_of (type_of a) == place_of (type_of c)) ≡ true = nat_eq_equiv.congr (place_of (type_of a)) (place_of (type_of b)) (place_of (type_of c)) first.place ∙ second.place in
    order_alike a c e first.has_order ∙ ap Some (compared_is_total.trans a b c first.outcome second.outcome)

-- what two values that are the same have in common
same_places : (a b : Value) → same a b ≡ true → (place_of (type_of a) == place_of (type_of b)) ≡ true
unfolding same
same_places a b e = (and_parts (place_of (type_of a) == place_of (type_of b)) (equal_keys (key_of a) (key_of b)) e).0

same_keys : (a b : Value) → same a b ≡ true → equal_keys (key_of a) (key_of b) ≡ true
unfolding same
same_keys a b e = (and_parts (place_of (type_of a) == place_of (type_of b)) (equal_keys (key_of a) (key_of b)) e).1

same_number : (a b : Value) → same a b ≡ true → number_of a ≡ number_of b
same_number a b e =
    (Decides-int_eq (number_of a) (number_of b)).0 (and_parts (int_eq (number_of a) (number_of b)) (bytes_eq (bytes_of a) (bytes_of b)) (same_keys a b e)).0

same_bytes : (a b : Value) → same a b ≡ true → bytes_of a ≡ bytes_of b
same_bytes a b e =
    (bytes_eq-Decides (bytes_of a) (bytes_of b)).0 (and_parts (int_eq (number_of a) (number_of b)) (bytes_eq (bytes_of a) (bytes_of b)) (same_keys a b e)).1

pub equal_from_is_eq : (o : Ordering) → is_eq o ≡ true → o ≡ Equal
equal_from_is_eq Equal e = refl
equal_from_is_eq Less e = absurd (cc)
equal_from_is_eq Greater e = absurd (cc)

order_tied : (a b : Value) → is_ordered (type_of a) ≡ true → same a b ≡ true → order a b ≡ Some Equal
order_tied a b o e =
    order_alike a b (same_places a b e) o ∙ ap Some (equal_from_is_eq (compared a b) (sym (keys_match (key_of a) (key_of b)) ∙ same_keys a b e))

order_congruent : (a b c : Value) → same a b ≡ true → order a c ≡ order b c
unfolding order
order_congruent a b c e =
    rw (same_place (type_of a) (type_of b) (same_places a b e), same_number a b e, same_bytes a b e) refl

-- `order` orders what it compares
pub order_is_order : IsOrder
order_is_order = record { equal = same_from_equal; tied = order_tied; congruent = order_congruent; reversed = order_reversed; transitive = order_transitive }

-- of one type, keys compare as equal exactly where values are the same
pub keys_tell_apart : KeysTellApart
unfolding same
keys_tell_apart a b e = rw (here, keys_match (key_of a) (key_of b)) refl where
  here : (place_of (type_of a) == place_of (type_of b)) ≡ true
  here = ap (λ t. place_of t == place_of (type_of b)) e ∙ nat_eq_equiv.refl (place_of (type_of b))

-- values that are the same are of one type
pub same_types : (a b : Value) → same a b ≡ true → type_of a ≡ type_of b
same_types a b e = same_place (type_of a) (type_of b) (same_places a b e)
