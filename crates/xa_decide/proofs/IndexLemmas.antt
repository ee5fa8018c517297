-- What an index finds: the items of a key, in their own order.
use Rattle.std.proofs.Common.{◌≡◌, ℕ, zero, suc, ◌+◌, ◌≤◌, Bool, true, false, cond, List, [], ◌∷◌, ◌++◌, take, drop, length, get_or, refl, ap, sym, subst, ◌∙◌, arith, append_assoc}
use Rattle.std.specs.Prelude.{filter, not, ◌&&◌, Option, Some, None, option_map, slice_get}
use Rattle.std.specs.Cmp.{IsTotalOrder, nat_cmp_total, on_total, then_total}
use Rattle.std.specs.Cmp.Lexicographic.{on_texts, options_total}
use Rattle.std.specs.List.{All, AllWithin, filter_map, cons_option, range_with_len}
use Rattle.std.specs.List.Sorted.{IsNonDecreasingBy, IsPartitionedBy, IsPartitionPoint, IsStableBy, ties}
use Rattle.std.specs.Option.{option_cmp}
use Rattle.std.specs.Ordering.{ordering_index, ordering_reverse, is_eq, is_le, is_lt}
use Rattle.std.specs.declared.cmp.Ordering.{Ordering}
use Rattle.std.specs.declared.cmp.Ordering.TheVariants.{Less, Equal, Greater}
use Rattle.std.proofs.lemmas.Bool.{true≢false}
use Rattle.std.proofs.lemmas.List.{get_or-drop, length-drop, length-append}
use Rattle.std.proofs.lemmas.List.Elements.{filter_agree, filter_passes}
use Rattle.std.proofs.lemmas.List.Sorted.{IsNonDecreasingBy-drop}
use Rattle.std.proofs.lemmas.Option.{slice_get-get_or}
use Rattle.std.proofs.Math.Seq.{get_or-append_seam}
use Rattle.xa_value.proofs.OrderLemmas.{equal_from_is_eq}
use Rattle.xa_decide.specs.indexing.Index.{Sought, compare_keys, order_at, with_key}

-- ---- orderings

less_is_not_equal : (o : Ordering) → is_lt o ≡ true → is_eq o ≡ false
less_is_not_equal Less e = refl
less_is_not_equal Equal e = absurd (true≢false (sym e))
less_is_not_equal Greater e = refl

between_is_equal : (o : Ordering) → is_lt o ≡ false → is_le o ≡ true → is_eq o ≡ true
between_is_equal Less e f = absurd (true≢false e)
between_is_equal Equal e f = refl
between_is_equal Greater e f = absurd (true≢false (sym f))

above_is_not_equal : (o : Ordering) → is_le o ≡ false → is_eq o ≡ false
above_is_not_equal Less e = refl
above_is_not_equal Equal e = absurd (true≢false e)
above_is_not_equal Greater e = refl

tied : (o : Ordering) → (not (is_lt (ordering_reverse o)) && not (is_lt o)) ≡ is_eq o
tied Less = refl
tied Equal = refl
tied Greater = refl

stays_less : (a b : Ordering) → ordering_index a ≤ ordering_index b → is_lt b ≡ true → is_lt a ≡ true
stays_less Less b h e = refl
stays_less Equal Less h e = absurd (omega (arith, h))
stays_less Equal Equal h e = e
stays_less Equal Greater h e = e
stays_less Greater Less h e = absurd (omega (arith, h))
stays_less Greater Equal h e = e
stays_less Greater Greater h e = e

stays_up_to : (a b : Ordering) → ordering_index a ≤ ordering_index b → is_le b ≡ true → is_le a ≡ true
stays_up_to Less b h e = refl
stays_up_to Equal b h e = refl
stays_up_to Greater Less h e = absurd (omega (arith, h))
stays_up_to Greater Equal h e = absurd (omega (arith, h))
stays_up_to Greater Greater h e = e

-- ---- a part of a list in order

module _ {X : Type 0} (ord : X → Ordering) where
  pub parted_below : (xs : List X) → IsNonDecreasingBy (λ y. ordering_index (ord y)) xs → IsPartitionedBy (λ y. is_lt (ord y)) xs
  parted_below xs up i j d le lt e = stays_less (ord (get_or xs i d)) (ord (get_or xs j d)) (up i j d le lt) e

  pub parted_up_to : (xs : List X) (n : ℕ) → IsNonDecreasingBy (λ y. ordering_index (ord y)) xs → IsPartitionedBy (λ y. is_le (ord y)) (drop n xs)
  parted_up_to xs n up i j d le lt e =
      stays_up_to (ord (get_or (drop n xs) i d)) (ord (get_or (drop n xs) j d)) (IsNonDecreasingBy-drop (λ y. ordering_index (ord y)) n xs up i j d le lt) e

  one : (x : X) (xs : List X) (b : Bool) → is_eq (ord x) ≡ b → filter (λ y. is_eq (ord y)) (x ∷ xs) ≡ cond b (x ∷ filter (λ y. is_eq (ord y)) xs) (filter (λ y. is_eq (ord y)) xs)
  one x xs b e = ap (λ c. cond c (x ∷ filter (λ y. is_eq (ord y)) xs) (filter (λ y. is_eq (ord y)) xs)) e

  none_before : (xs : List X) (i : ℕ) → AllWithin (λ y. is_lt (ord y) ≡ true) xs 0 i → filter (λ y. is_eq (ord y)) xs ≡ filter (λ y. is_eq (ord y)) (drop i xs)
  none_before xs zero h = refl
  none_before [] (suc i) h = refl
  none_before (x ∷ xs) (suc i) h =
      one x xs false (less_is_not_equal (ord x) (h 0 x (omega arith) (omega arith)))
      ∙ none_before xs i (λ k d low high. h (suc k) d (omega arith) (omega (arith, high)))

  first_ones : (xs : List X) (c : ℕ) → AllWithin (λ y. is_lt (ord y) ≡ false) xs 0 (length xs) → AllWithin (λ y. is_le (ord y) ≡ true) xs 0 c
      → AllWithin (λ y. is_le (ord y) ≡ false) xs c (length xs) → filter (λ y. is_eq (ord y)) xs ≡ take c xs
  first_ones [] zero not_less up_to above = refl
  first_ones [] (suc c) not_less up_to above = refl
  first_ones (x ∷ xs) zero not_less up_to above =
      one x xs false (above_is_not_equal (ord x) (above 0 x (omega arith) (omega arith)))
      ∙ first_ones xs zero (λ k d low high. not_less (suc k) d (omega arith) (omega (arith, high))) (λ k d low high. absurd (omega (arith, high)))
      (λ k d low high. above (suc k) d (omega arith) (omega (arith, high)))
  first_ones (x ∷ xs) (suc c) not_less up_to above =
      one x xs true (between_is_equal (ord x) (not_less 0 x (omega arith) (omega arith)) (up_to 0 x (omega arith) (omega arith)))
      ∙ ap (λ ys. x ∷ ys) (first_ones xs c (λ k d low high. not_less (suc k) d (omega arith) (omega (arith, high)))
      (λ k d low high. up_to (suc k) d (omega arith) (omega (arith, high))) (λ k d low high. above (suc k) d (omega (arith, low)) (omega (arith, high))))

  pub equal_part : (xs : List X) (i c : ℕ) → IsPartitionPoint (λ y. is_lt (ord y) ≡ true) (λ y. is_lt (ord y) ≡ false) xs i
      → IsPartitionPoint (λ y. is_le (ord y) ≡ true) (λ y. is_le (ord y) ≡ false) (drop i xs) c → filter (λ y. is_eq (ord y)) xs ≡ take c (drop i xs)
  equal_part xs i c first second =
      none_before xs i first.0
      ∙ first_ones (drop i xs) c (λ k d low high. subst (λ y. is_lt (ord y) ≡ false) (sym (get_or-drop i xs k d))
      (first.1 (i + k) d (omega arith) (let l = length-drop i xs in omega (arith, high, l)))) second.0 second.1

-- ---- the order of the items themselves

module _ {K X : Type 0} {R : K → K → Ordering} (o : IsTotalOrder R) (key : X → K) (k : K) where
  alike : (x y : X) → is_eq (R (key x) k) ≡ true → ties (λ a b. is_lt (R (key a) (key b))) x y ≡ is_eq (R (key y) k)
  alike x y e =
      let same : R (key x) (key y) ≡ R k (key y) = o.congr (key x) k (key y) (equal_from_is_eq (R (key x) k) e) in
      let left : R (key x) (key y) ≡ ordering_reverse (R (key y) k) = same ∙ o.antisymm k (key y) in
      let right : R (key y) (key x) ≡ R (key y) k = o.antisymm (key y) (key x) ∙ ap ordering_reverse same ∙ sym (o.antisymm (key y) k) in
      ap (λ a. not (is_lt a) && not (is_lt (R (key y) (key x)))) left
      ∙ ap (λ a. not (is_lt (ordering_reverse (R (key y) k))) && not (is_lt a)) right ∙ tied (R (key y) k)

  first_passes : (xs : List X) (y : X) (ys : List X) → filter (λ z. is_eq (R (key z) k)) xs ≡ y ∷ ys → is_eq (R (key y) k) ≡ true
  first_passes xs y ys e =
      subst (λ zs. All (λ z. is_eq (R (key z) k) ≡ true) zs) e (filter_passes (λ z. is_eq (R (key z) k)) xs) 0 y (omega arith)

  pub found_alike : (xs ys : List X) → IsStableBy (λ a b. is_lt (R (key a) (key b))) xs ys
      → filter (λ z. is_eq (R (key z) k)) ys ≡ filter (λ z. is_eq (R (key z) k)) xs
  found_alike xs ys stable = by_case (filter (λ z. is_eq (R (key z) k)) ys) (filter (λ z. is_eq (R (key z) k)) xs) refl refl where
    by_one : (x : X) → is_eq (R (key x) k) ≡ true → filter (λ z. is_eq (R (key z) k)) ys ≡ filter (λ z. is_eq (R (key z) k)) xs
    by_one x e =
        filter_agree (λ z. is_eq (R (key z) k)) (ties (λ a b. is_lt (R (key a) (key b))) x) (λ z. sym (alike x z e)) ys
        ∙ stable x ∙ filter_agree (ties (λ a b. is_lt (R (key a) (key b))) x) (λ z. is_eq (R (key z) k)) (λ z. alike x z e) xs

    by_case : (found wanted : List X) → filter (λ z. is_eq (R (key z) k)) ys ≡ found → filter (λ z. is_eq (R (key z) k)) xs ≡ wanted
        → filter (λ z. is_eq (R (key z) k)) ys ≡ filter (λ z. is_eq (R (key z) k)) xs
    by_case [] [] e f = e ∙ sym f
    by_case (x ∷ found) wanted e f = by_one x (first_passes ys x found e)
    by_case [] (x ∷ wanted) e f = by_one x (first_passes xs x wanted f)

-- ---- keys

pub compare_total : IsTotalOrder compare_keys
compare_total =
    then_total (then_total (then_total (then_total (on_total (λ k. k.number) nat_cmp_total) (on_texts (λ k. k.category))) (on_texts (λ k. k.entity))) (on_texts (λ k. k.id))) (on_texts (λ k. k.issuer))

pub keys_total : IsTotalOrder (option_cmp compare_keys)
keys_total = options_total compare_total

-- ---- what is left out doesn't pass either

module _ {X : Type 0} (p q : X → Bool) (within : (x : X) → p x ≡ true → q x ≡ true) where
  one_of : (x : X) (xs : List X) (a b : Bool) → p x ≡ a → q x ≡ b → filter p (filter q xs) ≡ filter p xs → filter p (filter q (x ∷ xs)) ≡ filter p (x ∷ xs)
  one_of x xs a true e f rest =
      ap (λ c. filter p (cond c (x ∷ filter q xs) (filter q xs))) f ∙ ap (λ ys. cond (p x) (x ∷ ys) ys) rest
  one_of x xs true false e f rest = absurd (true≢false (sym (within x e) ∙ f))
  one_of x xs false false e f rest =
      ap (λ c. filter p (cond c (x ∷ filter q xs) (filter q xs))) f ∙ rest ∙ sym (ap (λ c. cond c (x ∷ filter p xs) (filter p xs)) e)

  pub filter_within : (xs : List X) → filter p (filter q xs) ≡ filter p xs
  filter_within [] = refl
  filter_within (x ∷ xs) = one_of x xs (p x) (q x) refl refl (filter_within xs)

-- ---- from places to items

module _ {X : Type 0} (key_of : X → Sought) (key : Sought) where
  one_place : (all : List X) (p : ℕ) (ps : List ℕ) (x : X) → slice_get all p ≡ Some x
      → filter_map (slice_get all) (filter (λ q. is_eq (order_at key_of all key q)) (p ∷ ps))
      ≡ cond (is_eq (compare_keys (key_of x) key)) (x ∷ filter_map (slice_get all) (filter (λ q. is_eq (order_at key_of all key q)) ps))
      (filter_map (slice_get all) (filter (λ q. is_eq (order_at key_of all key q)) ps))
  one_place all p ps x e =
      ap (λ o. filter_map (slice_get all) (cond (is_eq (option_cmp compare_keys (option_map key_of o) (Some key)))
      (p ∷ filter (λ q. is_eq (order_at key_of all key q)) ps) (filter (λ q. is_eq (order_at key_of all key q)) ps))) e
      ∙ by_case (is_eq (compare_keys (key_of x) key)) where
        by_case : (b : Bool) → filter_map (slice_get all) (cond b (p ∷ filter (λ q. is_eq (order_at key_of all key q)) ps) (filter (λ q. is_eq (order_at key_of all key q)) ps))
            ≡ cond b (x ∷ filter_map (slice_get all) (filter (λ q. is_eq (order_at key_of all key q)) ps)) (filter_map (slice_get all) (filter (λ q. is_eq (order_at key_of all key q)) ps))
        by_case true = ap (λ o. cons_option o (filter_map (slice_get all) (filter (λ q. is_eq (order_at key_of all key q)) ps))) e
        by_case false = refl

  items_behind : (before rest : List X) (n : ℕ) → n ≡ length before
      → filter_map (slice_get (before ++ rest)) (filter (λ q. is_eq (order_at key_of (before ++ rest) key q)) (range_with_len n (length rest))) ≡ with_key key_of key rest
  items_behind before [] n e = refl
  items_behind before (x ∷ rest) n e =
      one_place (before ++ x ∷ rest) n (range_with_len (n + 1) (length rest)) x here
      ∙ ap (λ ys. cond (is_eq (compare_keys (key_of x) key)) (x ∷ ys) ys)
      (next (items_behind (before ++ x ∷ []) rest (n + 1) (let l = length-append before (x ∷ []) in omega (arith, e, l)))) where
        here : slice_get (before ++ x ∷ rest) n ≡ Some x
        here =
            ap (slice_get (before ++ x ∷ rest)) e
            ∙ slice_get-get_or (before ++ x ∷ rest) (length before) x (let l = length-append before (x ∷ rest) in omega (arith, l))
            ∙ ap Some (get_or-append_seam before x rest x)

        next : filter_map (slice_get ((before ++ x ∷ []) ++ rest)) (filter (λ q. is_eq (order_at key_of ((before ++ x ∷ []) ++ rest) key q)) (range_with_len (n + 1) (length rest))) ≡ with_key key_of key rest
            → filter_map (slice_get (before ++ x ∷ rest)) (filter (λ q. is_eq (order_at key_of (before ++ x ∷ rest) key q)) (range_with_len (n + 1) (length rest))) ≡ with_key key_of key rest
        next found =
            subst (λ all. filter_map (slice_get all) (filter (λ q. is_eq (order_at key_of all key q)) (range_with_len (n + 1) (length rest))) ≡ with_key key_of key rest)
            (append_assoc before (x ∷ []) rest) found

  pub items_found : (items : List X) → filter_map (slice_get items) (filter (λ q. is_eq (order_at key_of items key q)) (range_with_len 0 (length items))) ≡ with_key key_of key items
  items_found items = items_behind [] items 0 refl

  places_kept : (all : List X) (ps : List ℕ)
      → with_key key_of key (filter_map (slice_get all) ps) ≡ filter_map (slice_get all) (filter (λ q. is_eq (order_at key_of all key q)) ps)
  places_kept all [] = refl
  places_kept all (p ∷ ps) = by_case (slice_get all p) refl (places_kept all ps) where
    by_case : (o : Option X) → slice_get all p ≡ o
        → with_key key_of key (filter_map (slice_get all) ps) ≡ filter_map (slice_get all) (filter (λ q. is_eq (order_at key_of all key q)) ps)
        → with_key key_of key (filter_map (slice_get all) (p ∷ ps)) ≡ filter_map (slice_get all) (filter (λ q. is_eq (order_at key_of all key q)) (p ∷ ps))
    by_case None e rest =
        ap (λ o. with_key key_of key (cons_option o (filter_map (slice_get all) ps))) e ∙ rest
        ∙ sym (ap (λ o. filter_map (slice_get all) (cond (is_eq (option_cmp compare_keys (option_map key_of o) (Some key)))
        (p ∷ filter (λ q. is_eq (order_at key_of all key q)) ps) (filter (λ q. is_eq (order_at key_of all key q)) ps))) e)
    by_case (Some x) e rest =
        ap (λ o. with_key key_of key (cons_option o (filter_map (slice_get all) ps))) e
        ∙ ap (λ ys. cond (is_eq (compare_keys (key_of x) key)) (x ∷ ys) ys) rest ∙ sym (one_place all p ps x e)

  -- all places have the items of the key in their own order
  pub few_found : (items : List X) → with_key key_of key (filter_map (slice_get items) (range_with_len 0 (length items))) ≡ with_key key_of key items
  few_found items = places_kept items (range_with_len 0 (length items)) ∙ items_found items

  pub found_twice : (items found : List X) → found ≡ with_key key_of key items → with_key key_of key found ≡ with_key key_of key items
  found_twice items found e =
      ap (λ xs. with_key key_of key xs) e
      ∙ filter_within (λ x. is_eq (compare_keys (key_of x) key)) (λ x. is_eq (compare_keys (key_of x) key)) (λ x h. h) items
