-- Items by their keys.
use Rattle.std.specs.Prelude.{◌≡◌, ℕ, Bool, false, ◌&&◌, ◌==◌, nat_le, List, filter}
use Rattle.std.specs.Prelude.{length, Option, Some, option_map, bytes_eq, slice_get}
use Rattle.std.specs.Cmp.Lexicographic.{slice_cmp}
use Rattle.std.specs.List.{range_with_len}
use Rattle.std.specs.List.Sorted.{IsSortedByKey, IsStableByKey}
use Rattle.std.specs.Option.{option_cmp}
use Rattle.std.specs.Ordering.{nat_cmp, on, then_cmp, is_eq}
use Rattle.std.specs.declared.cmp.Ordering.{Ordering}

-- what is looked up: a number, and texts, each empty if it isn't a part of the key
pub record Sought : Type 0 where
  pub number : ℕ
  pub category : List ℕ
  pub entity : List ℕ
  pub id : List ℕ
  pub issuer : List ℕ

abbrev pub sought : ℕ → List ℕ → List ℕ → List ℕ → List ℕ → Sought
sought number category entity id issuer =
    record { number = number; category = category; entity = entity; id = id; issuer = issuer }

abbrev pub compare_texts : List ℕ → List ℕ → Ordering
compare_texts = slice_cmp nat_cmp

-- the order of keys: by the number, and then by the texts
abbrev pub compare_keys : Sought → Sought → Ordering
compare_keys =
    then_cmp
    (then_cmp (then_cmp (then_cmp (on (λ k. k.number) nat_cmp) (on (λ k. k.category) compare_texts))
    (on (λ k. k.entity) compare_texts))
    (on (λ k. k.id) compare_texts))
    (on (λ k. k.issuer) compare_texts)

abbrev pub equal_keys : Sought → Sought → Bool
equal_keys j k =
    ((((j.number == k.number) && bytes_eq j.category k.category) && bytes_eq j.entity k.entity) && bytes_eq j.id k.id)
    && bytes_eq j.issuer k.issuer

-- the key of the item at a place
abbrev pub key_at : {X : Type 0} → (X → Sought) → List X → ℕ → Option Sought
key_at key_of items place = option_map key_of (slice_get items place)

-- how the key of the item at a place compares with a key
abbrev pub order_at : {X : Type 0} → (X → Sought) → List X → Sought → ℕ → Ordering
order_at key_of items key place = option_cmp compare_keys (key_at key_of items place) (Some key)

-- all places in the order of the keys; those of one key in their own order
abbrev pub IsInOrder : {X : Type 0} → (X → Sought) → List X → List ℕ → Type 0
IsInOrder key_of items order =
    IsSortedByKey (key_at key_of items) (option_cmp compare_keys) order
    × IsStableByKey (key_at key_of items) (option_cmp compare_keys) (range_with_len 0 (length items)) order

-- `IsInOrder`, if there are more than eight items; fewer are looked at one after another
abbrev pub IsOrder : {X : Type 0} → (X → Sought) → List X → List ℕ → Type 0
IsOrder key_of items order = nat_le (length items) 8 ≡ false → IsInOrder key_of items order

-- the items of that key
abbrev pub with_key : {X : Type 0} → (X → Sought) → Sought → List X → List X
with_key key_of key items = filter (λ x. is_eq (compare_keys (key_of x) key)) items
