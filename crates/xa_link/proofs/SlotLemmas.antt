-- Patterns that have one slot see versions alike, so that an order for one of them is one for each.
use Rattle.std.proofs.Common.{◌≡◌, ℕ, zero, suc, ◌+◌, ◌*◌, ◌<◌, ◌≤◌, ◌==◌, Bool, true, false, List, [], ◌∷◌, length, get_or, refl, sym, ap, subst, ◌∙◌, arith, slice_get, slice_set, Option, Some, None}
use Rattle.std.specs.Prelude.{if◌then◌else◌}
use Rattle.std.specs.Option.{option_cmp}
use Rattle.std.specs.Ordering.{is_lt, nat_cmp, ordering_then}
use Rattle.std.proofs.lemmas.Bool.{eqb-true, true≢false}
use Rattle.std.proofs.lemmas.Bool.Decides.{nat_tests}
use Rattle.std.proofs.lemmas.List.{get_or-set_same, get_or-set_other}
use Rattle.xa_policy.specs.declared.pattern.PatternPart.{PatternPart}
use Rattle.xa_policy.specs.declared.pattern.PatternPart.TheVariants.{Number, AnyNumber, AnyNumbers}
use Rattle.xa_link.specs.declared.active.Active.{Active}
use Rattle.xa_link.specs.placing.Order.{IsOrder, IsOrderIfAny, compare_documents}
use Rattle.xa_link.specs.placing.Orders.{AreOrders, HasOrder, SameOrders, order_in, room_of, slot, slot_by}
use Rattle.xa_link.specs.placing.Seen.{seen, seen_by}

-- ---- slots

slot_least : (parts : List PatternPart) → 2 ≤ slot parts
slot_least [] = omega arith
slot_least (Number m ∷ parts) = let least = slot_least parts in omega (arith, least)
slot_least (AnyNumber ∷ parts) = let least = slot_least parts in omega (arith, least)
slot_least (AnyNumbers ∷ parts) = omega arith

one_slot : (ps qs : List PatternPart) → slot ps ≡ slot qs → (v : List ℕ) → seen ps v ≡ seen qs v
one_slot [] [] e v = refl
one_slot [] (Number k ∷ qs) e v = let f : 2 ≡ 2 * slot qs = e in let least = slot_least qs in absurd (omega (arith, f, least))
one_slot [] (AnyNumber ∷ qs) e v = let f : 2 ≡ 2 * slot qs + 1 = e in absurd (omega (arith, f))
one_slot [] (AnyNumbers ∷ qs) e v = let f : 2 ≡ 3 = e in absurd (omega (arith, f))
one_slot (Number m ∷ ps) [] e v = let f : 2 * slot ps ≡ 2 = e in let least = slot_least ps in absurd (omega (arith, f, least))
one_slot (Number m ∷ ps) (Number k ∷ qs) e [] = refl
one_slot (Number m ∷ ps) (Number k ∷ qs) e (n ∷ v) = let f : 2 * slot ps ≡ 2 * slot qs = e in ap (λ ns. n ∷ ns) (one_slot ps qs (omega (arith, f)) v)
one_slot (Number m ∷ ps) (AnyNumber ∷ qs) e v = let f : 2 * slot ps ≡ 2 * slot qs + 1 = e in absurd (omega (arith, f))
one_slot (Number m ∷ ps) (AnyNumbers ∷ qs) e v = let f : 2 * slot ps ≡ 3 = e in absurd (omega (arith, f))
one_slot (AnyNumber ∷ ps) [] e v = let f : 2 * slot ps + 1 ≡ 2 = e in absurd (omega (arith, f))
one_slot (AnyNumber ∷ ps) (Number k ∷ qs) e v = let f : 2 * slot ps + 1 ≡ 2 * slot qs = e in absurd (omega (arith, f))
one_slot (AnyNumber ∷ ps) (AnyNumber ∷ qs) e [] = refl
one_slot (AnyNumber ∷ ps) (AnyNumber ∷ qs) e (n ∷ v) = let f : 2 * slot ps + 1 ≡ 2 * slot qs + 1 = e in ap (λ ns. 0 ∷ ns) (one_slot ps qs (omega (arith, f)) v)
one_slot (AnyNumber ∷ ps) (AnyNumbers ∷ qs) e v = let f : 2 * slot ps + 1 ≡ 3 = e in let least = slot_least ps in absurd (omega (arith, f, least))
one_slot (AnyNumbers ∷ ps) [] e v = let f : 3 ≡ 2 = e in absurd (omega (arith, f))
one_slot (AnyNumbers ∷ ps) (Number k ∷ qs) e v = let f : 3 ≡ 2 * slot qs = e in absurd (omega (arith, f))
one_slot (AnyNumbers ∷ ps) (AnyNumber ∷ qs) e v = let f : 3 ≡ 2 * slot qs + 1 = e in let least = slot_least qs in absurd (omega (arith, f, least))
one_slot (AnyNumbers ∷ ps) (AnyNumbers ∷ qs) e [] = refl
one_slot (AnyNumbers ∷ ps) (AnyNumbers ∷ qs) e (n ∷ v) = refl

one_slot_by : (p q : Option (List PatternPart)) → slot_by p ≡ slot_by q → (v : List ℕ) → seen_by p v ≡ seen_by q v
one_slot_by None None e v = refl
one_slot_by None (Some qs) e v = let f : 0 ≡ slot qs = e in let least = slot_least qs in absurd (omega (arith, f, least))
one_slot_by (Some ps) None e v = let f : slot ps ≡ 0 = e in let least = slot_least ps in absurd (omega (arith, f, least))
one_slot_by (Some ps) (Some qs) e v = one_slot ps qs e v

pub room_least : (parts : List PatternPart) → 4 ≤ room_of parts
room_least [] = omega arith
room_least (part ∷ parts) = let least = room_least parts in omega (arith, least)

pub room_small : (parts : List PatternPart) → length parts ≤ 8 → room_of parts ≤ 1024
room_small [] h = omega arith
room_small (a ∷ []) h = omega arith
room_small (a ∷ b ∷ []) h = omega arith
room_small (a ∷ b ∷ c ∷ []) h = omega arith
room_small (a ∷ b ∷ c ∷ d ∷ []) h = omega arith
room_small (a ∷ b ∷ c ∷ d ∷ e ∷ []) h = omega arith
room_small (a ∷ b ∷ c ∷ d ∷ e ∷ f ∷ []) h = omega arith
room_small (a ∷ b ∷ c ∷ d ∷ e ∷ f ∷ g ∷ []) h = omega arith
room_small (a ∷ b ∷ c ∷ d ∷ e ∷ f ∷ g ∷ i ∷ []) h = omega arith
room_small (a ∷ b ∷ c ∷ d ∷ e ∷ f ∷ g ∷ i ∷ j ∷ more) h = absurd (omega (arith, h))

-- ---- orders

module _ (p q : Option (List PatternPart)) (same : slot_by p ≡ slot_by q) where
  documents_same : (d e : Active) → compare_documents p d e ≡ compare_documents q d e
  documents_same d e = rw (one_slot_by p q same d.version, one_slot_by p q same e.version) refl

  found_same : (d e : Option Active) → option_cmp (compare_documents p) d e ≡ option_cmp (compare_documents q) d e
  found_same None None = refl
  found_same None (Some e) = refl
  found_same (Some d) None = refl
  found_same (Some d) (Some e) = documents_same d e

  order_same : (active : List Active) (order : List ℕ) → IsOrder p active order → IsOrder q active order
  order_same active order is = record {
    all = is.all;
    sorted = λ k d low high.
        ap (λ o. is_lt (ordering_then o (nat_cmp (get_or order (k + 1) d) (get_or order k d)))) (sym (found_same (slice_get active (get_or order k d)) (slice_get active (get_or order (k + 1) d))))
        ∙ is.sorted k d low high;
  }

pub any_is : (pattern : Option (List PatternPart)) (active : List Active) (order : List ℕ) → (length order == 0) ≡ false → IsOrderIfAny pattern active order → IsOrder pattern active order
any_is pattern active [] e is = absurd (true≢false e)
any_is pattern active (first ∷ rest) e is = is

pub if_any : (pattern : Option (List PatternPart)) (active : List Active) (order : List ℕ) → IsOrder pattern active order → IsOrderIfAny pattern active order
if_any pattern active [] is = tt
if_any pattern active (first ∷ rest) is = is

-- ---- orders in their slots

pub are_none : (active : List Active) → AreOrders active []
are_none active pattern = tt

order_is : (orders : List (List ℕ)) (slot : ℕ) → order_in orders slot ≡ get_or orders slot []
order_is [] slot = refl
order_is (o ∷ os) zero = refl
order_is (o ∷ os) (suc slot) = order_is os slot

pub set_has : (orders : List (List ℕ)) (slot : ℕ) (order : List ℕ) → slot < length orders → HasOrder orders slot order (slice_set orders slot order)
set_has orders slot order within other = order_is (slice_set orders slot order) other ∙ by_case (other == slot) refl where
  by_case : (b : Bool) → (other == slot) ≡ b → get_or (slice_set orders slot order) other [] ≡ (if b then order else order_in orders other)
  by_case true same = ap (λ p. get_or (slice_set orders slot order) p []) (eqb-true other slot same) ∙ get_or-set_same orders slot order [] within
  by_case false differ = get_or-set_other orders slot other order [] (λ z. grind (arith, nat_tests, differ, z)) ∙ sym (order_is orders other)

pub has_after : (a b c : List (List ℕ)) (slot : ℕ) (order : List ℕ) → SameOrders a b → HasOrder b slot order c → HasOrder a slot order c
has_after a b c slot order same has other = has other ∙ ap (λ o. if other == slot then order else o) (same other)

pub are_same : (active : List Active) (a b : List (List ℕ)) → AreOrders active a → SameOrders a b → AreOrders active b
are_same active a b are same pattern = subst (λ o. IsOrderIfAny pattern active o) (sym (same (slot_by pattern))) (are pattern)

pub are_put : (active : List Active) (a b : List (List ℕ)) (pattern : Option (List PatternPart)) (order : List ℕ) → AreOrders active a → IsOrder pattern active order
    → HasOrder a (slot_by pattern) order b → AreOrders active b
are_put active a b pattern order are is has other = by_case (slot_by other == slot_by pattern) refl
  where
    by_case : (c : Bool) → (slot_by other == slot_by pattern) ≡ c → IsOrderIfAny other active (order_in b (slot_by other))
    by_case true same =
        let at : order_in b (slot_by other) ≡ order = has (slot_by other) ∙ ap (λ c. if c then order else order_in a (slot_by other)) same in
        subst (λ o. IsOrderIfAny other active o) (sym at)
        (if_any other active order (order_same pattern other (sym (eqb-true (slot_by other) (slot_by pattern) same)) active order is))
    by_case false differ =
        let at : order_in b (slot_by other) ≡ order_in a (slot_by other) = has (slot_by other) ∙ ap (λ c. if c then order else order_in a (slot_by other)) differ in
        subst (λ o. IsOrderIfAny other active o) (sym at) (are other)
