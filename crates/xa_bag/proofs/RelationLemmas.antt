-- What all pairs of the values of two bags show, seen from fewer.
use Rattle.std.proofs.Common.{◌≡◌, refl, ap, sym, ◌∙◌, Bool, true, false, ◌&&◌, ◌||◌, ◌⊎◌, inl, inr, cond, List, [], ◌∷◌, ◌++◌, map, Option, Some, None}
use Rattle.std.specs.Prelude.{option_map, slice_get}
use Rattle.std.specs.List.{list_any, list_all}
use Rattle.std.specs.Ordering.{ordering_reverse}
use Rattle.std.specs.declared.cmp.Ordering.{Ordering}
use Rattle.std.specs.declared.cmp.Ordering.TheVariants.{Less, Equal, Greater}
use Rattle.std.proofs.lemmas.Cmp.{nat_eq_equiv}
use Rattle.std.proofs.lemmas.Bool.{and_parts}
use Rattle.xa_value.specs.declared.data_type.DataType.{DataType}
use Rattle.xa_value.specs.declared.value.Value.{Value}
use Rattle.xa_value.specs.Order.{type_of, is_ordered, NumberAndBytes, key_of, compare_keys, same, order}
use Rattle.xa_value.specs.Types.{same_type, place_of}
use Rattle.xa_value.proofs.OrderLemmas.{keys_ordered, order_is_order, same_is_equivalence}
use Rattle.xa_func.specs.declared.func_id.Comparison.{Comparison}
use Rattle.xa_func.specs.declared.func_id.Comparison.TheVariants.{GreaterThan, GreaterThanOrEqual, LessThan, LessThanOrEqual}
use Rattle.xa_func.specs.Comparison.{meets, meets_some, compared}
use Rattle.xa_bag.specs.Bag.{OfType}
use Rattle.xa_bag.specs.Relation.{some_to_some, each_to_some, each_to_each, to_easiest, to_hardest, further, furthest}
use Rattle.std.specs.Prelude.{Result, Ok, flat_map}
use Rattle.std.proofs.lemmas.List.{map-append}
use Rattle.xa_func.specs.Logic.{or_of, and_of}
use Rattle.xa_func.specs.declared.func_id.HigherOrder.{HigherOrder}
use Rattle.xa_func.specs.declared.func_id.HigherOrder.TheVariants as higher
use Rattle.xa_bag.specs.declared.relation.Relation.{Relation}
use Rattle.xa_bag.specs.declared.value_or_bag.ValueOrBag.TheVariants as given
use Rattle.xa_bag.specs.Applying.{boolean, as_boolean, higher_order_applied}
use Rattle.xa_bag.specs.Bag.{Contents}
use Rattle.xa_bag.specs.HigherOrder.{holds, choices}
use Rattle.xa_bag.specs.Relation.{related, asked}
use Rattle.xa_bag.proofs.JoiningLemmas.{then_verdict, verdict_append}

-- how a value may lie to two others, of which the second lies to the first so
abbrev Beside : Option Ordering → Option Ordering → Ordering → Type 0
Beside x y Less = (x ≡ Some Less) ⊎ (y ≡ Some Greater)
Beside x y Equal = x ≡ y
Beside x y Greater = (y ≡ Some Less) ⊎ (x ≡ Some Greater)

-- or it has no order with them
abbrev Lies : Option Ordering → Option Ordering → Option Ordering → Type 0
Lies x y z = ((x ≡ None) × (y ≡ None)) ⊎ ((o : Ordering) × (z ≡ Some o) × Beside x y o)

-- of keys: where the second lies before the first, a third lies before the first or after the second
before_or_after : (v b w : NumberAndBytes) → compare_keys w b ≡ Less → (Some (compare_keys v b) ≡ Some Less) ⊎ (Some (compare_keys v w) ≡ Some Greater)
before_or_after v b w less = by_case (compare_keys v b) refl where
  by_case : (o : Ordering) → compare_keys v b ≡ o → (Some (compare_keys v b) ≡ Some Less) ⊎ (Some (compare_keys v w) ≡ Some Greater)
  by_case Less e = inl (ap Some e)
  by_case Equal e = inr (ap Some (keys_ordered.congr v b w e ∙ keys_ordered.antisymm b w ∙ ap ordering_reverse less))
  by_case Greater e =
      let under : compare_keys b v ≡ Less = keys_ordered.antisymm b v ∙ ap ordering_reverse e in
      inr (ap Some (keys_ordered.antisymm v w ∙ ap ordering_reverse (keys_ordered.trans w b v less under)))

keys_beside : (v b w : NumberAndBytes) (o : Ordering) → compare_keys w b ≡ o → Beside (Some (compare_keys v b)) (Some (compare_keys v w)) o
keys_beside v b w Less e = before_or_after v b w e
keys_beside v b w Equal e =
    ap Some (keys_ordered.antisymm v b ∙ ap ordering_reverse (sym (keys_ordered.congr w b v e)) ∙ sym (keys_ordered.antisymm v w))
keys_beside v b w Greater e = before_or_after v w b (keys_ordered.antisymm b w ∙ ap ordering_reverse e)

-- the order of values, the type of the first being known
ordered_so : (a b : Value) (t : DataType) (c : Bool) → type_of a ≡ t → (same_type t (type_of b) && is_ordered t) ≡ c
    → order a b ≡ cond c (Some (compare_keys (key_of a) (key_of b))) None
unfolding order
ordered_so a b t c typed e = rw (typed, e) refl

-- the same the other way round
ordered_back : (a b : Value) (t : DataType) (c : Bool) → type_of a ≡ t → (same_type t (type_of b) && is_ordered t) ≡ c
    → order b a ≡ cond c (Some (compare_keys (key_of b) (key_of a))) None
ordered_back a b t c typed e = order_is_order.reversed b a ∙ ap (option_map ordering_reverse) (ordered_so a b t c typed e) ∙ by_case c where
  by_case : (d : Bool) → option_map ordering_reverse (cond d (Some (compare_keys (key_of a) (key_of b))) None) ≡ cond d (Some (compare_keys (key_of b) (key_of a))) None
  by_case true = ap Some (sym (keys_ordered.antisymm (key_of b) (key_of a)))
  by_case false = refl

-- a value and two others of one type
lies : (v b w : Value) (t : DataType) → type_of b ≡ t → type_of w ≡ t → Lies (order v b) (order v w) (order w b)
lies v b w t is also = by_case (same_type t (type_of v) && is_ordered t) refl where
  by_case : (c : Bool) → (same_type t (type_of v) && is_ordered t) ≡ c → Lies (order v b) (order v w) (order w b)
  by_case false e = inl (ordered_back b v t false is e, ordered_back w v t false also e)
  by_case true e =
      let alike : (same_type t (type_of b) && is_ordered t) ≡ true =
      rw (is, nat_eq_equiv.refl (place_of t), (and_parts (same_type t (type_of v)) (is_ordered t) e).1) refl in
      rw (ordered_back b v t true is e, ordered_back w v t true also e)
      (inr (compare_keys (key_of w) (key_of b), ordered_so w b t true also alike, keys_beside (key_of v) (key_of b) (key_of w) (compare_keys (key_of w) (key_of b)) refl))

or_true : (a : Bool) → (a || true) ≡ true
or_true true = refl
or_true false = refl

or_false : (a : Bool) → (a || false) ≡ a
or_false true = refl
or_false false = refl

or_same : (a : Bool) → (a || a) ≡ a
or_same true = refl
or_same false = refl

and_true : (a : Bool) → (a && true) ≡ a
and_true true = refl
and_true false = refl

and_false : (a : Bool) → (a && false) ≡ false
and_false true = refl
and_false false = refl

and_same : (a : Bool) → (a && a) ≡ a
and_same true = refl
and_same false = refl

or_or : (a b c : Bool) → (a || (b || c)) ≡ ((a || b) || c)
or_or true b c = refl
or_or false b c = refl

and_and : (a b c : Bool) → (a && (b && c)) ≡ ((a && b) && c)
and_and true b c = refl
and_and false b c = refl

either : {X Y : Type 0} (f : X → Y) (c : Bool) (x y : X) → cond c (f x) (f y) ≡ f (cond c x y)
either f true x y = refl
either f false x y = refl

-- to one of the two a value compares so just where it does to the easier
any_of_lying : (c : Comparison) (x y : Option Ordering) (o : Ordering) → Beside x y o
    → (meets_some c x || meets_some c y) ≡ cond (meets (to_easiest c) o) (meets_some c y) (meets_some c x)
any_of_lying GreaterThan x y Less (inl e) = rw e refl
any_of_lying GreaterThan x y Less (inr e) = rw e (or_true (meets_some GreaterThan x))
any_of_lying GreaterThan x y Equal e = rw e (or_same (meets_some GreaterThan y))
any_of_lying GreaterThan x y Greater (inl e) = rw e (or_false (meets_some GreaterThan x))
any_of_lying GreaterThan x y Greater (inr e) = rw e refl
any_of_lying GreaterThanOrEqual x y Less (inl e) = rw e refl
any_of_lying GreaterThanOrEqual x y Less (inr e) = rw e (or_true (meets_some GreaterThanOrEqual x))
any_of_lying GreaterThanOrEqual x y Equal e = rw e (or_same (meets_some GreaterThanOrEqual y))
any_of_lying GreaterThanOrEqual x y Greater (inl e) = rw e (or_false (meets_some GreaterThanOrEqual x))
any_of_lying GreaterThanOrEqual x y Greater (inr e) = rw e refl
any_of_lying LessThan x y Less (inl e) = rw e refl
any_of_lying LessThan x y Less (inr e) = rw e (or_false (meets_some LessThan x))
any_of_lying LessThan x y Equal e = rw e (or_same (meets_some LessThan y))
any_of_lying LessThan x y Greater (inl e) = rw e (or_true (meets_some LessThan x))
any_of_lying LessThan x y Greater (inr e) = rw e refl
any_of_lying LessThanOrEqual x y Less (inl e) = rw e refl
any_of_lying LessThanOrEqual x y Less (inr e) = rw e (or_false (meets_some LessThanOrEqual x))
any_of_lying LessThanOrEqual x y Equal e = rw e (or_same (meets_some LessThanOrEqual y))
any_of_lying LessThanOrEqual x y Greater (inl e) = rw e (or_true (meets_some LessThanOrEqual x))
any_of_lying LessThanOrEqual x y Greater (inr e) = rw e refl

-- to both just where it does to the harder
all_of_lying : (c : Comparison) (x y : Option Ordering) (o : Ordering) → Beside x y o
    → (meets_some c x && meets_some c y) ≡ cond (meets (to_hardest c) o) (meets_some c y) (meets_some c x)
all_of_lying GreaterThan x y Less (inl e) = rw e refl
all_of_lying GreaterThan x y Less (inr e) = rw e (and_true (meets_some GreaterThan x))
all_of_lying GreaterThan x y Equal e = rw e (and_same (meets_some GreaterThan y))
all_of_lying GreaterThan x y Greater (inl e) = rw e (and_false (meets_some GreaterThan x))
all_of_lying GreaterThan x y Greater (inr e) = rw e refl
all_of_lying GreaterThanOrEqual x y Less (inl e) = rw e refl
all_of_lying GreaterThanOrEqual x y Less (inr e) = rw e (and_true (meets_some GreaterThanOrEqual x))
all_of_lying GreaterThanOrEqual x y Equal e = rw e (and_same (meets_some GreaterThanOrEqual y))
all_of_lying GreaterThanOrEqual x y Greater (inl e) = rw e (and_false (meets_some GreaterThanOrEqual x))
all_of_lying GreaterThanOrEqual x y Greater (inr e) = rw e refl
all_of_lying LessThan x y Less (inl e) = rw e refl
all_of_lying LessThan x y Less (inr e) = rw e (and_false (meets_some LessThan x))
all_of_lying LessThan x y Equal e = rw e (and_same (meets_some LessThan y))
all_of_lying LessThan x y Greater (inl e) = rw e (and_true (meets_some LessThan x))
all_of_lying LessThan x y Greater (inr e) = rw e refl
all_of_lying LessThanOrEqual x y Less (inl e) = rw e refl
all_of_lying LessThanOrEqual x y Less (inr e) = rw e (and_false (meets_some LessThanOrEqual x))
all_of_lying LessThanOrEqual x y Equal e = rw e (and_same (meets_some LessThanOrEqual y))
all_of_lying LessThanOrEqual x y Greater (inl e) = rw e (and_true (meets_some LessThanOrEqual x))
all_of_lying LessThanOrEqual x y Greater (inr e) = rw e refl

any_of_two : (c : Comparison) (x y z : Option Ordering) → Lies x y z → (meets_some c x || meets_some c y) ≡ cond (meets_some (to_easiest c) z) (meets_some c y) (meets_some c x)
any_of_two c x y z (inl none) = rw (none.0, none.1) (by_case (meets_some (to_easiest c) z)) where
  by_case : (b : Bool) → false ≡ cond b false false
  by_case true = refl
  by_case false = refl
any_of_two c x y z (inr known) = rw known.1 (any_of_lying c x y known.0 known.2)

all_of_two : (c : Comparison) (x y z : Option Ordering) → Lies x y z → (meets_some c x && meets_some c y) ≡ cond (meets_some (to_hardest c) z) (meets_some c y) (meets_some c x)
all_of_two c x y z (inl none) = rw (none.0, none.1) (by_case (meets_some (to_hardest c) z)) where
  by_case : (b : Bool) → false ≡ cond b false false
  by_case true = refl
  by_case false = refl
all_of_two c x y z (inr known) = rw known.1 (all_of_lying c x y known.0 known.2)

further_type : (d : Comparison) (b w : Value) (t : DataType) → type_of b ≡ t → type_of w ≡ t → type_of (further d b w) ≡ t
further_type d b w t is also = by_case (compared d w b) where
  by_case : (c : Bool) → type_of (cond c w b) ≡ t
  by_case true = also
  by_case false = is

-- to some of the values just where it does to the easiest
any_by_easiest : (c : Comparison) (v b : Value) (t : DataType) (ws : List Value) → type_of b ≡ t → OfType t ws
    → (compared c v b || list_any (compared c v) ws) ≡ compared c v (furthest (to_easiest c) b ws)
any_by_easiest c v b t [] is typed = or_false (compared c v b)
any_by_easiest c v b t (w ∷ ws) is typed =
    or_or (compared c v b) (compared c v w) (list_any (compared c v) ws)
    ∙ ap (λ a. a || list_any (compared c v) ws)
    (any_of_two c (order v b) (order v w) (order w b) (lies v b w t is typed.0) ∙ either (compared c v) (compared (to_easiest c) w b) w b)
    ∙ any_by_easiest c v (further (to_easiest c) b w) t ws (further_type (to_easiest c) b w t is typed.0) typed.1

-- to each just where it does to the hardest
all_by_hardest : (c : Comparison) (v b : Value) (t : DataType) (ws : List Value) → type_of b ≡ t → OfType t ws
    → (compared c v b && list_all (compared c v) ws) ≡ compared c v (furthest (to_hardest c) b ws)
all_by_hardest c v b t [] is typed = and_true (compared c v b)
all_by_hardest c v b t (w ∷ ws) is typed =
    and_and (compared c v b) (compared c v w) (list_all (compared c v) ws)
    ∙ ap (λ a. a && list_all (compared c v) ws)
    (all_of_two c (order v b) (order v w) (order w b) (lies v b w t is typed.0) ∙ either (compared c v) (compared (to_hardest c) w b) w b)
    ∙ all_by_hardest c v (further (to_hardest c) b w) t ws (further_type (to_hardest c) b w t is typed.0) typed.1

-- the first of the values, once more
any_with_first : (p : Value → Bool) (ws : List Value) (w : Value) → Some w ≡ slice_get ws 0 → list_any p ws ≡ (p w || list_any p ws)
any_with_first p [] w e = cc
any_with_first p (x ∷ xs) w e = let same_one : w ≡ x = cc in rw same_one (or_again (p x) (list_any p xs)) where
  or_again : (a b : Bool) → (a || b) ≡ (a || (a || b))
  or_again true b = refl
  or_again false b = refl

all_with_first : (p : Value → Bool) (ws : List Value) (w : Value) → Some w ≡ slice_get ws 0 → list_all p ws ≡ (p w && list_all p ws)
all_with_first p [] w e = cc
all_with_first p (x ∷ xs) w e = let same_one : w ≡ x = cc in rw same_one (and_again (p x) (list_all p xs)) where
  and_again : (a b : Bool) → (a && b) ≡ (a && (a && b))
  and_again true b = refl
  and_again false b = refl

first_type : (t : DataType) (ws : List Value) (w : Value) → Some w ≡ slice_get ws 0 → OfType t ws → type_of w ≡ t
first_type t [] w e typed = cc
first_type t (x ∷ xs) w e typed = let same_one : w ≡ x = cc in rw same_one typed.0

-- tests that agree find the same
any_agree : (p q : Value → Bool) → ((v : Value) → p v ≡ q v) → (vs : List Value) → list_any p vs ≡ list_any q vs
any_agree p q agree [] = refl
any_agree p q agree (v ∷ vs) = rw (agree v, any_agree p q agree vs) refl

all_agree : (p q : Value → Bool) → ((v : Value) → p v ≡ q v) → (vs : List Value) → list_all p vs ≡ list_all q vs
all_agree p q agree [] = refl
all_agree p q agree (v ∷ vs) = rw (agree v, all_agree p q agree vs) refl

to_some : (c : Comparison) (t : DataType) (ws : List Value) (w found : Value) → Some w ≡ slice_get ws 0 → OfType t ws
    → found ≡ furthest (to_easiest c) w ws → (v : Value) → compared c v found ≡ list_any (compared c v) ws
to_some c t ws w found e typed is v =
    ap (compared c v) is ∙ sym (any_by_easiest c v w t ws (first_type t ws w e typed) typed) ∙ sym (any_with_first (compared c v) ws w e)

to_each : (c : Comparison) (t : DataType) (ws : List Value) (w found : Value) → Some w ≡ slice_get ws 0 → OfType t ws
    → found ≡ furthest (to_hardest c) w ws → (v : Value) → compared c v found ≡ list_all (compared c v) ws
to_each c t ws w found e typed is v =
    ap (compared c v) is ∙ sym (all_by_hardest c v w t ws (first_type t ws w e typed) typed) ∙ sym (all_with_first (compared c v) ws w e)

-- of the first bag's values, as the code asks it
pub some_by_easiest : (c d : Comparison) (t : DataType) (vs ws firsts others : List Value) (w found : Value) (answer : Bool)
    → firsts ≡ vs → others ≡ ws → OfType t others → Some w ≡ slice_get others 0 → d ≡ to_easiest c → found ≡ furthest d w others
    → answer ≡ list_any (λ v. compared c v found) firsts → answer ≡ some_to_some (compared c) vs ws
some_by_easiest c d t vs ws firsts others w found answer these those typed e toward is asked_so =
    let found_so : found ≡ furthest (to_easiest c) w others = is ∙ ap (λ k. furthest k w others) toward in
    asked_so
    ∙ any_agree (λ v. compared c v found) (λ v. list_any (compared c v) others) (to_some c t others w found e typed found_so) firsts
    ∙ ap (λ us. some_to_some (compared c) us others) these ∙ ap (λ us. some_to_some (compared c) vs us) those

pub each_by_easiest : (c d : Comparison) (t : DataType) (vs ws firsts others : List Value) (w found : Value) (answer : Bool)
    → firsts ≡ vs → others ≡ ws → OfType t others → Some w ≡ slice_get others 0 → d ≡ to_easiest c → found ≡ furthest d w others
    → answer ≡ list_all (λ v. compared c v found) firsts → answer ≡ each_to_some (compared c) vs ws
each_by_easiest c d t vs ws firsts others w found answer these those typed e toward is asked_so =
    let found_so : found ≡ furthest (to_easiest c) w others = is ∙ ap (λ k. furthest k w others) toward in
    asked_so
    ∙ all_agree (λ v. compared c v found) (λ v. list_any (compared c v) others) (to_some c t others w found e typed found_so) firsts
    ∙ ap (λ us. each_to_some (compared c) us others) these ∙ ap (λ us. each_to_some (compared c) vs us) those

pub each_by_hardest : (c d : Comparison) (t : DataType) (vs ws firsts others : List Value) (w found : Value) (answer : Bool)
    → firsts ≡ vs → others ≡ ws → OfType t others → Some w ≡ slice_get others 0 → d ≡ to_hardest c → found ≡ furthest d w others
    → answer ≡ list_all (λ v. compared c v found) firsts → answer ≡ each_to_each (compared c) vs ws
each_by_hardest c d t vs ws firsts others w found answer these those typed e toward is asked_so =
    let found_so : found ≡ furthest (to_hardest c) w others = is ∙ ap (λ k. furthest k w others) toward in
    asked_so
    ∙ all_agree (λ v. compared c v found) (λ v. list_all (compared c v) others) (to_each c t others w found e typed found_so) firsts
    ∙ ap (λ us. each_to_each (compared c) us others) these ∙ ap (λ us. each_to_each (compared c) vs us) those

-- there is no second value
some_to_none : (r : Value → Value → Bool) (vs : List Value) → false ≡ some_to_some r vs []
some_to_none r [] = refl
some_to_none r (v ∷ vs) = some_to_none r vs

each_to_none : (r : Value → Value → Bool) (vs : List Value) → true ≡ each_to_each r vs []
each_to_none r [] = refl
each_to_none r (v ∷ vs) = each_to_none r vs

empty : (ws : List Value) → None ≡ slice_get ws 0 → [] ≡ ws
empty [] e = refl
empty (w ∷ ws) e = cc

pub some_of_empty : (r : Value → Value → Bool) (vs ws others : List Value) → others ≡ ws → None ≡ slice_get others 0 → false ≡ some_to_some r vs ws
some_of_empty r vs ws others those e = some_to_none r vs ∙ ap (some_to_some r vs) (empty others e ∙ those)

pub each_of_empty : (r : Value → Value → Bool) (vs ws others : List Value) → others ≡ ws → None ≡ slice_get others 0 → true ≡ each_to_each r vs ws
each_of_empty r vs ws others those e = each_to_none r vs ∙ ap (each_to_each r vs) (empty others e ∙ those)

only_none_to_none : (r : Value → Value → Bool) (vs : List Value) (b : Bool) → (b ≡ true → vs ≡ []) × (vs ≡ [] → b ≡ true) → b ≡ each_to_some r vs []
only_none_to_none r [] b none = none.1 refl
only_none_to_none r (v ∷ vs) true none = let h : v ∷ vs ≡ [] = none.0 refl in cc
only_none_to_none r (v ∷ vs) false none = refl

pub each_to_empty : (r : Value → Value → Bool) (vs ws others : List Value) (b : Bool) → others ≡ ws → None ≡ slice_get others 0
    → (b ≡ true → vs ≡ []) × (vs ≡ [] → b ≡ true) → b ≡ each_to_some r vs ws
each_to_empty r vs ws others b those e none = only_none_to_none r vs b none ∙ ap (each_to_some r vs) (empty others e ∙ those)

-- a value is equal to each just where it is equal to one of them, and each to that one
equal_to_each : (ws : List Value) (w v : Value) → Some w ≡ slice_get ws 0 → list_all (same v) ws ≡ (same v w && list_all (λ u. same u w) ws)
equal_to_each ws w v e = all_with_first (same v) ws w e ∙ by_case (same v w) refl where
  by_case : (b : Bool) → same v w ≡ b → (b && list_all (same v) ws) ≡ (b && list_all (λ u. same u w) ws)
  by_case true is = all_agree (same v) (λ u. same u w) (λ u. same_is_equivalence.congr v w u is ∙ same_is_equivalence.symm w u) ws
  by_case false is = refl

-- what does not depend on the value
all_and : (q : Value → Bool) (b : Bool) (v : Value) (vs : List Value) → list_all (λ u. q u && b) (v ∷ vs) ≡ (list_all q (v ∷ vs) && b)
all_and q true v vs = all_agree (λ u. q u && true) q (λ u. and_true (q u)) (v ∷ vs) ∙ sym (and_true (list_all q (v ∷ vs)))
all_and q false v vs = rw (and_false (q v), and_false (list_all q (v ∷ vs))) refl

all_equal_to_one : (vs ws : List Value) (w : Value) → Some w ≡ slice_get ws 0 → (vs ≡ [] → ⊥)
    → (list_all (λ v. same v w) vs && list_all (λ v. same v w) ws) ≡ each_to_each same vs ws
all_equal_to_one [] ws w e some = absurd (some refl)
all_equal_to_one (v ∷ vs) ws w e some =
    sym (all_and (λ u. same u w) (list_all (λ u. same u w) ws) v vs)
    ∙ sym (all_agree (λ u. list_all (same u) ws) (λ u. same u w && list_all (λ u. same u w) ws) (λ u. equal_to_each ws w u e) (v ∷ vs))

pub all_are_one : (vs ws firsts others : List Value) (w : Value) (none first second : Bool)
    → firsts ≡ vs → others ≡ ws → Some w ≡ slice_get others 0
    → (none ≡ true → vs ≡ []) × (vs ≡ [] → none ≡ true) → first ≡ list_all (λ v. same v w) firsts → second ≡ list_all (λ v. same v w) others
    → (none || (first && second)) ≡ each_to_each same vs ws
all_are_one vs ws firsts others w true first second these those e empty is also = sym (ap (λ us. each_to_each same us ws) (empty.0 refl))
all_are_one vs ws firsts others w false first second these those e empty is also =
    ap (λ a. a && second) is ∙ ap (λ a. list_all (λ v. same v w) firsts && a) also ∙ ap (λ us. list_all (λ v. same v w) us && list_all (λ v. same v w) others) these
    ∙ all_equal_to_one vs others w e (λ h. let k : false ≡ true = empty.1 h in cc) ∙ ap (each_to_each same vs) those

-- booleans alone, joined
or_first : {F : Type 0} (b a : Bool) (rs : List (Result Bool F)) → or_of rs ≡ Ok a → or_of (Ok b ∷ rs) ≡ Ok (b || a)
or_first true a rs e = refl
or_first false a rs e = e

and_first : {F : Type 0} (b a : Bool) (rs : List (Result Bool F)) → and_of rs ≡ Ok a → and_of (Ok b ∷ rs) ≡ Ok (b && a)
and_first true a rs e = e
and_first false a rs e = refl

or_each : {F : Type 0} (g : Value → Result Bool F) (q : Value → Bool) → ((v : Value) → g v ≡ Ok (q v)) → (vs : List Value) → or_of (map g vs) ≡ Ok (list_any q vs)
or_each g q is [] = refl
or_each g q is (v ∷ vs) = ap (λ r. or_of (r ∷ map g vs)) (is v) ∙ or_first (q v) (list_any q vs) (map g vs) (or_each g q is vs)

and_each : {F : Type 0} (g : Value → Result Bool F) (q : Value → Bool) → ((v : Value) → g v ≡ Ok (q v)) → (vs : List Value) → and_of (map g vs) ≡ Ok (list_all q vs)
and_each g q is [] = refl
and_each g q is (v ∷ vs) = ap (λ r. and_of (r ∷ map g vs)) (is v) ∙ and_first (q v) (list_all q vs) (map g vs) (and_each g q is vs)

or_lists : {F : Type 0} (a b : Bool) (rs ss : List (Result Bool F)) → or_of rs ≡ Ok a → or_of ss ≡ Ok b → or_of (rs ++ ss) ≡ Ok (a || b)
or_lists {F} a b rs ss first second = verdict_append true rs ss ∙ ap (λ r. then_verdict true r (or_of ss)) first ∙ ap (then_verdict true (Ok a)) second ∙ by_case a where
  by_case : (c : Bool) → then_verdict {F = F} true (Ok c) (Ok b) ≡ Ok (c || b)
  by_case true = refl
  by_case false = refl

-- a value with each of the second bag
some_of_second : (r : Relation) (v : Value) (ws : List Value)
    → or_of (map (holds (asked r)) (map (λ us. v ∷ us) (flat_map (λ w. map (λ us. w ∷ us) ([] ∷ [])) ws))) ≡ Ok (list_any (related r v) ws)
some_of_second r v [] = refl
some_of_second r v (w ∷ ws) = or_first (related r v w) (list_any (related r v) ws) (map (holds (asked r)) (map (λ us. v ∷ us) (flat_map (λ u. map (λ us. u ∷ us) ([] ∷ [])) ws))) (some_of_second r v ws)

some_of_both : (r : Relation) (b : Contents) (vs : List Value)
    → or_of (map (holds (asked r)) (flat_map (λ v. map (λ us. v ∷ us) (choices (given.Bag b ∷ []))) vs)) ≡ Ok (some_to_some (related r) vs b.values)
some_of_both r b [] = refl
some_of_both r b (v ∷ vs) =
    let here = map (λ us. v ∷ us) (choices (given.Bag b ∷ [])) in
    let rest = flat_map (λ v. map (λ us. v ∷ us) (choices (given.Bag b ∷ []))) vs in
    ap or_of (map-append (holds (asked r)) here rest)
    ∙ or_lists (list_any (related r v) b.values) (some_to_some (related r) vs b.values) (map (holds (asked r)) here) (map (holds (asked r)) rest) (some_of_second r v b.values) (some_of_both r b vs)

-- what the higher-order functions give for two bags
pub some_of_bags : (h : HigherOrder) (r : Relation) (t : DataType) (a b : Contents) (answer : Bool) → answer ≡ some_to_some (related r) a.values b.values
    → h ≡ higher.AnyOfAny → higher_order_applied h t (asked r) (given.Bag a ∷ given.Bag b ∷ []) ≡ Ok (boolean answer)
some_of_bags h r t a b answer is named =
    rw named (ap as_boolean (some_of_both r b a.values) ∙ ap (λ x. Ok (boolean x)) (sym is))

pub each_some_of_bags : (h : HigherOrder) (r : Relation) (t : DataType) (a b : Contents) (answer : Bool) → answer ≡ each_to_some (related r) a.values b.values
    → h ≡ higher.AllOfAny → higher_order_applied h t (asked r) (given.Bag a ∷ given.Bag b ∷ []) ≡ Ok (boolean answer)
each_some_of_bags h r t a b answer is named =
    rw named (ap as_boolean (and_each (λ v. or_of (map (λ w. holds (asked r) (v ∷ w ∷ [])) b.values)) (λ v. list_any (related r v) b.values)
    (λ v. or_each (λ w. holds (asked r) (v ∷ w ∷ [])) (related r v) (λ w. refl) b.values) a.values)
    ∙ ap (λ x. Ok (boolean x)) (sym is))

pub each_each_of_bags : (h : HigherOrder) (r : Relation) (t : DataType) (a b : Contents) (answer : Bool) → answer ≡ each_to_each (related r) a.values b.values
    → h ≡ higher.AllOfAll → higher_order_applied h t (asked r) (given.Bag a ∷ given.Bag b ∷ []) ≡ Ok (boolean answer)
each_each_of_bags h r t a b answer is named =
    rw named (ap as_boolean (and_each (λ v. and_of (map (λ w. holds (asked r) (v ∷ w ∷ [])) b.values)) (λ v. list_all (related r v) b.values)
    (λ v. and_each (λ w. holds (asked r) (v ∷ w ∷ [])) (related r v) (λ w. refl) b.values) a.values)
    ∙ ap (λ x. Ok (boolean x)) (sym is))
