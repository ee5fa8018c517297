-- A list without doubles, made value by value.
use Rattle.std.proofs.Common.{◌≡◌, refl, ap, sym, ◌∙◌, Bool, true, false, not, ◌&&◌, ◌||◌, cond, if◌then◌else◌, List, [], ◌∷◌, ◌++◌, map, append_assoc, append-nil, ℕ, suc, ◌+◌, ◌<◌, length, get_or, drop, add-one, drop-cons, subst}
use Rattle.std.specs.Prelude.{filter}
use Rattle.std.specs.List.{list_any}
use Rattle.std.specs.Cmp.{IsEquivalence}
use Rattle.std.proofs.lemmas.List.Folds.{list_any-append}
use Rattle.xa_value.specs.declared.data_type.DataType.{DataType}
use Rattle.xa_value.specs.declared.value.Value.{Value}
use Rattle.xa_value.specs.Order.{same}
use Rattle.xa_value.proofs.OrderLemmas.{same_is_equivalence}
use Rattle.xa_func.specs.declared.signature.Kind.TheVariants as kind
use Rattle.xa_func.specs.Signature.{Every, type_of_kind}
use Rattle.xa_bag.specs.Sets.{is_among, distinct, all_values}
use Rattle.xa_bag.specs.Bag.{Contents, bag_of, OfType}
use Rattle.xa_bag.specs.declared.value_or_bag.ValueOrBag.{ValueOrBag}
use Rattle.xa_bag.specs.ValueOrBag.{values_of, type_of_each, kind_of_each}

-- the values kept, and a further one that is not among them
abbrev pub with_new : List Value → Value → List Value
with_new kept v = if is_among kept v then kept else kept ++ v ∷ []

-- the values kept, and those of the list that are not among them, without doubles
abbrev pub joined : List Value → List Value → List Value
joined kept vs = kept ++ filter (λ v. not (is_among kept v)) (distinct vs)

-- the values kept, and a further one that is among the others and not among them
abbrev pub with_shared : List Value → List Value → Value → List Value
with_shared others kept v = if is_among others v then with_new kept v else kept

-- a filter after another is one filter
filter_filter : {X : Type 0} (p q r : X → Bool) → ((x : X) → r x ≡ (q x && p x)) → (xs : List X) → filter p (filter q xs) ≡ filter r xs
filter_filter p q r both [] = refl
filter_filter {X} p q r both (x ∷ xs) = rw (both x) (by_case (filter_filter p q r both xs) (q x) (p x) refl) where
  by_case : filter p (filter q xs) ≡ filter r xs → (a b : Bool) → p x ≡ b
      → filter p (cond a (x ∷ filter q xs) (filter q xs)) ≡ cond (a && b) (x ∷ filter r xs) (filter r xs)
  by_case rest true true e = rw e (ap (λ ys. x ∷ ys) rest)
  by_case rest true false e = rw e rest
  by_case rest false b e = rest

-- tests that agree find the same
any_agrees : {X : Type 0} (p q : X → Bool) → ((x : X) → p x ≡ q x) → (xs : List X) → list_any p xs ≡ list_any q xs
any_agrees p q agree [] = refl
any_agrees p q agree (x ∷ xs) = rw (agree x, any_agrees p q agree xs) refl

-- equal values are among the same values
among_same : IsEquivalence same → (vs : List Value) (v w : Value) → same v w ≡ true → is_among vs v ≡ is_among vs w
among_same e vs v w equal = any_agrees (same v) (same w) (λ z. e.congr v w z equal) vs

-- not among the values
abbrev pub is_new : List Value → Value → Bool
is_new kept w = not (is_among kept w)

-- a value that is among those kept adds nothing
pub joined_old : IsEquivalence same → (kept : List Value) (v : Value) (vs : List Value) → is_among kept v ≡ true → joined kept (v ∷ vs) ≡ joined kept vs
joined_old e kept v vs old = rw old (ap (λ ys. kept ++ ys) (filter_filter (is_new kept) (λ w. not (same v w)) (is_new kept) both (distinct vs))) where
  by_case : (w : Value) (a : Bool) → same v w ≡ a → is_new kept w ≡ (not a && is_new kept w)
  by_case w true equal = rw (sym (among_same e kept v w equal), old) refl
  by_case w false differ = refl

  both : (w : Value) → is_new kept w ≡ (not (same v w) && is_new kept w)
  both w = by_case w (same v w) refl

-- a value that is not among them is kept
pub joined_new : IsEquivalence same → (kept : List Value) (v : Value) (vs : List Value) → is_among kept v ≡ false → joined kept (v ∷ vs) ≡ joined (kept ++ v ∷ []) vs
joined_new e kept v vs new =
    rw new (ap (λ ys. kept ++ v ∷ ys) (filter_filter (is_new kept) (λ w. not (same v w)) (is_new (kept ++ v ∷ [])) both (distinct vs)) ∙ sym (append_assoc kept (v ∷ []) (filter (is_new (kept ++ v ∷ [])) (distinct vs)))) where
      by_case : (a b : Bool) → not (a || (b || false)) ≡ (not b && not a)
      by_case true true = refl
      by_case true false = refl
      by_case false true = refl
      by_case false false = refl

      both : (w : Value) → is_new (kept ++ v ∷ []) w ≡ (not (same v w) && is_new kept w)
      both w = rw (list_any-append (same w) kept (v ∷ []), e.symm v w) (by_case (is_among kept w) (same w v))

-- value by value
pub joined_step : IsEquivalence same → (kept : List Value) (v : Value) (vs : List Value) → joined kept (v ∷ vs) ≡ joined (with_new kept v) vs
joined_step e kept v vs = by_case (is_among kept v) refl where
  by_case : (a : Bool) → is_among kept v ≡ a → joined kept (v ∷ vs) ≡ joined (cond a kept (kept ++ v ∷ [])) vs
  by_case true old = joined_old e kept v vs old
  by_case false new = joined_new e kept v vs new

pub joined_more : (kept : List Value) (v : Value) (vs : List Value) → joined kept (v ∷ vs) ≡ joined (with_new kept v) vs
joined_more kept v vs = joined_step same_is_equivalence kept v vs

-- nothing more
pub joined_none : (kept : List Value) → joined kept [] ≡ kept
joined_none kept = append-nil kept

-- list after list
pub joined_lists : (kept vs ws : List Value) → joined kept (vs ++ ws) ≡ joined (joined kept vs) ws
joined_lists kept [] ws = ap (λ k. joined k ws) (sym (joined_none kept))
joined_lists kept (v ∷ vs) ws = joined_more kept v (vs ++ ws) ∙ joined_lists (with_new kept v) vs ws ∙ ap (λ k. joined k ws) (sym (joined_more kept v vs))

-- a filter that all pass
filter_all : {X : Type 0} (xs : List X) → filter (λ _. true) xs ≡ xs
filter_all [] = refl
filter_all (x ∷ xs) = ap (λ ys. x ∷ ys) (filter_all xs)

-- from nothing
pub joined_all : (vs : List Value) → joined [] vs ≡ distinct vs
joined_all vs = filter_all (distinct vs)

-- of those that are among others
pub joined_shared : (others kept : List Value) (v : Value) (vs : List Value)
    → joined kept (filter (is_among others) (v ∷ vs)) ≡ joined (with_shared others kept v) (filter (is_among others) vs)
joined_shared others kept v vs = by_case (is_among others v) where
  by_case : (a : Bool) → joined kept (cond a (v ∷ filter (is_among others) vs) (filter (is_among others) vs)) ≡ joined (cond a (with_new kept v) kept) (filter (is_among others) vs)
  by_case true = joined_more kept v (filter (is_among others) vs)
  by_case false = refl

-- one value of a walk, kept as it should be
pub walked : {X : Type 0} (xs : List X) (i : ℕ) (x : X) → x ≡ get_or xs i x → i < length xs → drop i xs ≡ x ∷ drop (i + 1) xs
walked xs i x is below = rw add-one (drop-cons xs i x below ∙ ap (λ y. y ∷ drop (suc i) xs) (sym is))

-- what stays true as a value is taken from a walk over values of a type, and put into a bag
pub value_taken : {R : Type 0} (f : List Value → List Value → R) (t : DataType) (goal : R) (kept next : Contents) (new : List Value) (v : Value) (vs rest : List Value)
    → vs ≡ v ∷ rest → next ≡ bag_of kept.data_type new → f kept.values (v ∷ rest) ≡ f new rest
    → (kept.data_type ≡ t) → OfType t vs → f kept.values vs ≡ goal
    → (next.data_type ≡ t) × OfType t rest × (f next.values rest ≡ goal)
value_taken f t goal kept next new v vs rest taken put step type typed so_far =
    let P : List Value → Type 0 = λ ws. OfType t ws in (
      ap (λ b. b.data_type) put ∙ type,
      (subst P taken typed).1,
      ap (λ b. f b.values rest) put ∙ sym step ∙ sym (ap (λ ws. f kept.values ws) taken) ∙ so_far,
    )

-- the same, as an argument is taken from a walk over arguments of a type, and its values are put into the bag
pub argument_taken : (f : List Value → List Value → List Value) → ((ks vs ws : List Value) → f ks (vs ++ ws) ≡ f (f ks vs) ws)
    → (t : DataType) (goal : List Value) (kept next : Contents) (a : ValueOrBag) (arguments rest : List ValueOrBag)
    → arguments ≡ a ∷ rest → next ≡ bag_of kept.data_type (f kept.values (values_of a))
    → (kept.data_type ≡ t) → Every (kind.Value t) (map kind_of_each arguments) → f kept.values (all_values arguments) ≡ goal
    → (next.data_type ≡ t) × Every (kind.Value t) (map kind_of_each rest) × (f next.values (all_values rest) ≡ goal)
argument_taken f step t goal kept next a arguments rest taken put type typed so_far =
    let P : List ValueOrBag → Type 0 = λ us. Every (kind.Value t) (map kind_of_each us) in (
      ap (λ c. c.data_type) put ∙ type,
      (subst P taken typed).1,
      ap (λ c. f c.values (all_values rest)) put ∙ sym (step kept.values (values_of a) (all_values rest)) ∙ sym (ap (λ us. f kept.values (all_values us)) taken) ∙ so_far,
    )

-- and that argument is of the bag's type
pub argument_of_type : (t : DataType) (kept : Contents) (a : ValueOrBag) (arguments rest : List ValueOrBag)
    → arguments ≡ a ∷ rest → (kept.data_type ≡ t) → Every (kind.Value t) (map kind_of_each arguments) → type_of_each a ≡ kept.data_type
argument_of_type t kept a arguments rest taken type typed =
    let P : List ValueOrBag → Type 0 = λ us. Every (kind.Value t) (map kind_of_each us) in
    ap type_of_kind (subst P taken typed).0 ∙ sym type

-- plain lists, put one after another
pub put_lists : (ks vs ws : List Value) → ks ++ (vs ++ ws) ≡ (ks ++ vs) ++ ws
put_lists ks vs ws = sym (append_assoc ks vs ws)

pub put_none : (vs : List Value) → vs ++ [] ≡ vs
put_none vs = append-nil vs

pub put_more : (ks : List Value) (v : Value) (vs : List Value) → ks ++ v ∷ vs ≡ (ks ++ v ∷ []) ++ vs
put_more ks v vs = sym (append_assoc ks (v ∷ []) vs)
