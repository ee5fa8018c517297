-- The places of objects by their ids.
use Rattle.std.proofs.Common.{◌≡◌, ℕ, suc, ◌+◌, ◌<◌, Bool, true, false, cond, List, [], ◌∷◌, ◌++◌, length, get_or, take, refl, ap, sym, ◌∙◌, arith, add-zero, zero-add}
use Rattle.std.specs.Prelude.{bytes_eq, Option, Some, None, is_some}
use Rattle.std.specs.List.{position_from}
use Rattle.std.specs.Option.{option_or}
use Rattle.std.proofs.lemmas.Iterator.Adapters.{position_from-zero}
use Rattle.std.proofs.lemmas.List.{take_more, length-take}
use Rattle.std.proofs.lemmas.Slice.Eq.{bytes_eq-Decides}
use Rattle.xa_profile.specs.declared.category_object.CategoryObject.{CategoryObject}
use Rattle.xa_profile.specs.Individuals.{has_id, place_named}

-- a test passes first at one more item, where it passed at none before
last_first : (p : ℕ) (x rest next : Option ℕ) (first : Bool) → next ≡ option_or rest x → cond first (Some p) next ≡ option_or (cond first (Some p) rest) x
last_first p x rest next true e = refl
last_first p x rest next false e = e

position_last : {X : Type 0} (p : X → Bool) (xs : List X) (x : X) (n : ℕ)
    → position_from p n (xs ++ x ∷ []) ≡ option_or (position_from p n xs) (cond (p x) (Some (n + length xs)) None)
position_last p [] x n = rw (add-zero n) refl
position_last p (y ∷ ys) x n =
    let same : n + 1 + length ys ≡ n + suc (length ys) = omega arith in
    last_first n (cond (p x) (Some (n + suc (length ys))) None) (position_from p (n + 1) ys) (position_from p (n + 1) (ys ++ x ∷ [])) (p y)
    (position_last p ys x (n + 1) ∙ ap (λ m. option_or (position_from p (n + 1) ys) (cond (p x) (Some m) None)) same)

-- the place that an id has among the objects so far and one more
pub place_next : (objects : List CategoryObject) (i : ℕ) (object : CategoryObject) (id : List ℕ) → i < length objects → object ≡ get_or objects i object
    → option_or (place_named (take i objects) id) (cond (has_id id object.id) (Some i) None) ≡ place_named (take (i + 1) objects) id
place_next objects i object id within is =
    let test : CategoryObject → Bool = λ o. has_id id o.id in
    let so_far = take i objects in
    let long : length so_far ≡ i = omega (arith, length-take i objects, within) in
    sym (
    ap (λ os. place_named os id) (take_more objects i object within ∙ ap (λ o. so_far ++ o ∷ []) (sym is))
    ∙ position_from-zero test (so_far ++ object ∷ [])
    ∙ position_last test so_far object 0
    ∙ ap (λ o. option_or o (cond (test object) (Some (0 + length so_far)) None)) (sym (position_from-zero test so_far))
    ∙ ap (λ n. option_or (place_named so_far id) (cond (test object) (Some n) None)) (zero-add (length so_far) ∙ long)
    )

-- the first place of a text is put where it has none
or_none : (x : Option ℕ) → option_or x None ≡ x
or_none None = refl
or_none (Some n) = refl

no_place : (o : Option ℕ) → is_some o ≡ false → o ≡ None
no_place None e = refl
no_place (Some n) e = absurd (cc)

pub first_put : (look : List ℕ → Option ℕ) (text q : List ℕ) (place : ℕ) → is_some (look text) ≡ false
    → cond (bytes_eq text q) (Some place) (look q) ≡ option_or (look q) (cond (bytes_eq text q) (Some place) None)
first_put look text q place new = by_test (bytes_eq text q) refl where
  by_test : (b : Bool) → bytes_eq text q ≡ b → cond b (Some place) (look q) ≡ option_or (look q) (cond b (Some place) None)
  by_test true e =
      let none : look q ≡ None = ap look (sym ((bytes_eq-Decides text q).0 e)) ∙ no_place (look text) new in
      rw none refl
  by_test false e = sym (or_none (look q))
