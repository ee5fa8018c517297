-- Lists in the order of their rowids, after the writes of a statement.
use Rattle.std.proofs.Common.{◌≡◌, ℤ, ◌<ℤ◌, Bool, true, false, not, cond, List, [], ◌∷◌, ◌++◌, map, filter, fold, Some, None, Option, refl, sym, ap, subst, ◌∙◌, arith, Ordering, Less, Equal, Greater, int_cmp, int_eq, is_eq, true≢false}
use Rattle.xa_store.proofs.Common.{AllByRecursion, match_ordering, ints, int_ranked, IsKeyedBy, get_by, insert_by, next_key, update_where, delete_where, without_key, all_weaker, filter_all, along_permutation, Less-from_lt, above_all, same_int}
use Rattle.std.specs.List.Sorted.{IsPermutation}
use Rattle.sqlite_keyed.proofs.WriteLemmas.{puts_update, removes_delete}

-- a number is its own
pub own_number : (n : ℤ) → int_eq n n ≡ true
own_number n = grind (arith, ints)

module _ {X : Type 0} (key : X → ℤ) where
  first_past : (new : X) (xs : List X) → AllByRecursion (λ y. key new <ℤ key y) xs → insert_by key xs new ≡ new ∷ xs
  first_past new [] h = refl
  first_past new (y ∷ ys) h = let k = h.0 in let o : int_cmp (key y) (key new) ≡ Greater = grind (arith, ints) in rw o refl

  none_with : (id : ℤ) (xs : List X) → AllByRecursion (λ y. id <ℤ key y) xs → without_key key xs id ≡ xs
  none_with id xs h = filter_all (λ y. not (int_eq (key y) id)) xs (all_weaker (λ y. id <ℤ key y) (λ y. not (int_eq (key y) id) ≡ true) (λ y h. grind (arith, ints)) xs h)

  insert_again : (new : X) (xs : List X) → IsKeyedBy key xs → insert_by key (without_key key xs (key new)) new ≡ insert_by key xs new
  insert_again new [] up = refl
  insert_again new (x ∷ xs) up = go (int_cmp (key x) (key new)) refl (insert_again new xs up.1)
    where
      go : (o : Ordering) → int_cmp (key x) (key new) ≡ o → insert_by key (without_key key xs (key new)) new ≡ insert_by key xs new
          → insert_by key (cond (not (is_eq o)) (x ∷ without_key key xs (key new)) (without_key key xs (key new))) new ≡ match_ordering o (x ∷ insert_by key xs new) (new ∷ xs) (new ∷ x ∷ xs)
      go Less e more = rw (e, more) refl
      go Equal e more = let same = int_ranked (key x) (key new) Equal (sym e) in let past = rw same at up.0 in rw (none_with (key new) xs past) (first_past new xs past)
      go Greater e more =
          let first : key new <ℤ key x = int_ranked (key x) (key new) Greater (sym e) in
          rw (none_with (key new) xs (all_weaker (λ y. key x <ℤ key y) (λ y. key new <ℤ key y) (λ y h. omega (arith, ints)) xs up.0), e) refl

  -- the one row that passes a test goes, and stands there anew
  pub replaced : (p : X → Bool) (f : X → X) (x : X) (xs : List X) → ((y : X) → key (f y) ≡ key y) → IsKeyedBy key xs → filter p xs ≡ x ∷ []
      → insert_by key (without_key key xs (key x)) (f x) ≡ update_where p f xs
  replaced p f x xs keeps up hit =
      rw (← keeps x) (insert_again (f x) xs up) ∙ sym (ap (λ l. fold (insert_by key) xs (map f l)) hit) ∙ puts_update key p f keeps xs up

  pub untouched : (p : X → Bool) (f : X → X) (xs : List X) → filter p xs ≡ [] → update_where p f xs ≡ xs
  untouched p f [] none = refl
  untouched p f (x ∷ xs) none = go (p x) (λ h. untouched p f xs h) none
    where
      go : (b : Bool) → (filter p xs ≡ [] → update_where p f xs ≡ xs) → cond b (x ∷ filter p xs) (filter p xs) ≡ [] → cond b (f x) x ∷ update_where p f xs ≡ x ∷ xs
      go true more h = absurd cc
      go false more h = ap (λ l. x ∷ l) (more h)

  -- a row past all others stands last
  past_all : (xs : List X) (new : X) → AllByRecursion (λ y. key y <ℤ key new) xs → insert_by key xs new ≡ xs ++ new ∷ []
  past_all [] new h = refl
  past_all (x ∷ xs) new h = rw (Less-from_lt (key x) (key new) h.0) (ap (λ l. x ∷ l) (past_all xs new h.1))

  pub pushed_last : (xs : List X) (new : X) → IsKeyedBy key xs → key new ≡ next_key key xs → insert_by key xs new ≡ xs ++ new ∷ []
  pushed_last [] new up is = refl
  pushed_last (x ∷ xs) new up is = past_all (x ∷ xs) new (subst (λ k. AllByRecursion (λ y. key y <ℤ k) (x ∷ xs)) (sym is) (above_all key xs x up))

  -- rows are taken out in any order
  exchanged : (a b : ℤ) (xs : List X) → without_key key (without_key key xs a) b ≡ without_key key (without_key key xs b) a
  exchanged a b [] = refl
  exchanged a b (x ∷ xs) = go (int_eq (key x) a) (int_eq (key x) b) refl refl (exchanged a b xs)
    where
      go : (c d : Bool) → int_eq (key x) a ≡ c → int_eq (key x) b ≡ d → without_key key (without_key key xs a) b ≡ without_key key (without_key key xs b) a
          → without_key key (cond (not c) (x ∷ without_key key xs a) (without_key key xs a)) b ≡ without_key key (cond (not d) (x ∷ without_key key xs b) (without_key key xs b)) a
      go true true e f more = more
      go true false e f more = rw e more
      go false true e f more = rw f more
      go false false e f more = rw (e, f) (ap (λ l. x ∷ l) more)

  abbrev TakeAlike : List ℤ → List ℤ → Type 0
  TakeAlike some others = (xs : List X) → fold (without_key key) xs some ≡ fold (without_key key) xs others

  pub removes_permuted : (p : X → Bool) (xs : List X) (ids : List ℤ) → IsKeyedBy key xs → IsPermutation (map key (filter p xs)) ids → fold (without_key key) xs ids ≡ delete_where p xs
  removes_permuted p xs ids up same =
      sym (along_permutation TakeAlike (λ some xs. refl) (λ id some others alike xs. alike (without_key key xs id))
      (λ a b some xs. ap (λ l. fold (without_key key) l some) (exchanged a b xs)) (λ a b c one two xs. one xs ∙ two xs) (map key (filter p xs)) ids same xs)
      ∙ removes_delete key p xs up

  -- what is found after an insertion
  pub get_by-insert_by : (new : X) (id : ℤ) (xs : List X) → get_by key (insert_by key xs new) id ≡ cond (int_eq (key new) id) (Some new) (get_by key xs id)
  get_by-insert_by new id [] = refl
  get_by-insert_by new id (x ∷ xs) = go (int_cmp (key x) (key new)) refl (get_by-insert_by new id xs)
    where
      swap : (a b : Bool) (c : X) (d : Option X) → (a ≡ true → b ≡ true → ⊥) → cond a (Some x) (cond b (Some c) d) ≡ cond b (Some c) (cond a (Some x) d)
      swap true true c d never = absurd (never refl refl)
      swap true false c d never = refl
      swap false b c d never = refl

      over : (b : Bool) → int_eq (key x) id ≡ int_eq (key new) id → int_eq (key new) id ≡ b → cond b (Some new) (get_by key xs id) ≡ cond b (Some new) (cond (int_eq (key x) id) (Some x) (get_by key xs id))
      over true same e = refl
      over false same e = rw (same ∙ e) refl

      go : (o : Ordering) → int_cmp (key x) (key new) ≡ o → get_by key (insert_by key xs new) id ≡ cond (int_eq (key new) id) (Some new) (get_by key xs id)
          → get_by key (match_ordering o (x ∷ insert_by key xs new) (new ∷ xs) (new ∷ x ∷ xs)) id ≡ cond (int_eq (key new) id) (Some new) (get_by key (x ∷ xs) id)
      go Less e more = ap (cond (int_eq (key x) id) (Some x)) more
          ∙ swap (int_eq (key x) id) (int_eq (key new) id) new (get_by key xs id) (λ a b. let c = int_ranked (key x) (key new) Less (sym e) in let u = same_int (key x) id a in let v = same_int (key new) id b in omega (arith, ints))
      go Equal e more = let same = int_ranked (key x) (key new) Equal (sym e) in over (int_eq (key new) id) (ap (λ k. int_eq k id) same) refl
      go Greater e more = refl

  -- what is found after a removal
  pub get_by-without_key : (gone id : ℤ) (xs : List X) → get_by key (without_key key xs gone) id ≡ cond (int_eq gone id) None (get_by key xs id)
  get_by-without_key gone id [] = elim (int_eq gone id) as (λ b. ◌≡◌ {A = Option X} None (cond b None None)) [ true ↦ refl | false ↦ refl ]
  get_by-without_key gone id (x ∷ xs) = go (int_eq (key x) gone) refl (get_by-without_key gone id xs)
    where
      go : (b : Bool) → int_eq (key x) gone ≡ b → get_by key (without_key key xs gone) id ≡ cond (int_eq gone id) None (get_by key xs id)
          → get_by key (cond (not b) (x ∷ without_key key xs gone) (without_key key xs gone)) id ≡ cond (int_eq gone id) None (cond (int_eq (key x) id) (Some x) (get_by key xs id))
      go true e more = let same = same_int (key x) gone e in more ∙ rw same (drop_found (int_eq gone id) (Some x) (get_by key xs id))
        where
          drop_found : (b : Bool) (u v : Option X) → cond b None v ≡ cond b None (cond b u v)
          drop_found true u v = refl
          drop_found false u v = refl
      go false e more = ap (cond (int_eq (key x) id) (Some x)) more ∙ turn (int_eq (key x) id) (int_eq gone id) (λ a b. true≢false (sym a ∙ (let v = same_int gone id b in rw v at e)))
        where
          turn : (a b : Bool) → (a ≡ true → b ≡ true → ⊥) → cond a (Some x) (cond b None (get_by key xs id)) ≡ cond b None (cond a (Some x) (get_by key xs id))
          turn true true never = absurd (never refl refl)
          turn true false never = refl
          turn false b never = refl
