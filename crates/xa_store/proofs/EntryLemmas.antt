-- The finite map of rows, after the writes of the statements.
use Rattle.std.proofs.Common.{◌≡◌, Bool, true, false, not, cond, List, [], ◌∷◌, ◌++◌, map, find, Option, Some, None, option_map, refl, sym, ap, ◌∙◌}
use Rattle.xa_store.proofs.Common.{IsTotalOrder, eq_by_cmp_equiv, FinMap, IsAntisymmetric, from_entries, get, insert, remove, get-from_entries, get-insert, get-remove, from_entries_push, same_map, eq_by_cmp, update_where, delete_where}
use Rattle.std.specs.FinMap as finite
use Rattle.std.specs.declared.cmp.Ordering.{Ordering}

pub found_passes : {X : Type 0} (p : X → Bool) (xs : List X) (x : X) → find p xs ≡ Some x → p x ≡ true
found_passes p [] x is = cc
found_passes p (y ∷ xs) x is = go (p y) refl (found_passes p xs x) is
  where
    go : (b : Bool) → p y ≡ b → (find p xs ≡ Some x → p x ≡ true) → cond b (Some y) (find p xs) ≡ Some x → p x ≡ true
    go true here more is = let same : y ≡ x = cc in ap p (sym same) ∙ here
    go false here more is = more is

pub find_alike : {X : Type 0} (p q : X → Bool) → ((x : X) → p x ≡ q x) → (xs : List X) → find p xs ≡ find q xs
find_alike p q same xs = λ i. find (λ x. same x i) xs

module _ {X K V : Type 0} {R : K → K → Ordering} (total : IsTotalOrder R) (exact : IsAntisymmetric R) (key : X → K) (value : X → V) where
  abbrev entry : X → K × V
  entry x = (key x, value x)

  abbrev pub has : K → X → Bool
  has k x = eq_by_cmp R k (key x)

  abbrev pub of_rows : List X → FinMap R V
  of_rows xs = from_entries (map entry xs)

  found : (k : K) (xs : List X) → finite.find R k (map entry xs) ≡ option_map value (find (has k) xs)
  found k [] = refl
  found k (x ∷ xs) =
      ap (λ o. cond (has k x) (Some (value x)) o) (found k xs)
      ∙ elim (has k x) as (λ b. cond b (Some (value x)) (option_map value (find (has k) xs)) ≡ option_map value (cond b (Some x) (find (has k) xs))) [ true ↦ refl | false ↦ refl ]

  pub got : (k : K) (xs : List X) → get (of_rows xs) k ≡ option_map value (find (has k) xs)
  got k xs = get-from_entries total (map entry xs) k ∙ found k xs

  -- a row with a new key stands last
  pub pushed : (xs : List X) (new : X) → find (has (key new)) xs ≡ None → of_rows (xs ++ new ∷ []) ≡ insert (of_rows xs) (key new) (value new)
  pushed xs new none = ap from_entries (maps xs) ∙ from_entries_push total exact (map entry xs) (key new) (value new) (found (key new) xs ∙ ap (option_map value) none)
    where
      maps : (ys : List X) → map entry (ys ++ new ∷ []) ≡ map entry ys ++ entry new ∷ []
      maps [] = refl
      maps (y ∷ ys) = ap (λ l. entry y ∷ l) (maps ys)

  alike : (k q : K) (x : X) → eq_by_cmp R q k ≡ true → has q x ≡ has k x
  alike k q x tie = (eq_by_cmp_equiv total).congr q k (key x) tie

  apart : (k q : K) (x : X) → eq_by_cmp R q k ≡ false → has q x ≡ true → has k x ≡ false
  apart k q x differs here = go (has k x) refl
    where
      go : (b : Bool) → has k x ≡ b → b ≡ false
      go true there =
          let equiv = eq_by_cmp_equiv total in
          let back = equiv.congr q (key x) k here ∙ equiv.symm (key x) k ∙ there in
          let both = sym differs ∙ back in cc
      go false there = refl

  module _ (k : K) (f : X → X) (keeps : (x : X) → key (f x) ≡ key x) where
    abbrev turned : X → X
    turned x = cond (has k x) (f x) x

    keeps_has : (q : K) (x : X) → has q (turned x) ≡ has q x
    keeps_has q x = elim (has k x) as (λ b. has q (cond b (f x) x) ≡ has q x) [ true ↦ ap (eq_by_cmp R q) (keeps x) | false ↦ refl ]

    find_updated : (q : K) (xs : List X) → find (has q) (update_where (has k) f xs) ≡ option_map turned (find (has q) xs)
    find_updated q [] = refl
    find_updated q (x ∷ xs) =
        ap (λ b. cond b (Some (turned x)) (find (has q) (update_where (has k) f xs))) (keeps_has q x) ∙ ap (cond (has q x) (Some (turned x))) (find_updated q xs)
        ∙ elim (has q x) as (λ b. cond b (Some (turned x)) (option_map turned (find (has q) xs)) ≡ option_map turned (cond b (Some x) (find (has q) xs))) [ true ↦ refl | false ↦ refl ]

    -- the row of a key that is there is another
    pub updated : (xs : List X) (old : X) → find (has k) xs ≡ Some old → of_rows (update_where (has k) f xs) ≡ insert (of_rows xs) k (value (f old))
    updated xs old there = same_map total exact _ _ (λ q.
        got q (update_where (has k) f xs) ∙ ap (option_map value) (find_updated q xs)
        ∙ go q (eq_by_cmp R q k) refl (find (has q) xs) refl
        ∙ sym (get-insert total (of_rows xs) k (value (f old)) q ∙ ap (cond (eq_by_cmp R q k) (Some (value (f old)))) (got q xs)))
      where
        go : (q : K) (b : Bool) → eq_by_cmp R q k ≡ b → (o : Option X) → find (has q) xs ≡ o → option_map value (option_map turned o) ≡ cond b (Some (value (f old))) (option_map value o)
        go q true tie o is =
            let same : o ≡ Some old = sym is ∙ find_alike (has q) (has k) (λ x. alike k q x tie) xs ∙ there in
            ap (λ w. option_map value (option_map turned w)) same ∙ ap (λ b. Some (value (cond b (f old) old))) (found_passes (has k) xs old there)
        go q false tie None is = refl
        go q false tie (Some x) is = ap (λ b. Some (value (cond b (f x) x))) (apart k q x tie (found_passes (has q) xs x is))

  find_deleted : (k q : K) (xs : List X) → find (has q) (delete_where (has k) xs) ≡ cond (eq_by_cmp R q k) None (find (has q) xs)
  find_deleted k q [] = elim (eq_by_cmp R q k) as (λ b. ◌≡◌ {A = Option X} None (cond b None None)) [ true ↦ refl | false ↦ refl ]
  find_deleted k q (x ∷ xs) = go (has k x) refl (eq_by_cmp R q k) refl (find_deleted k q xs)
    where
      go : (a : Bool) → has k x ≡ a → (b : Bool) → eq_by_cmp R q k ≡ b → find (has q) (delete_where (has k) xs) ≡ cond b None (find (has q) xs)
          → find (has q) (cond (not a) (x ∷ delete_where (has k) xs) (delete_where (has k) xs)) ≡ cond b None (cond (has q x) (Some x) (find (has q) xs))
      go true here true tie more = more
      go true here false tie more = more ∙ passed (has q x) refl
        where
          passed : (c : Bool) → has q x ≡ c → find (has q) xs ≡ cond c (Some x) (find (has q) xs)
          passed true there = absurd (let no = sym (apart k q x tie there) ∙ here in cc)
          passed false there = refl
      go false here true tie more = ap (λ c. cond c (Some x) (find (has q) (delete_where (has k) xs))) (alike k q x tie ∙ here) ∙ more
      go false here false tie more = ap (cond (has q x) (Some x)) more

  -- the row of a key goes
  pub deleted : (k : K) (xs : List X) → of_rows (delete_where (has k) xs) ≡ remove (of_rows xs) k
  deleted k xs = same_map total exact _ _ (λ q.
      got q (delete_where (has k) xs) ∙ ap (option_map value) (find_deleted k q xs) ∙ none_or (eq_by_cmp R q k) (find (has q) xs)
      ∙ sym (get-remove total (of_rows xs) k q ∙ ap (cond (eq_by_cmp R q k) None) (got q xs)))
    where
      none_or : (b : Bool) (o : Option X) → option_map value (cond b None o) ≡ cond b None (option_map value o)
      none_or true o = refl
      none_or false o = refl
