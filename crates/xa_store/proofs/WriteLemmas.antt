-- What one statement makes of the rows of its table.
use Rattle.std.proofs.Common.{◌≡◌, ◌≢◌, ℕ, ◌≤◌, ℤ, pos, ◌+ℤ◌, List, [], ◌∷◌, map, filter, fold, length, Bool, false, ◌==◌, Ok, refl, sym, ap, subst, ◌∙◌, arith}
use Rattle.xa_store.proofs.Common.{AllByRecursion, IsPermutation-map, edit_of, Row, overlay, Output, Chosen, Given, Edited, Table, Term, Trees, Int, one_step, Enforced, rowid, ids_of, cast_row, IsNoIndex, put_all, without_all, with_rowid, next_rowid, id_in, row_at, taken_by, IsKeyedBy, insert_by, next_key, update_where, delete_where, without_key, filter-map, map-map, map_same, puts-map, deletes-map, schema_2}
use Rattle.std.specs.List.Sorted.{IsPermutation}
use Rattle.xa_store.proofs.ActionLemmas.{works_of_changing, works_of_coming, works_of_going}
use Rattle.xa_store.proofs.FilterLemmas.{filter_alike}
use Rattle.xa_store.proofs.KeyLemmas.{replaced, untouched, removes_permuted}
use Rattle.xa_store.proofs.SqlLemmas.{Answered, hits, show, out, one_hit, no_hit}

-- one tree has these rows now, and each other but the indexes is as it was
pub record Wrote (old new : Trees) (tree : ℕ) (content : List Row) : Type 0 where
  pub rows : new tree ≡ content
  pub others : (t : ℕ) → t ≢ tree → IsNoIndex schema_2 t → new t ≡ old t

module _ {X : Type 0} (to_row : X → Row) (key : X → ℤ) (keyed : (x : X) → rowid (to_row x) ≡ Int (key x)) where
  next_is : (a : ℤ) (xs : List X) → fold (λ _ r. id_in (rowid r) +ℤ pos 1) a (map to_row xs) ≡ fold (λ _ x. key x +ℤ pos 1) a xs
  next_is a [] = refl
  next_is a (x ∷ xs) = ap (λ v. fold (λ _ r. id_in (rowid r) +ℤ pos 1) (id_in v +ℤ pos 1) (map to_row xs)) (keyed x) ∙ next_is (key x +ℤ pos 1) xs

  -- the rowid that is chosen
  pub next_rowid_is : (xs : List X) → next_rowid (map to_row xs) ≡ next_key key xs
  next_rowid_is xs = next_is (pos 1) xs

  module _ (table : Table) (db next : Trees) (xs : List X) (are : db table.tree ≡ map to_row xs) (up : IsKeyedBy key xs) where
    abbrev pub WroteRows : List X → Type 0
    WroteRows ys = Wrote db next table.tree (map to_row ys)

    -- ---- a row is added

    pub row_added : (new : X) (row : Row) → with_rowid Chosen (db table.tree) (cast_row table row) ≡ to_row new
        → Edited schema_2 Enforced db (edit_of db table [] Chosen 0 (row ∷ [])) (Ok next) → WroteRows (insert_by key xs new)
    row_added new row is edit =
        let given = edit_of db table [] Chosen 0 (row ∷ []) in
        let it = one_step schema_2 Enforced db next given (works_of_coming table.tree given.news) edit in
        record {
          rows = it.rows ∙ ap (λ r. put_all (db table.tree) (r ∷ [])) is ∙ ap (λ rows. put_all rows (to_row new ∷ [])) are ∙ puts-map key to_row keyed (new ∷ []) xs;
          others = it.others;
        }

    module _ (tests shown : List Term) (plain : overlay db [] table.tree ≡ db table.tree) (params : Row) (p : X → Bool) (hit : AllByRecursion (λ x. hits table.tree tests shown [] db plain params (to_row x) ≡ p x) xs) where
      abbrev pub passes : Row → Bool
      passes = hits table.tree tests shown [] db plain params

      abbrev pub shows : Row → Row
      shows = show table.tree tests shown [] db plain params

      abbrev pub AnsweredHere : List Row → Type 0
      AnsweredHere rows = Answered table.tree tests shown [] db plain params rows

      pub passing_rows : filter passes (db table.tree) ≡ map to_row (filter p xs)
      passing_rows = ap (filter passes) are ∙ filter-map passes to_row xs ∙ ap (map to_row) (filter_alike (λ x. passes (to_row x)) p xs hit)

      -- ---- one row at most is another

      abbrev EditedRows : List Row → Type 0
      EditedRows rows = Edited schema_2 Enforced db (edit_of db table (ids_of rows) Given 1 rows) (Ok next)

      pub row_updated : (f : X → X) (rest : X → Row) → ((x : X) → shows (to_row x) ≡ Int (key x) ∷ rest x) → ((x : X) → cast_row table (rest x) ≡ to_row (f x)) → ((x : X) → key (f x) ≡ key x)
          → length (filter p xs) ≤ 1 → (rows : List Row) → AnsweredHere rows → EditedRows rows → WroteRows (update_where p f xs)
      row_updated f rest look casts keeps few rows answer edit = go (filter p xs) refl
        where
          go : (fs : List X) → filter p xs ≡ fs → WroteRows (update_where p f xs)
          go [] is =
              let no : rows ≡ [] = no_hit table.tree tests shown [] db plain params rows (passing_rows ∙ ap (map to_row) is) answer in
              let it = one_step schema_2 Enforced db next (edit_of db table [] Given 1 []) (works_of_coming table.tree []) (subst EditedRows no edit) in
              record { rows = it.rows ∙ are ∙ ap (map to_row) (sym (untouched key p f xs is)); others = it.others }
          go (x ∷ []) is =
              let alone : rows ≡ (Int (key x) ∷ rest x) ∷ [] = one_hit table.tree tests shown [] db plain params rows (to_row x) (passing_rows ∙ ap (map to_row) is) answer ∙ ap (λ r. r ∷ []) (look x) in
              let it = one_step schema_2 Enforced db next (edit_of db table (key x ∷ []) Given 1 ((Int (key x) ∷ rest x) ∷ [])) (works_of_changing table.tree (row_at (db table.tree) (key x) ∷ []) (cast_row table (rest x))) (subst EditedRows alone edit) in
              record {
                rows =
                    it.rows ∙ ap (λ rs. put_all (without_all rs (key x ∷ [])) (cast_row table (rest x) ∷ [])) are
                    ∙ ap (λ r. put_all (without_all (map to_row xs) (key x ∷ [])) (r ∷ [])) (casts x)
                    ∙ ap (λ rs. put_all rs (to_row (f x) ∷ [])) (deletes-map key to_row keyed (key x ∷ []) xs)
                    ∙ puts-map key to_row keyed (f x ∷ []) (without_key key xs (key x))
                    ∙ ap (map to_row) (replaced key p f x xs keeps up is);
                others = it.others;
              }
          go (x ∷ y ∷ fs) many = absurd (omega (arith, ap length many, few))

      -- ---- rows are taken out

      pub rows_removed : ((x : X) → shows (to_row x) ≡ Int (key x) ∷ []) → (1 == table.tree) ≡ false
          → (rows : List Row) → AnsweredHere rows → Edited schema_2 Enforced db (edit_of db table (ids_of rows) Given 0 []) (Ok next) → WroteRows (delete_where p xs)
      rows_removed look other rows answer edit =
          let it = one_step schema_2 Enforced db next (edit_of db table (ids_of rows) Given 0 []) (works_of_going table.tree other 0 (taken_by db (edit_of db table (ids_of rows) Given 0 []))) edit in
          record {
            rows =
                it.rows ∙ ap (λ rs. without_all rs (ids_of rows)) are ∙ deletes-map key to_row keyed (ids_of rows) xs
                ∙ ap (map to_row) (removes_permuted key p xs (ids_of rows) up (ids_permuted look rows answer));
            others = it.others;
          }
        where
          ids_permuted : ((x : X) → shows (to_row x) ≡ Int (key x) ∷ []) → (rows : List Row) → AnsweredHere rows → IsPermutation (map key (filter p xs)) (ids_of rows)
          ids_permuted look rows answer =
              let id : Output → ℤ = λ o. id_in (rowid o.1) in
              let outs = out table.tree tests shown [] db plain params in
              let first : map id (map outs (filter passes (db table.tree))) ≡ map key (filter p xs) =
              ap (λ l. map id (map outs l)) passing_rows ∙ map-map id outs (map to_row (filter p xs)) ∙ map-map (λ r. id (outs r)) to_row (filter p xs)
              ∙ map_same (λ x. id (outs (to_row x))) key (λ x. ap (λ r. id_in (rowid r)) (look x)) (filter p xs) in
              let last : map id answer.0 ≡ ids_of rows = sym (ap ids_of answer.3 ∙ map-map (λ r. id_in (rowid r)) (λ (o : Output). o.1) answer.0) in
              subst (λ l. IsPermutation (map key (filter p xs)) l) last (subst (λ l. IsPermutation l (map id answer.0)) first (IsPermutation-map id _ answer.0 answer.1))
