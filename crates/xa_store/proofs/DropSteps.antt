-- What the statement that takes a domain out makes of the rows: all that is in it goes too.
use Rattle.std.proofs.Common.{◌≡◌, ◌≢◌, inl, inr, ℕ, ℤ, List, [], ◌∷◌, map, drop, filter, find, option_map, true, false, cond, Some, unwrap_or, Ok, refl, sym, ap, subst, ◌∙◌, int_eq}
use Rattle.xa_store.proofs.Common.{edit_of, Row, Given, Edited, State, Executes, col, Trees, Int, Enforced, Eq, has_rowid, value_cmp-Int, works, Leads, ids_of, IsNoIndex, without_all, row_at, delete_where, all_of, same_int, deletes-map, at_ints, last_term, DomainRow, domain_row, domain_in, token_row, token_in, document_row, document_in, root_row, root_in, placed_row, placed_row_in, HaveWrittenRows, schema_2, domains, tokens, policies, attributes, sources, rows_of}
use Rattle.xa_store.specs.declared.step.Step.TheVariants.{DropDomain}
use Rattle.xa_store.specs.keeping.Steps.{without_domain}
use Rattle.xa_store.specs.keeping.Texts as text
use Rattle.xa_store.proofs.CascadeLemmas.{ActedOnAll, all_acted, all_children, by_number, child_at, gone, its_root, root_child_at, untouched, works_of_drop}
use Rattle.xa_store.proofs.EntryLemmas.{found_passes}
use Rattle.xa_store.proofs.FilterLemmas.{find_one}
use Rattle.xa_store.proofs.HoldLemmas.{Hold, hold, is_other, of_other, went_out}
use Rattle.xa_store.proofs.SqlLemmas.{answered, one_hit}
use Rattle.xa_store.proofs.StepLemmas.{Stepped}
use Rattle.xa_store.proofs.TableLemmas.{deletes}
use Rattle.xa_store.proofs.TextLemmas.{is, drop_domain_is}
use Rattle.xa_store.proofs.WriteLemmas.{passing_rows}

-- ---- the rows that are left

module _ (db last : Trees) (was : HaveWrittenRows db) (d : DomainRow) (first : Trees) (rows : first 1 ≡ without_all (db 1) (d.number ∷ []))
    (others : (t : ℕ) → t ≢ 1 → IsNoIndex schema_2 t → first t ≡ db t) (acted : ActedOnAll last d all_children first) where
  at_first : (t : ℕ) → is_other 1 t ≡ true → first t ≡ db t
  at_first = of_other 1 (λ t. first t ≡ db t) others

  domains_left : last 1 ≡ map domain_row (delete_where (λ x. int_eq x.number d.number) (map domain_in (db 1)))
  domains_left =
      untouched last d all_children first acted 1 refl ∙ rows ∙ ap (λ rows. without_all rows (d.number ∷ [])) was.domains.written
      ∙ deletes-map (λ (x : DomainRow). x.number) domain_row (λ _. refl) (d.number ∷ []) (map domain_in (db 1))

  tokens_left : last 3 ≡ map token_row (delete_where (λ t. int_eq t.number d.number) (map token_in (db 3)))
  tokens_left =
      gone (λ t. t.rowid) token_row (λ _. refl) d (by_number tokens) (λ t. t.number) (λ t. child_at d (Int t.rowid) t.number (drop 2 (token_row t)) tokens) (map token_in (db 3)) was.tokens.rise
      last (by_number sources ∷ by_number attributes ∷ its_root ∷ by_number policies ∷ []) [] first (at_first 3 refl ∙ was.tokens.written) acted refl refl

  documents_left : last 5 ≡ map document_row (delete_where (λ x. int_eq x.number d.number) (map document_in (db 5)))
  documents_left =
      gone (λ x. x.rowid) document_row (λ _. refl) d (by_number policies) (λ x. x.number) (λ x. child_at d (Int x.rowid) x.number (drop 2 (document_row x)) policies) (map document_in (db 5)) was.documents.rise
      last (by_number sources ∷ by_number attributes ∷ its_root ∷ []) (by_number tokens ∷ []) first (at_first 5 refl ∙ was.documents.written) acted refl refl

  roots_left : last 7 ≡ map root_row (delete_where (λ r. int_eq r.number d.number) (map root_in (db 7)))
  roots_left =
      gone (λ r. r.number) root_row (λ _. refl) d its_root (λ r. r.number) (λ r. root_child_at d r.number (drop 1 (root_row r))) (map root_in (db 7)) was.roots.rise
      last (by_number sources ∷ by_number attributes ∷ []) (by_number policies ∷ by_number tokens ∷ []) first (at_first 7 refl ∙ was.roots.written) acted refl refl

  -- no row of a source is left where schema 2 has none
  none_left : last 8 ≡ []
  none_left =
      gone (λ a. a.rowid) placed_row (λ _. refl) d (by_number attributes) (λ a. a.number) (λ a. child_at d (Int a.rowid) a.number (drop 2 (placed_row a)) attributes) [] tt
      last (by_number sources ∷ []) (its_root ∷ by_number policies ∷ by_number tokens ∷ []) first (at_first 8 refl ∙ was.left_empty) acted refl refl

  sources_left : last 10 ≡ map placed_row (delete_where (λ a. int_eq a.number d.number) (map placed_row_in (db 10)))
  sources_left =
      gone (λ a. a.rowid) placed_row (λ _. refl) d (by_number sources) (λ a. a.number) (λ a. child_at d (Int a.rowid) a.number (drop 2 (placed_row a)) sources) (map placed_row_in (db 10)) was.sources.rise
      last [] (by_number attributes ∷ its_root ∷ by_number policies ∷ by_number tokens ∷ []) first (at_first 10 refl ∙ was.sources.written) acted refl refl

  pub emptied : Hold last (without_domain d.number (rows_of db))
  emptied =
      hold last (without_domain d.number (rows_of db)) (untouched last d all_children first acted 0 refl ∙ at_first 0 refl ∙ was.meta)
      (went_out (λ x. int_eq x.number d.number) was.domains domains_left) (went_out (λ t. int_eq t.number d.number) was.tokens tokens_left)
      (went_out (λ x. int_eq x.number d.number) was.documents documents_left) (went_out (λ r. int_eq r.number d.number) was.roots roots_left)
      none_left (went_out (λ a. int_eq a.number d.number) was.sources sources_left)

-- ---- the step

found_at : (n : ℤ) (ds : List DomainRow) → find (has_rowid n) (map domain_row ds) ≡ option_map domain_row (find (λ d. int_eq d.number n) ds)
found_at n [] = refl
found_at n (d ∷ ds) =
    ap (λ b. cond b (Some (domain_row d)) (find (has_rowid n) (map domain_row ds))) (ap Rattle.std.specs.Ordering.is_eq (value_cmp-Int d.number n)) ∙ ap (cond (int_eq d.number n) (Some (domain_row d))) (found_at n ds)
    ∙ elim (int_eq d.number n) as (λ b. cond b (Some (domain_row d)) (option_map domain_row (find (λ d. int_eq d.number n) ds)) ≡ option_map domain_row (cond b (Some d) (find (λ d. int_eq d.number n) ds))) [ true ↦ refl | false ↦ refl ]

module _ (old new : State) (has : old.now.schema ≡ schema_2) (count : ℕ) (was : HaveWrittenRows old.now.trees) where
  abbrev db : Trees
  db = old.now.trees

  abbrev ds : List DomainRow
  ds = map domain_in (db 1)

  abbrev number_of : DomainRow → ℤ
  number_of d = d.number

  module _ (d : DomainRow) (one : filter (λ x. int_eq x.number d.number) ds ≡ d ∷ []) where
    abbrev EditedRows : List Row → Type 0
    EditedRows rows = Edited schema_2 Enforced db (edit_of db domains (ids_of rows) Given 0 []) (Ok new.now.trees)

    row_there : row_at (db 1) d.number ≡ domain_row d
    row_there =
        ap (λ rows. row_at rows d.number) was.domains.written ∙ ap (λ o. unwrap_or o []) (found_at d.number ds)
        ∙ ap (λ o. unwrap_or (option_map domain_row o) []) (find_one (λ x. int_eq x.number d.number) ds d [] one)

    all_gone : EditedRows ((Int d.number ∷ []) ∷ []) → Hold new.now.trees (without_domain d.number (rows_of db))
    all_gone (inl refused) = absurd (let e = refused.2 in cc)
    all_gone (inr (inl big)) = absurd (let e = big.3 in cc)
    all_gone (inr (inr went)) =
        emptied db new.now.trees was d went.0 went.1.rows went.1.others
        (all_acted new.now.trees d all_children (refl, (refl, (refl, (refl, (refl, tt))))) went.2.0 went.0
        (subst (λ stack. Leads schema_2 Enforced went.2.0 went.0 stack (Ok new.now.trees)) (ap (λ r. works schema_2 Enforced 0 1 (r ∷ []) []) row_there ∙ works_of_drop d) went.2.1))

    pub domain_dropped_stepped : Executes text.drop_domain (Int d.number ∷ []) old new (Ok count) → Stepped old new (DropDomain d.number)
    domain_dropped_stepped h =
        let params = Int d.number ∷ [] in
        let edits = deletes text.drop_domain params old new has 1 domains refl count _ drop_domain_is h in
        let answer = answered 1 (is 0 0 ∷ []) (col 1 0 ∷ []) [] db refl params edits.rows edits.answer.answer in
        let hit = all_of _ (λ (x : DomainRow). last_term (at_ints false Eq x.number d.number)) ds in
        let passing = passing_rows domain_row number_of (λ _. refl) domains db new.now.trees ds was.domains.written was.domains.rise (is 0 0 ∷ []) (col 1 0 ∷ []) refl params (λ x. int_eq x.number d.number) hit in
        let alone : edits.rows ≡ (Int d.number ∷ []) ∷ [] = one_hit 1 (is 0 0 ∷ []) (col 1 0 ∷ []) [] db refl params edits.rows (domain_row d) (passing ∙ ap (map domain_row) one) answer in
        record { schema = edits.schema; database = edits.database; tables = all_gone (subst EditedRows alone edits.edited) }

  pub domain_gone_stepped : (n : ℤ) (d : DomainRow) → filter (λ x. int_eq x.number n) ds ≡ d ∷ [] → Executes text.drop_domain (Int n ∷ []) old new (Ok count) → Stepped old new (DropDomain n)
  domain_gone_stepped n d one h =
      let number : d.number ≡ n = same_int d.number n (found_passes (λ x. int_eq x.number n) ds d (find_one (λ x. int_eq x.number n) ds d [] one)) in
      subst (λ k. Stepped old new (DropDomain k)) number
      (domain_dropped_stepped d (subst (λ k. filter (λ x. int_eq x.number k) ds ≡ d ∷ []) (sym number) one) (subst (λ k. Executes text.drop_domain (Int k ∷ []) old new (Ok count)) (sym number) h))
