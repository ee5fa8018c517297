-- The rows of a sound table are those that a keeper writes: for any table, and for domains, tokens and the rows of sources.
use Rattle.std.proofs.Common.{◌≡◌, ℕ, ℤ, Bool, true, false, List, [], ◌∷◌, map, drop, refl, subst, ◌∙◌}
use Rattle.xa_store.proofs.Common.{AllByRecursion, Row, column, Schema, Table, Trees, Int, IsSound, IsKeyedBy, AreApart, all_both, all_from_test, all_of, all_unmap, all_weaker, first_of_both, second_of_both, Datatype, NotNull, Unique, agree, are_present, are_typed, clashes, passes, Eq, at_ints, at_texts, at_blobs, then_term, last_term, CheckedTable, Domains, Tokens, Attributes, Sources, as_read, is_sound_table, is_whole_row, rowid_in, tree_of, PlacedRow, DomainRow, TokenRow, placed_row_in, placed_row, domain_in, domain_row, token_in, token_row, AreRows, same_name, same_place, same_token, attributes, domains, schema_1, schema_2, rising, sources, tokens}
use Rattle.sqlite_schema.specs.declared.schema.Constraint.{Constraint}
use Rattle.sqlite_value.specs.Keys.{first_key}
use Rattle.xa_store.proofs.ShapedLemmas.{apart_from, domain_back, source_of_schema_1_back, free_of, keyed_from, places_agree, rows_ascend, source_back, token_back, written_from}

-- ---- any table

module _ (kind : CheckedTable) (next : ℤ) (db : Trees) (sound : is_sound_table db next kind ≡ true) where
  abbrev pub IsWhole : Row → Type 0
  IsWhole r = is_whole_row kind next (as_read kind r) ≡ true

  pub whole : AllByRecursion IsWhole (db (tree_of kind))
  whole =
      all_unmap (λ r. is_whole_row kind next r ≡ true) (as_read kind) (db (tree_of kind))
      (all_from_test (is_whole_row kind next) (map (as_read kind) (db (tree_of kind))) (first_of_both _ _ sound))

  module _ {X : Type 0} (write : X → Row) (reads : Row → X) (rowid_of : X → ℤ) (same : X → X → Bool) (numbered : (r : Row) → rowid_of (reads r) ≡ rowid_in r) where
    rise : IsKeyedBy rowid_of (map reads (db (tree_of kind)))
    rise = keyed_from rowid_of reads numbered (db (tree_of kind)) (rows_ascend kind (db (tree_of kind)) (second_of_both _ _ sound))

    module _ (schema : Schema) (obeys : IsSound schema db) (table : Table) (its : table.tree ≡ tree_of kind) (pick : (P : Table → Type 0) → AllByRecursion P schema.tables → P table)
        (back : (r : Row) → are_typed table.key 0 table.columns (drop 1 r) ≡ true → are_present table.key 0 table.columns r ≡ true → IsWhole r → r ≡ write (reads r)) where
      its_rows : (rule : Constraint) → AllByRecursion (λ r. passes rule schema db table r ≡ true) (db (tree_of kind))
      its_rows rule =
          subst (λ t. AllByRecursion (λ r. passes rule schema db table r ≡ true) (db t)) its
          (pick (λ t. AllByRecursion (λ r. passes rule schema db t r ≡ true) (db t.tree)) (obeys.obeys.rules rule))

      written : db (tree_of kind) ≡ map write (map reads (db (tree_of kind)))
      written =
          written_from write reads (db (tree_of kind))
          (all_both (λ r. IsWhole r → r ≡ write (reads r)) IsWhole (λ r. r ≡ write (reads r)) (λ r f w. f w) (db (tree_of kind))
          (all_both (λ r. passes Datatype schema db table r ≡ true) (λ r. passes NotNull schema db table r ≡ true) (λ r. IsWhole r → r ≡ write (reads r)) (λ r t p w. back r (first_of_both _ _ t) p w) (db (tree_of kind))
          (its_rows Datatype) (its_rows NotNull)) whole)

      -- no key is asked for but the row's own
      pub rows_alone : ((a b : X) → same a b ≡ false) → AreRows write reads rowid_of same (db (tree_of kind))
      rows_alone never = record { written = written; rise = rise; apart = alone (map reads (db (tree_of kind))) }
        where
          alone : (xs : List X) → AreApart same xs
          alone [] = tt
          alone (x ∷ xs) = (all_of (λ y. same x y ≡ false) (never x) xs, alone xs)

      -- no two rows agree at the places of a key
      pub rows_apart : ((x : X) → column (write x) 0 ≡ Int (rowid_of x)) → (at : List ℕ) → ((a b : X) → same a b ≡ true → agree rising at (write a) at (write b) ≡ true)
          → ((r : Row) → passes Unique schema db table r ≡ true → clashes rising at (db (tree_of kind)) r ≡ false) → AreRows write reads rowid_of same (db (tree_of kind))
      rows_apart begins at agrees alone =
          let free = all_weaker (λ r. passes Unique schema db table r ≡ true) (λ r. clashes rising at (db (tree_of kind)) r ≡ false) alone (db (tree_of kind)) (its_rows Unique) in
          record {
            written = written;
            rise = rise;
            apart = apart_from write rowid_of begins same at agrees (map reads (db (tree_of kind))) rise
                (subst (λ l. AllByRecursion (λ r. clashes rising at l r ≡ false) l) written free);
          }

-- ---- domains, and tokens

names_agree : (a b : DomainRow) → same_name a b ≡ true → agree rising (2 ∷ []) (domain_row a) (2 ∷ []) (domain_row b) ≡ true
unfolding first_key
names_agree a b is = last_term (at_texts false Eq a.name b.name ∙ is)

digests_agree : (a b : TokenRow) → same_token a b ≡ true → agree rising (1 ∷ 2 ∷ []) (token_row a) (1 ∷ 2 ∷ []) (token_row b) ≡ true
unfolding first_key
digests_agree a b is = then_term (at_ints false Eq a.number b.number ∙ first_of_both _ _ is) (last_term (at_blobs false Eq a.digest b.digest ∙ second_of_both _ _ is))

module _ (db : Trees) (next : ℤ) (sound : IsSound schema_2 db) where
  pub domains_are : is_sound_table db next Domains ≡ true → AreRows domain_row domain_in (λ d. d.number) same_name (db 1)
  domains_are h =
      rows_apart Domains next db h domain_row domain_in (λ (d : DomainRow). d.number) same_name (λ r. refl) schema_2 sound domains refl (λ P all. all.1.0) (λ r t p w. domain_back next r t w)
      (λ d. refl) (2 ∷ []) names_agree (λ r u. free_of _ (first_of_both _ _ u))

  pub tokens_are : is_sound_table db next Tokens ≡ true → AreRows token_row token_in (λ t. t.rowid) same_token (db 3)
  tokens_are h =
      rows_apart Tokens next db h token_row token_in (λ (t : TokenRow). t.rowid) same_token (λ r. refl) schema_2 sound tokens refl (λ P all. all.1.1.0) (λ r t p w. token_back next r t w)
      (λ t. refl) (1 ∷ 2 ∷ []) digests_agree (λ r u. free_of _ (first_of_both _ _ u))

-- ---- rows of sources, in both schemas

pub sources_are : (db : Trees) (next : ℤ) → IsSound schema_2 db → is_sound_table db next Sources ≡ true → AreRows placed_row placed_row_in (λ a. a.rowid) same_place (db 10)
sources_are db next sound h =
    rows_apart Sources next db h placed_row placed_row_in (λ (a : PlacedRow). a.rowid) same_place (λ r. refl) schema_2 sound sources refl (λ P all. all.1.1.1.1.1.1.0) (source_back next)
    (λ a. refl) (1 ∷ 2 ∷ []) (λ a b is. places_agree a b ∙ is) (λ r u. free_of _ (first_of_both _ _ u))

pub sources_of_schema_1_are : (db : Trees) (next : ℤ) → IsSound schema_1 db → is_sound_table db next Attributes ≡ true → AreRows placed_row placed_row_in (λ a. a.rowid) same_place (db 8)
sources_of_schema_1_are db next sound h =
    rows_apart Attributes next db h placed_row placed_row_in (λ (a : PlacedRow). a.rowid) same_place (λ r. refl) schema_1 sound attributes refl (λ P all. all.1.1.1.1.1.0) (source_of_schema_1_back next)
    (λ a. refl) (1 ∷ 2 ∷ []) (λ a b is. places_agree a b ∙ is) (λ r u. free_of _ (first_of_both _ _ u))
