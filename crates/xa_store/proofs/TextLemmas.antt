-- What the statements are.
use Rattle.std.proofs.Common.{◌≡◌, ℕ, pos, negsuc, List, [], ◌∷◌, map, codes, false, None, refl}
use Rattle.xa_store.proofs.Common.{Binary, Command, Select, Update, Delete, Insert, reads_listing, Query, inner, end, Schema, Values, Term, lit, col, op2, Null, Int, command_of, Compare, Eq, schema_2}
use Rattle.sqlite.specs.Listing.{understood}
use Rattle.sqlite.proofs.Callers.{IsPlain}
use Rattle.sqlite_tied.specs.Compute.{everything}
use Rattle.sqlite_value.specs.Keys.{ascending}
use Rattle.xa_store.specs.keeping.Texts as text

-- ---- queries of one table

-- a column is a parameter, or 1
abbrev pub is : ℕ → ℕ → Term
is at given = op2 (Compare Eq Binary) (col 1 at) (col 0 given)

abbrev pub is_one : ℕ → Term
is_one at = op2 (Compare Eq Binary) (col 1 at) (lit (Int (pos 1)))

-- the rows that pass the tests, these columns of each, in the order of those
abbrev pub of_table : ℕ → List Term → List Term → List ℕ → Query
of_table t tests shown order = record {
  from = inner t end;
  filter = tests;
  group = None;
  project = shown;
  distinct = false;
  collations = [];
  order = map (λ at. (col 1 at, ascending Binary)) order;
  limit = lit (Int (negsuc 0));
  offset = lit (Int (pos 0));
}

abbrev pub reading : Query → List (List ℕ) → Command
reading query names = Select (record { lets = []; body = query }) names

abbrev pub update : ℕ → Query → Command
update at query = Update at (record { lets = []; body = query })

abbrev pub delete : ℕ → Query → Command
delete at query = Delete at (record { lets = []; body = query })

-- what a statement of a change is
abbrev pub IsChange : List ℕ → Command → Type 0
IsChange sql command = (command_of (understood schema_2 sql) ≡ command) × IsPlain (understood schema_2 sql)

-- what a query of tables of a schema is
abbrev pub IsQueryIn : Schema → List ℕ → Command → Type 0
IsQueryIn schema sql command = (command_of (understood schema sql) ≡ command) × (reads_listing schema sql ≡ false) × IsPlain (understood schema sql)

abbrev pub IsQuery : List ℕ → Command → Type 0
IsQuery = IsQueryIn schema_2

-- ---- readings

pub show_next_number_is : IsQuery text.show_next_number (reading (of_table 0 (is_one 0 ∷ []) (col 1 3 ∷ []) ([])) (codes "next_number" ∷ []))
unfolding understood everything
show_next_number_is = (refl, refl, (refl, refl))

pub show_domain_is : IsQuery text.show_domain (reading (of_table 1 (is 2 0 ∷ []) (col 1 0 ∷ col 1 3 ∷ []) ([])) (codes "number" ∷ codes "epoch" ∷ []))
unfolding understood everything
show_domain_is = (refl, refl, (refl, refl))

pub show_domain_names_is : IsQuery text.show_domain_names (reading (of_table 1 ([]) (col 1 2 ∷ []) (2 ∷ [])) (codes "name" ∷ []))
unfolding understood everything
show_domain_names_is = (refl, refl, (refl, refl))

pub show_tokens_is : IsQuery text.show_tokens (reading (of_table 3 (is 1 0 ∷ []) (col 1 2 ∷ col 1 3 ∷ []) (2 ∷ [])) (codes "digest" ∷ codes "role" ∷ []))
unfolding understood everything
show_tokens_is = (refl, refl, (refl, refl))

pub show_role_is : IsQuery text.show_role (reading (of_table 3 (is 1 0 ∷ is 2 1 ∷ []) (col 1 3 ∷ []) ([])) (codes "role" ∷ []))
unfolding understood everything
show_role_is = (refl, refl, (refl, refl))

pub show_document_kinds_is : IsQuery text.show_document_kinds (reading (of_table 5 (is 1 0 ∷ []) (col 1 2 ∷ []) (2 ∷ 3 ∷ 4 ∷ [])) (codes "kind" ∷ []))
unfolding understood everything
show_document_kinds_is = (refl, refl, (refl, refl))

pub show_documents_is : IsQuery text.show_documents (reading (of_table 5 (is 1 0 ∷ []) (col 1 2 ∷ col 1 3 ∷ col 1 4 ∷ col 1 6 ∷ []) (2 ∷ 3 ∷ 4 ∷ [])) (codes "kind" ∷ codes "id" ∷ codes "version" ∷ codes "active" ∷ []))
unfolding understood everything
show_documents_is = (refl, refl, (refl, refl))

pub show_active_documents_is : IsQuery text.show_active_documents (reading (of_table 5 (is 1 0 ∷ is_one 6 ∷ []) (col 1 2 ∷ col 1 3 ∷ col 1 4 ∷ col 1 5 ∷ []) (2 ∷ 3 ∷ 4 ∷ [])) (codes "kind" ∷ codes "id" ∷ codes "version" ∷ codes "body" ∷ []))
unfolding understood everything
show_active_documents_is = (refl, refl, (refl, refl))

pub show_document_is : IsQuery text.show_document (reading (of_table 5 (is 1 0 ∷ is 2 1 ∷ is 3 2 ∷ is 4 3 ∷ []) (col 1 5 ∷ col 1 6 ∷ []) ([])) (codes "body" ∷ codes "active" ∷ []))
unfolding understood everything
show_document_is = (refl, refl, (refl, refl))

pub show_root_is : IsQuery text.show_root (reading (of_table 7 (is 0 0 ∷ []) (col 1 2 ∷ col 1 3 ∷ col 1 4 ∷ col 1 5 ∷ col 1 6 ∷ []) ([])) (codes "kind" ∷ codes "id" ∷ codes "pattern" ∷ codes "earliest" ∷ codes "latest" ∷ []))
unfolding understood everything
show_root_is = (refl, refl, (refl, refl))

pub show_source_is : IsQuery text.show_source (reading (of_table 10 (is 1 0 ∷ []) (col 1 3 ∷ col 1 4 ∷ col 1 5 ∷ col 1 6 ∷ col 1 7 ∷ col 1 8 ∷ []) (2 ∷ [])) (codes "category" ∷ codes "entity" ∷ codes "attribute" ∷ codes "value_type" ∷ codes "value" ∷ codes "issuer" ∷ []))
unfolding understood everything
show_source_is = (refl, refl, (refl, refl))

-- ---- changes

pub set_next_is : IsChange text.set_next (update 0 (of_table 0 (is_one 0 ∷ []) (col 1 0 ∷ col 1 0 ∷ lit Null ∷ col 1 2 ∷ col 0 0 ∷ []) []))
unfolding understood everything
set_next_is = (refl, (refl, refl))

pub set_epoch_is : IsChange text.set_epoch (update 1 (of_table 1 (is 0 0 ∷ []) (col 1 0 ∷ col 1 0 ∷ lit Null ∷ col 1 2 ∷ col 0 1 ∷ []) []))
unfolding understood everything
set_epoch_is = (refl, (refl, refl))

pub drop_domain_is : IsChange text.drop_domain (delete 1 (of_table 1 (is 0 0 ∷ []) (col 1 0 ∷ []) []))
unfolding understood everything
drop_domain_is = (refl, (refl, refl))

pub set_role_is : IsChange text.set_role (update 2 (of_table 3 (is 1 0 ∷ is 2 1 ∷ []) (col 1 0 ∷ col 1 0 ∷ col 1 1 ∷ col 1 2 ∷ col 0 2 ∷ []) []))
unfolding understood everything
set_role_is = (refl, (refl, refl))

pub drop_token_is : IsChange text.drop_token (delete 2 (of_table 3 (is 1 0 ∷ is 2 1 ∷ []) (col 1 0 ∷ []) []))
unfolding understood everything
drop_token_is = (refl, (refl, refl))

pub set_active_is : IsChange text.set_active (update 3 (of_table 5 (is 1 0 ∷ is 2 1 ∷ is 3 2 ∷ is 4 3 ∷ []) (col 1 0 ∷ col 1 0 ∷ col 1 1 ∷ col 1 2 ∷ col 1 3 ∷ col 1 4 ∷ col 1 5 ∷ col 0 4 ∷ []) []))
unfolding understood everything
set_active_is = (refl, (refl, refl))

pub drop_document_is : IsChange text.drop_document (delete 3 (of_table 5 (is 1 0 ∷ is 2 1 ∷ is 3 2 ∷ is 4 3 ∷ []) (col 1 0 ∷ []) []))
unfolding understood everything
drop_document_is = (refl, (refl, refl))

pub drop_root_is : IsChange text.drop_root (delete 4 (of_table 7 (is 0 0 ∷ []) (col 1 0 ∷ []) []))
unfolding understood everything
drop_root_is = (refl, (refl, refl))

pub drop_source_is : IsChange text.drop_source (delete 6 (of_table 10 (is 1 0 ∷ []) (col 1 0 ∷ []) []))
unfolding understood everything
drop_source_is = (refl, (refl, refl))

pub add_domain_is : IsChange text.add_domain (Insert 1 (Values (col 0 0 ∷ lit Null ∷ col 0 1 ∷ lit (Int (pos 0)) ∷ []) 4))
unfolding understood everything
add_domain_is = (refl, (refl, refl))

pub add_token_is : IsChange text.add_token (Insert 2 (Values (lit Null ∷ col 0 0 ∷ col 0 1 ∷ col 0 2 ∷ []) 4))
unfolding understood everything
add_token_is = (refl, (refl, refl))

pub add_document_is : IsChange text.add_document (Insert 3 (Values (lit Null ∷ col 0 0 ∷ col 0 1 ∷ col 0 2 ∷ col 0 3 ∷ col 0 4 ∷ lit (Int (pos 0)) ∷ []) 7))
unfolding understood everything
add_document_is = (refl, (refl, refl))

pub add_root_is : IsChange text.add_root (Insert 4 (Values (col 0 0 ∷ lit Null ∷ col 0 1 ∷ col 0 2 ∷ col 0 3 ∷ col 0 4 ∷ col 0 5 ∷ []) 7))
unfolding understood everything
add_root_is = (refl, (refl, refl))

pub add_source_row_is : IsChange text.add_source_row (Insert 6 (Values (lit Null ∷ col 0 0 ∷ col 0 1 ∷ col 0 2 ∷ col 0 3 ∷ col 0 4 ∷ col 0 5 ∷ col 0 6 ∷ col 0 7 ∷ []) 9))
unfolding understood everything
add_source_row_is = (refl, (refl, refl))
