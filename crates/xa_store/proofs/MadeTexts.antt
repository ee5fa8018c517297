-- The texts that make the tables.
use Rattle.std.proofs.Common.{◌≡◌, ℕ, pos, List, [], ◌∷◌, Ok, refl}
use Rattle.std.specs.Fmt.{digits}
use Rattle.xa_store.proofs.Common.{Schema, Table, CreateTable, Insert, Values, Term, lit, Null, Int, command_of, statement_of, schema_1, schema_2, meta, domains, tokens, policies, roots, attributes, sources}
use Rattle.sqlite.specs.Compile.{table_defined_by}
use Rattle.sqlite.specs.Listing.{understood}
use Rattle.sqlite.specs.Change.{created}
use Rattle.sqlite.proofs.Callers.{IsPlain}
use Rattle.sqlite_tied.specs.Compute.{everything}
use Rattle.xa_store.specs.keeping.Creation.{with_meta, with_domains, with_tokens, with_policies, with_roots}
use Rattle.xa_store.specs.Opening.{no_tables}
use Rattle.xa_store.specs.keeping.Texts.{create_meta, create_domains, create_tokens, create_policies, create_roots, create_attributes, create_sources, add_meta_row}
use Rattle.xa_store.proofs.TextLemmas.{IsChange}

-- under the schema the text is the statement that makes the table
pub record IsMaking (schema : Schema) (sql : List ℕ) (table : Table) : Type 0 where
  pub command : command_of (understood schema sql) ≡ CreateTable
  pub plain : IsPlain (understood schema sql)
  pub defined : table_defined_by (statement_of sql (understood schema sql)) ≡ Ok (record table { tree = 0 })

pub schema_1_made : created with_roots attributes ≡ schema_1
unfolding digits
schema_1_made = refl

pub all_made : created schema_1 sources ≡ schema_2
unfolding digits
all_made = refl

pub meta_is : IsMaking no_tables create_meta meta
unfolding understood everything
meta_is = record { command = refl; plain = (refl, refl); defined = refl }

pub domains_is : IsMaking with_meta create_domains domains
unfolding understood everything
domains_is = record { command = refl; plain = (refl, refl); defined = refl }

pub tokens_is : IsMaking with_domains create_tokens tokens
unfolding understood everything
tokens_is = record { command = refl; plain = (refl, refl); defined = refl }

pub policies_is : IsMaking with_tokens create_policies policies
unfolding understood everything
policies_is = record { command = refl; plain = (refl, refl); defined = refl }

pub roots_is : IsMaking with_policies create_roots roots
unfolding understood everything
roots_is = record { command = refl; plain = (refl, refl); defined = refl }

pub attributes_is : IsMaking with_roots create_attributes attributes
unfolding understood everything
attributes_is = record { command = refl; plain = (refl, refl); defined = refl }

pub sources_is : IsMaking schema_1 create_sources sources
unfolding understood everything
sources_is = record { command = refl; plain = (refl, refl); defined = refl }

abbrev pub first_row : List Term
first_row = lit (Int (pos 1)) ∷ lit Null ∷ lit (Int (pos 2)) ∷ lit (Int (pos 1)) ∷ []

pub first_row_is : IsChange add_meta_row (Insert 0 (Values first_row 4))
unfolding understood everything
first_row_is = (refl, (refl, refl))
