-- What the tables mean, those of schema 2 and those of schema 1.
use Rattle.std.specs.Prelude.{ℕ, ℤ, List, map, filter, Option, option_map}
use Rattle.std.specs.FinMap.{FinMap, from_entries}
use Rattle.std.specs.Ordering.{int_cmp, int_eq, on}
use Rattle.sqlite.specs.State.{State}
use Rattle.sqlite.specs.Tree.{Trees}
use Rattle.sqlite_keyed.specs.Keyed.{get_by}
use Rattle.sqlite_keyed.specs.Lists.{sort_by}
use Rattle.xa_policy.specs.declared.document_key.DocumentKey.{DocumentKey}
use Rattle.xa_policy.specs.declared.reference.Reference.{Reference}
use Rattle.xa_policy.specs.DocumentKey.{compare_keys}
use Rattle.xa_notation.specs.declared.token.Role.{Role}
use Rattle.xa_decide.specs.declared.source_row.SourceRow.{SourceRow}
use Rattle.xa_records.specs.DomainState.{DomainState, StoredDocument, compare_bytes}
use Rattle.xa_records.specs.Kept.{Domain, Kept}
use Rattle.xa_store.specs.declared.schema.checked_table.CheckedTable.TheVariants.{Domains, Tokens, Documents, Roots}
use Rattle.xa_store.specs.declared.schema.checked_table.CheckedTable.TheVariants.{Attributes, Sources}
use Rattle.xa_store.specs.Rows.{DomainRow, TokenRow, DocumentRow, RootRow, PlacedRow, nat_of, next_in}
use Rattle.xa_store.specs.Rows.{domain_in, token_in, document_in, root_in, placed_row_in, unissued_in, reference_of}
use Rattle.xa_store.specs.Tables.{meta_tree, tree_of}

-- ---- the rows of all tables

-- `sources` are the rows of sources, which stand in the table `sources`, and in schema 1 in the table `attributes`
pub record Rows : Type 0 where
  pub next : ℤ
  pub domains : List DomainRow
  pub tokens : List TokenRow
  pub documents : List DocumentRow
  pub roots : List RootRow
  pub sources : List PlacedRow

-- the rows of the tables of schema 2
abbrev pub rows_of : Trees → Rows
rows_of db = record {
  next = next_in (db meta_tree);
  domains = map domain_in (db (tree_of Domains));
  tokens = map token_in (db (tree_of Tokens));
  documents = map document_in (db (tree_of Documents));
  roots = map root_in (db (tree_of Roots));
  sources = map placed_row_in (db (tree_of Sources));
}

-- the rows of the tables that a connection has now
abbrev pub rows_now : State → Rows
rows_now store = rows_of store.now.trees

-- the rows of the tables of schema 1
abbrev pub rows_of_schema_1 : Trees → Rows
rows_of_schema_1 db = record (rows_of db) { sources = map unissued_in (db (tree_of Attributes)) }

-- ---- the state of the domain of a number

-- the rows of the tokens of the domain of that number
abbrev pub tokens_at : List TokenRow → ℤ → List TokenRow
tokens_at tokens number = filter (λ t. int_eq t.number number) tokens

-- the rows of the documents of the domain of that number
abbrev pub documents_at : List DocumentRow → ℤ → List DocumentRow
documents_at documents number = filter (λ d. int_eq d.number number) documents

-- the rows of the source of the domain of that number
abbrev pub sources_at : List PlacedRow → ℤ → List PlacedRow
sources_at sources number = filter (λ p. int_eq p.number number) sources

-- a token's role, by its digest
abbrev pub token_entry : TokenRow → List ℕ × Role
token_entry t = (t.digest, t.role)

-- a document's text, and whether it is active, by its key
abbrev pub document_entry : DocumentRow → DocumentKey × StoredDocument
document_entry d = (d.key, record { text = d.text; active = d.active })

-- the roles of the tokens of rows, by their digests
abbrev pub roles_of : List TokenRow → FinMap compare_bytes Role
roles_of tokens = from_entries (map token_entry tokens)

-- the documents of rows, by their keys
abbrev pub documents_by_key : List DocumentRow → FinMap compare_keys StoredDocument
documents_by_key documents = from_entries (map document_entry documents)

-- the root of the domain of that number, if a row has one
abbrev pub root_at : List RootRow → ℤ → Option Reference
root_at roots number = option_map reference_of (get_by (λ r. r.number) roots number)

-- the rows of a source stand in the order of their places
abbrev pub source_of : List PlacedRow → List SourceRow
source_of sources = map (λ p. p.row) (sort_by (on (λ p. p.place) int_cmp) sources)

-- what the rows keep of the domain of that number: its tokens, its documents, its root and its source
abbrev pub state_at : Rows → ℤ → DomainState
state_at rows number = record {
  tokens = roles_of (tokens_at rows.tokens number);
  documents = documents_by_key (documents_at rows.documents number);
  root = root_at rows.roots number;
  source = source_of (sources_at rows.sources number);
}

-- ---- all domains

-- a domain: its number and epoch are in its row, and its state in the rows of that number
abbrev pub domain_of : Rows → DomainRow → Domain
domain_of rows d = record { number = nat_of d.number; epoch = nat_of d.epoch; state = state_at rows d.number }

-- a domain, by its name
abbrev pub domain_entry : Rows → DomainRow → List ℕ × Domain
domain_entry rows d = (d.name, domain_of rows d)

-- all domains, by their names, and the number of the next
abbrev pub kept_of : Rows → Kept
kept_of rows = record { domains = from_entries (map (domain_entry rows) rows.domains); next = nat_of rows.next }

-- what the tables of schema 2 mean
abbrev pub kept_in : Trees → Kept
kept_in db = kept_of (rows_of db)

-- what the tables of schema 1 mean
abbrev pub kept_in_schema_1 : Trees → Kept
kept_in_schema_1 db = kept_of (rows_of_schema_1 db)
