-- When the tables mean what the keeper says that they do.
use Rattle.std.specs.Prelude.{◌≡◌, ◌≤◌, ℕ, ℤ, pos, Bool, false, ◌&&◌, true}
use Rattle.std.specs.Prelude.{List, [], ◌∷◌, map, Option, Some, None, Ok, IsTrue}
use Rattle.std.specs.List.{AllByRecursion}
use Rattle.std.specs.Ordering.{eq_by_cmp, int_eq}
use Rattle.std.specs.Str.{is_utf8}
use Rattle.sqlite.specs.Order.{Row}
use Rattle.sqlite.specs.Schema.{Schema}
use Rattle.sqlite.specs.State.{State}
use Rattle.sqlite.specs.Tree.{Trees}
use Rattle.sqlite_catalog.specs.Listing.{IsSound as ObeysRules}
use Rattle.sqlite_keyed.specs.Keyed.{IsKeyedBy}
use Rattle.sqlite_keyed.specs.Rules.{AreApart}
use Rattle.xa_policy.specs.DocumentKey.{compare_keys}
use Rattle.xa_decide.specs.declared.source_row.SourceRow.{SourceRow}
use Rattle.xa_records.specs.DomainName.{is_domain_name}
use Rattle.xa_records.specs.DomainState.{IsDocumentOf, compare_bytes, new_domain}
use Rattle.xa_records.specs.Kept.{IsNumbered, Kept}
use Rattle.xa_store.specs.declared.check.row.SourcePlace.{SourcePlace}
use Rattle.xa_store.specs.declared.schema.checked_table.CheckedTable.TheVariants.{Domains, Tokens, Documents, Roots}
use Rattle.xa_store.specs.declared.schema.checked_table.CheckedTable.TheVariants.{Attributes, Sources}
use Rattle.xa_store.specs.Meaning.{Rows, rows_of, state_at, kept_in, kept_of}
use Rattle.xa_store.specs.Opened.{count_from, holds_value, is_count, is_digest}
use Rattle.xa_store.specs.Opened.{is_assigned, is_pattern, is_version, opened, places_of}
use Rattle.xa_store.specs.Rows.{DomainRow, TokenRow, DocumentRow, RootRow, PlacedRow, meta_row, next_in}
use Rattle.xa_store.specs.Rows.{domain_row, domain_in, token_row, token_in, document_row, document_in, root_row}
use Rattle.xa_store.specs.Rows.{root_in, placed_row, placed_row_in, text_at, type_number, value_text}
use Rattle.xa_store.specs.Tables.{meta_tree, schema_2, tree_of}
use Rattle.xa_store.specs.declared.schema.version.SchemaVersion.TheVariants.{Schema2}

-- ---- rows as the keeper writes them

-- two rows have one key
abbrev pub same_name : DomainRow → DomainRow → Bool
same_name a b = eq_by_cmp compare_bytes a.name b.name

abbrev pub same_token : TokenRow → TokenRow → Bool
same_token a b = int_eq a.number b.number && eq_by_cmp compare_bytes a.digest b.digest

abbrev pub same_document : DocumentRow → DocumentRow → Bool
same_document a b = int_eq a.number b.number && eq_by_cmp compare_keys a.key b.key

abbrev pub same_place : PlacedRow → PlacedRow → Bool
same_place a b = int_eq a.number b.number && int_eq a.place b.place

-- the rows of a table are those that these records write, their rowids rise, and no two have one key
pub record AreRows {X : Type 0} (write : X → Row) (read : Row → X) (rowid : X → ℤ) (same : X → X → Bool)
    (rows : List Row) : Type 0 where
  pub written : rows ≡ map write (map read rows)
  pub rise : IsKeyedBy rowid (map read rows)
  pub apart : AreApart same (map read rows)

-- our tables, with rows as the keeper writes them
pub record HaveWrittenRows (db : Trees) : Type 0 where
  pub meta : db meta_tree ≡ meta_row (next_in (db meta_tree)) ∷ []
  pub domains : AreRows domain_row domain_in (λ d. d.number) same_name (db (tree_of Domains))
  pub tokens : AreRows token_row token_in (λ t. t.rowid) same_token (db (tree_of Tokens))
  pub documents : AreRows document_row document_in (λ d. d.rowid) same_document (db (tree_of Documents))
  pub roots : AreRows root_row root_in (λ r. r.number) (λ a b. false) (db (tree_of Roots))
  pub left_empty : db (tree_of Attributes) ≡ []
  pub sources : AreRows placed_row placed_row_in (λ p. p.rowid) same_place (db (tree_of Sources))

-- ---- the domains' numbers

-- numbers are apart and below the next, and no row stands yet for a number that was not given
pub record AreNumbered (rows : Rows) : Type 0 where
  pub numbered : IsNumbered (kept_of rows)
  pub unused : (n : ℕ) → (kept_of rows).next ≤ n → state_at rows (pos n) ≡ new_domain

-- ---- documents

-- each text is a document of the key under which it is kept
abbrev pub AreDocuments : List DocumentRow → Type 0
AreDocuments = AllByRecursion (λ d. IsDocumentOf d.key d.text)

-- ---- what the columns hold

-- the test of a text that there need not be
abbrev pub is_if_any : (List ℕ → Bool) → Option (List ℕ) → Bool
is_if_any test None = true
is_if_any test (Some text) = test text

-- the id of a root is a text, and what it says of versions are a pattern and versions
abbrev pub AreRootTexts : RootRow → Type 0
AreRootTexts r =
    (is_utf8 r.id ≡ true) × (is_if_any is_pattern (text_at r.texts 0) ≡ true)
    × (is_if_any is_version (text_at r.texts 1) ≡ true) × (is_if_any is_version (text_at r.texts 2) ≡ true)

-- the names in a row of a source are texts, so is its issuer, and its value reads back from one
abbrev pub AreSourceTexts : SourceRow → Type 0
AreSourceTexts row =
    (is_utf8 row.category ≡ true) × (is_utf8 row.entity ≡ true) × (is_utf8 row.attribute_id ≡ true)
    × (holds_value (type_number row.value) (value_text row.value) ≡ true) × (is_if_any is_utf8 row.issuer ≡ true)

-- the domain and the place of a row of a source
abbrev pub place_of : PlacedRow → SourcePlace
place_of p = record { domain = p.number; index = p.place }

-- the columns of all rows hold what they should, beside what is said above: so opening finds them sound
pub record HaveSoundColumns (rows : Rows) : Type 0 where
  pub next : is_count rows.next ≡ true
  pub domains : AllByRecursion
      (λ d. (is_assigned rows.next d.number ≡ true) × (is_domain_name d.name ≡ true) × (is_count d.epoch ≡ true))
      rows.domains
  pub tokens : AllByRecursion (λ t. (is_assigned rows.next t.number ≡ true) × (is_digest t.digest ≡ true)) rows.tokens
  pub documents : AllByRecursion (λ d. is_assigned rows.next d.number ≡ true) rows.documents
  pub roots : AllByRecursion (λ r. (is_assigned rows.next r.number ≡ true) × AreRootTexts r) rows.roots
  pub sources : AllByRecursion (λ p. (is_assigned rows.next p.number ≡ true) × AreSourceTexts p.row) rows.sources
  pub places : (number : ℤ) → count_from (pos 0) (places_of (map place_of rows.sources) number) ≡ true

-- ---- all tables of a store

-- our tables and no others, as the store itself lists them, whose rows obey the rules of these tables
abbrev pub IsOurDatabase : Trees → Type 0
IsOurDatabase = ObeysRules schema_2

-- our tables and no others, which opening finds sound
pub record OpensSoundly (db : Trees) : Type 0 where
  pub database : IsOurDatabase db
  pub opens : opened Schema2 db ≡ Ok tt

-- ---- a connection between two calls of the keeper

-- a connection whose tables are those of the schema, and on which nothing waits for a commit
pub record RestsIn (under : Schema) (s : State) : Type 0 where
  pub schema : s.now.schema ≡ under
  pub settled : s.now ≡ s.committed
  pub idle : s.in_transaction ≡ false

-- a connection that rests on our tables
abbrev pub Rests : State → Type 0
Rests = RestsIn schema_2

-- the connection holds what it held
pub record SameNow (old new : State) : Type 0 where
  pub now : new.now ≡ old.now
  pub committed : new.committed ≡ old.committed
  pub idle : new.in_transaction ≡ false

-- a connection that rests on our tables, which are as the keeper writes them
pub record IsKeepersStore (s : State) : Type 0 where
  pub rests : Rests s
  pub database : IsOurDatabase s.now.trees
  pub tables : HaveWrittenRows s.now.trees
  pub domains : AreNumbered (rows_of s.now.trees)
  pub documents : AreDocuments (rows_of s.now.trees).documents
  pub whole : HaveSoundColumns (rows_of s.now.trees)

-- What a crash now may leave: what our tables mean, and of trees that aren't ours whatever one likes. So if this
-- says that only some things may be left, it says that all trees that may be left are ours.
abbrev pub LeavesKept : State → Kept → Type 0
LeavesKept s left = (db : Trees) × s.may_leave db × (OpensSoundly db → left ≡ kept_in db)

-- an open store of our tables, of which a crash leaves what it holds, in our tables
pub record IsSoundStore (s : State) : Type 0 where
  pub is_open : IsTrue s.is_open
  pub ours : IsKeepersStore s
  pub settled : (db : Trees) → s.may_leave db → OpensSoundly db × (kept_in db ≡ kept_in s.now.trees)
