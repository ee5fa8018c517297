-- The tables in which domains are kept, of both schemas. Trees are numbered as the tables and their automatic indexes
-- are made, and schema 2 is schema 1 with one more table: so a store that was made with schema 2 and one that was
-- brought into it have the same trees.
use Rattle.std.specs.Prelude.{ℕ, List, [], ◌∷◌, ◌++◌, codes, true, false, None, Some}
use Rattle.sqlite.specs.Collation.TheVariants.{Binary}
use Rattle.sqlite.specs.Kind.{Kind}
use Rattle.sqlite.specs.Kind.TheVariants.{Integer, Text, Blob}
use Rattle.sqlite.specs.Schema.{Schema}
use Rattle.sqlite.specs.Table.{Table}
use Rattle.sqlite.specs.declared.types.Value.TheVariants.{Null}
use Rattle.sqlite_schema.specs.declared.schema.Action.TheVariants.{NoAction, Cascade}
use Rattle.sqlite_schema.specs.declared.schema.Column.{Column}
use Rattle.sqlite_schema.specs.declared.schema.Index.{Index}
use Rattle.sqlite_schema.specs.declared.schema.Reference.{Reference}
use Rattle.sqlite_value.specs.declared.keys.Order.{Order}
use Rattle.xa_store.specs.declared.schema.checked_table.CheckedTable.{CheckedTable}
use Rattle.xa_store.specs.declared.schema.checked_table.CheckedTable.TheVariants.{Domains, Tokens, Documents, Roots}
use Rattle.xa_store.specs.declared.schema.checked_table.CheckedTable.TheVariants.{Attributes, Sources}

-- ---- trees

-- the tree that has the one row of `meta`
abbrev pub meta_tree : ℕ
meta_tree = 0

-- the tree that has the rows of the table
abbrev pub tree_of : CheckedTable → ℕ
tree_of Domains = 1
tree_of Tokens = 3
tree_of Documents = 5
tree_of Roots = 7
tree_of Attributes = 8
tree_of Sources = 10

-- ---- columns

abbrev pub needed : List ℕ → Kind → Column
needed name kind =
    record { name = name; kind = kind; is_strict = true; not_null = true; default = Null; collation = Binary }

-- a column of texts that may be NULL
abbrev pub text_if_any : List ℕ → Column
text_if_any name =
    record { name = name; kind = Text; is_strict = true; not_null = false; default = Null; collation = Binary }

-- a column that is the INTEGER PRIMARY KEY, which is never NULL
abbrev pub own_key : List ℕ → Column
own_key name =
    record { name = name; kind = Integer; is_strict = true; not_null = false; default = Null; collation = Binary }

-- a reference to the domain of that number, with which the row is dropped
abbrev pub of_domain : Reference
of_domain =
    record {
      columns = 1 ∷ [];
      parent = codes "domains";
      parent_columns = codes "number" ∷ [];
      on_delete = Cascade;
      on_update = NoAction;
      is_deferred = false;
    }

-- ---- tables

-- a table whose first column is the row's own key
abbrev pub with_own_key : List ℕ → ℕ → List Column → Table
with_own_key name tree columns = record {
  name = name;
  tree = tree;
  columns = columns;
  key = Some 0;
  primary = 0 ∷ [];
  uniques = [];
  orders = [];
  checks = [];
  references = [];
  computed = [];
  stamps = record { places = []; terms = []; formats = [] };
  is_counted = false;
}

-- a table of rows of domains, whose key is these of its columns
abbrev pub of_domains : List ℕ → ℕ → List Column → List ℕ → Order → Table
of_domains name tree columns places order = record {
  name = name;
  tree = tree;
  columns = columns;
  key = None;
  primary = places;
  uniques = places ∷ [];
  orders = order ∷ [];
  checks = [];
  references = of_domain ∷ [];
  computed = [];
  stamps = record { places = []; terms = []; formats = [] };
  is_counted = false;
}

-- the order that rises in each column
abbrev pub rising : Order
rising = record { digits = 0 }

abbrev pub meta : Table
meta =
    with_own_key (codes "meta") meta_tree
    (own_key (codes "id") ∷ needed (codes "schema_no") Integer ∷ needed (codes "next_number") Integer ∷ [])

abbrev pub domains : Table
domains =
    record (with_own_key (codes "domains") (tree_of Domains)
    (own_key (codes "number") ∷ needed (codes "name") Text ∷ needed (codes "epoch") Integer ∷ [])) {
      uniques = (2 ∷ []) ∷ [];
      orders = rising ∷ [];
    }

abbrev pub tokens : Table
tokens =
    of_domains (codes "tokens") (tree_of Tokens)
    (needed (codes "number") Integer ∷ needed (codes "digest") Blob ∷ needed (codes "role") Integer ∷ [])
    (1 ∷ 2 ∷ []) rising

abbrev pub policies : Table
policies =
    of_domains (codes "policies") (tree_of Documents)
    (needed (codes "number") Integer ∷ needed (codes "kind") Integer ∷ needed (codes "id") Text
    ∷ needed (codes "version") Text ∷ needed (codes "body") Blob ∷ needed (codes "active") Integer ∷ [])
    (1 ∷ 2 ∷ 3 ∷ 4 ∷ []) rising

abbrev pub roots : Table
roots =
    record (with_own_key (codes "roots") (tree_of Roots)
    (own_key (codes "number") ∷ needed (codes "kind") Integer ∷ needed (codes "id") Text ∷ text_if_any (codes "pattern")
    ∷ text_if_any (codes "earliest") ∷ text_if_any (codes "latest") ∷ [])) {
      references = record of_domain { columns = 0 ∷ [] } ∷ [];
    }

-- the rows of sources in schema 1, and no row in schema 2
abbrev pub attributes : Table
attributes =
    of_domains (codes "attributes") (tree_of Attributes)
    (needed (codes "number") Integer ∷ needed (codes "place") Integer
    ∷ needed (codes "category") Text ∷ needed (codes "entity") Text ∷ needed (codes "attribute") Text
    ∷ needed (codes "value_type") Integer ∷ needed (codes "value") Text ∷ []) (1 ∷ 2 ∷ []) rising

-- the rows of sources in schema 2: the columns of schema 1, and the issuer
abbrev pub sources : Table
sources =
    of_domains (codes "sources") (tree_of Sources)
    (attributes.columns ++ text_if_any (codes "issuer") ∷ []) (1 ∷ 2 ∷ []) rising

-- ---- their automatic indexes

abbrev pub index_of : List ℕ → ℕ → ℕ → List ℕ → Index
index_of name tree table columns =
    record { name = name; tree = tree; table = table; columns = columns; order = rising; is_unique = true }

abbrev pub indexes_of_schema_1 : List Index
indexes_of_schema_1 =
    index_of (codes "sqlite_autoindex_domains_1") 2 (tree_of Domains) (2 ∷ [])
    ∷ index_of (codes "sqlite_autoindex_tokens_1") 4 (tree_of Tokens) (1 ∷ 2 ∷ [])
    ∷ index_of (codes "sqlite_autoindex_policies_1") 6 (tree_of Documents) (1 ∷ 2 ∷ 3 ∷ 4 ∷ [])
    ∷ index_of (codes "sqlite_autoindex_attributes_1") 9 (tree_of Attributes) (1 ∷ 2 ∷ [])
    ∷ []

abbrev pub indexes_of_schema_2 : List Index
indexes_of_schema_2 =
    indexes_of_schema_1 ++ index_of (codes "sqlite_autoindex_sources_1") 11 (tree_of Sources) (1 ∷ 2 ∷ []) ∷ []

-- ---- the schemas

-- schema 1, which is only read, and brought into schema 2
abbrev pub schema_1 : Schema
schema_1 =
    record {
      tables = meta ∷ domains ∷ tokens ∷ policies ∷ roots ∷ attributes ∷ [];
      indexes = indexes_of_schema_1;
      views = [];
    }

-- schema 2, that of a keeper
abbrev pub schema_2 : Schema
schema_2 =
    record {
      tables = meta ∷ domains ∷ tokens ∷ policies ∷ roots ∷ attributes ∷ sources ∷ [];
      indexes = indexes_of_schema_2;
      views = [];
    }
