-- The queries that tell whether a table has its rowids in their order: one text of them as the table has them, one as they are sorted.
use Rattle.std.proofs.Common.{◌≡◌, ℕ, pos, negsuc, List, [], ◌∷◌, codes, true, false, None, refl, sym, true≢false}
use Rattle.xa_store.proofs.Common.{Collation, Binary, Command, Select, IsPlain, Query, inner, folded, end, Term, lit, col, op1, op2, Null, Int, Is, CheckedTable, Domains, Tokens, Documents, Roots, Attributes, Sources, SchemaVersion, Schema1, Schema2, schema_of, tree_of}
use Rattle.sqlite.specs.Listing.{understood}
use Rattle.sqlite_schema.specs.declared.program.Table.TheVariants.{Selected}
use Rattle.sqlite_sql.specs.declared.aggregate.AggregateOp.TheVariants.{Concat}
use Rattle.sqlite_sql.specs.declared.ops.UnaryOp.TheVariants.{Not}
use Rattle.sqlite_sql.specs.Group.{Aggregate}
use Rattle.sqlite_tied.specs.Compute.{everything}
use Rattle.sqlite_value.specs.Keys.{ascending}
use Rattle.xa_store.specs.keeping.Check.{has_table, order_query}
use Rattle.xa_store.proofs.TextLemmas.{IsQueryIn}

-- the rows that the query makes of its own
abbrev pub sorted_tree : ℕ
sorted_tree = 2147483648

abbrev pub text_over : Term → Aggregate
text_over argument = record { op = Concat; distinct = false; collation = Binary; argument = argument }

-- all rows of a table in the order of their rowids
abbrev pub by_rowid : ℕ → List Term → List Collation → Query
by_rowid t shown collations = record {
  from = inner t end;
  filter = [];
  group = None;
  project = shown;
  distinct = false;
  collations = collations;
  order = (col 1 0, ascending Binary) ∷ [];
  limit = lit (Int (negsuc 0));
  offset = lit (Int (pos 0));
}

abbrev pub sorted_query : ℕ → Query
sorted_query t = by_rowid t (lit Null ∷ col 1 0 ∷ []) (Binary ∷ [])

abbrev pub rising_query : ℕ → Query
rising_query t = record {
  from = folded (inner t end) [] (text_over (col 1 0) ∷ []) (folded (inner sorted_tree end) [] (text_over (col 2 1) ∷ []) end);
  filter = op1 Not (op2 (Is Binary) (col 1 0) (col 2 0)) ∷ [];
  group = None;
  project = lit (Int (pos 1)) ∷ [];
  distinct = false;
  collations = [];
  order = [];
  limit = lit (Int (negsuc 0));
  offset = lit (Int (pos 0));
}

abbrev pub rising_command : ℕ → Command
rising_command t = Select (record { lets = Selected (sorted_query t) ∷ []; body = rising_query t }) (codes "1" ∷ [])

pub order_is : (kind : CheckedTable) (version : SchemaVersion) → has_table kind version ≡ true → IsQueryIn (schema_of version) (order_query kind) (rising_command (tree_of kind))
unfolding understood everything
order_is Domains Schema1 has = (refl, refl, (refl, refl))
order_is Domains Schema2 has = (refl, refl, (refl, refl))
order_is Tokens Schema1 has = (refl, refl, (refl, refl))
order_is Tokens Schema2 has = (refl, refl, (refl, refl))
order_is Documents Schema1 has = (refl, refl, (refl, refl))
order_is Documents Schema2 has = (refl, refl, (refl, refl))
order_is Roots Schema1 has = (refl, refl, (refl, refl))
order_is Roots Schema2 has = (refl, refl, (refl, refl))
order_is Attributes Schema1 has = (refl, refl, (refl, refl))
order_is Attributes Schema2 has = (refl, refl, (refl, refl))
order_is Sources Schema1 has = absurd (true≢false (sym has))
order_is Sources Schema2 has = (refl, refl, (refl, refl))

pub order_plain : (kind : CheckedTable) (version : SchemaVersion) → has_table kind version ≡ true → IsPlain (understood (schema_of version) (order_query kind))
order_plain kind version has = (order_is kind version has).2
