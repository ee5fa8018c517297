-- What the queries are by which the rows of the tables are checked.
use Rattle.std.proofs.Common.{◌≡◌, ℕ, true, List, [], ◌∷◌, map, codes, refl, sym, true≢false}
use Rattle.sqlite.specs.Listing.{understood}
use Rattle.xa_store.proofs.Common.{Query, col, CheckedTable, Domains, Tokens, Documents, Roots, Attributes, Sources, SchemaVersion, Schema1, Schema2, read_columns, schema_of, sources_in, tree_of}
use Rattle.sqlite_tied.specs.Compute.{everything}
use Rattle.xa_store.specs.keeping.Check.{has_table, places_query, rows_query}
use Rattle.xa_store.specs.keeping.Texts.{meta_rows}
use Rattle.xa_store.proofs.TextLemmas.{of_table, reading, IsQuery, IsQueryIn}

abbrev pub query_of : CheckedTable → Query
query_of kind = of_table (tree_of kind) [] (map (λ at. col 1 at) (read_columns kind)) (0 ∷ [])

abbrev pub names_of : CheckedTable → List (List ℕ)
names_of Domains = codes "number" ∷ codes "name" ∷ codes "epoch" ∷ []
names_of Tokens = codes "rowid" ∷ codes "number" ∷ codes "digest" ∷ codes "role" ∷ []
names_of Documents = codes "rowid" ∷ codes "number" ∷ codes "kind" ∷ codes "id" ∷ codes "version" ∷ codes "body" ∷ codes "active" ∷ []
names_of Roots = codes "number" ∷ codes "kind" ∷ codes "id" ∷ codes "pattern" ∷ codes "earliest" ∷ codes "latest" ∷ []
names_of Attributes = codes "rowid" ∷ codes "number" ∷ codes "place" ∷ codes "category" ∷ codes "entity" ∷ codes "attribute" ∷ codes "value_type" ∷ codes "value" ∷ []
names_of Sources = codes "rowid" ∷ codes "number" ∷ codes "place" ∷ codes "category" ∷ codes "entity" ∷ codes "attribute" ∷ codes "value_type" ∷ codes "value" ∷ codes "issuer" ∷ []

pub checked_is : (kind : CheckedTable) (version : SchemaVersion) → has_table kind version ≡ true → IsQueryIn (schema_of version) (rows_query kind) (reading (query_of kind) (names_of kind))
unfolding understood everything
checked_is Domains Schema1 has = (refl, refl, (refl, refl))
checked_is Domains Schema2 has = (refl, refl, (refl, refl))
checked_is Tokens Schema1 has = (refl, refl, (refl, refl))
checked_is Tokens Schema2 has = (refl, refl, (refl, refl))
checked_is Documents Schema1 has = (refl, refl, (refl, refl))
checked_is Documents Schema2 has = (refl, refl, (refl, refl))
checked_is Roots Schema1 has = (refl, refl, (refl, refl))
checked_is Roots Schema2 has = (refl, refl, (refl, refl))
checked_is Attributes Schema1 has = (refl, refl, (refl, refl))
checked_is Attributes Schema2 has = (refl, refl, (refl, refl))
checked_is Sources Schema1 has = absurd (true≢false (sym has))
checked_is Sources Schema2 has = (refl, refl, (refl, refl))

abbrev pub query_of_places : SchemaVersion → Query
query_of_places version = of_table (tree_of (sources_in version)) [] (col 1 1 ∷ col 1 2 ∷ []) (1 ∷ 2 ∷ [])

abbrev pub place_names : List (List ℕ)
place_names = codes "number" ∷ codes "place" ∷ []

pub places_is : (version : SchemaVersion) → IsQueryIn (schema_of version) (places_query version) (reading (query_of_places version) place_names)
unfolding understood everything
places_is Schema1 = (refl, refl, (refl, refl))
places_is Schema2 = (refl, refl, (refl, refl))

-- in schema 2 the same query is asked of the table that it leaves empty
pub left_is : IsQuery (places_query Schema1) (reading (query_of_places Schema1) place_names)
unfolding understood everything
left_is = (refl, refl, (refl, refl))

abbrev pub meta_query : Query
meta_query = of_table 0 [] (col 1 0 ∷ col 1 2 ∷ col 1 3 ∷ []) (0 ∷ [])

pub meta_read_is : (version : SchemaVersion) → IsQueryIn (schema_of version) meta_rows (reading meta_query (codes "id" ∷ codes "schema_no" ∷ codes "next_number" ∷ []))
unfolding understood everything
meta_read_is Schema1 = (refl, refl, (refl, refl))
meta_read_is Schema2 = (refl, refl, (refl, refl))
