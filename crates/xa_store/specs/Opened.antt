-- When the tables of a store are those of a keeper, and what opening it answers, by the schema that the tables
-- have. A body is a document of the key that its columns hold, versions and values stand in their printed form,
-- and places count from 0 in each domain. Rows of a number that was assigned and has no domain are sound: the
-- tables' keys rule them out, if who writes a file has them enforced, and nothing is ever read of them, since no
-- number is assigned twice.
use Rattle.std.specs.Prelude.{◌==◌, ℕ, ◌+ℤ◌, ℤ, pos, Bool, true, false, ◌&&◌, if◌then◌else◌, List, [], ◌∷◌, map}
use Rattle.std.specs.Prelude.{filter, length, bytes_eq, is_ok, int_le, int_lt, Option, Some, None, Result, Ok, Err}
use Rattle.std.specs.List.{list_all}
use Rattle.std.specs.Ordering.{int_eq, int_cmp}
use Rattle.std.specs.Str.{is_utf8}
use Rattle.sqlite.specs.Ops.{fits_i64}
use Rattle.sqlite.specs.Order.{Row, column}
use Rattle.sqlite.specs.Schema.{Schema}
use Rattle.sqlite.specs.Tree.{Trees}
use Rattle.sqlite.specs.declared.types.Value.{Value}
use Rattle.sqlite.specs.declared.types.Value.TheVariants.{Null, Int, Text, Blob}
use Rattle.sqlite_keyed.specs.Lists.{sort_by}
use Rattle.sqlite_typed.specs.Columns.{int_of}
use Rattle.xa_value.specs.declared.data_type.DataType.{DataType}
use Rattle.xa_value.specs.declared.read_error.ReadError.{ReadError}
use Rattle.xa_value.specs.declared.value.Value.{Value as Datum}
use Rattle.xa_value.specs.Printing.{printed}
use Rattle.xa_value.specs.Reading.{read}
use Rattle.xa_value.specs.Types.{type_at}
use Rattle.xa_policy.specs.Pattern.{read_pattern}
use Rattle.xa_policy.specs.Version.{read_version, version_text}
use Rattle.xa_notation.specs.declared.document.Parsed.{Parsed}
use Rattle.xa_notation.specs.declared.notation_error.NotationError.{NotationError}
use Rattle.xa_notation.specs.Document.{document_of}
use Rattle.xa_records.specs.DomainName.{is_domain_name}
use Rattle.xa_store.specs.declared.check.row.SourcePlace.{SourcePlace}
use Rattle.xa_store.specs.declared.error.OpenError.{OpenError}
use Rattle.xa_store.specs.declared.error.OpenError.TheVariants.{NotThisSchema, Damaged}
use Rattle.xa_store.specs.declared.schema.checked_table.CheckedTable.{CheckedTable}
use Rattle.xa_store.specs.declared.schema.checked_table.CheckedTable.TheVariants.{Domains, Tokens, Documents, Roots}
use Rattle.xa_store.specs.declared.schema.checked_table.CheckedTable.TheVariants.{Attributes, Sources}
use Rattle.xa_store.specs.declared.schema.version.SchemaVersion.{SchemaVersion}
use Rattle.xa_store.specs.declared.schema.version.SchemaVersion.TheVariants.{Schema1, Schema2}
use Rattle.xa_store.specs.CheckedColumns as shown
use Rattle.xa_store.specs.Rows.{nat_of, kind_number}
use Rattle.xa_store.specs.Tables.{meta_tree, schema_1, schema_2, tree_of}

-- ---- what one column holds

abbrev pub holds_int : (ℤ → Bool) → Value → Bool
holds_int test (Int n) = test n
holds_int test _ = false

abbrev pub holds_text : (List ℕ → Bool) → Value → Bool
holds_text test (Text bytes) = test bytes
holds_text test _ = false

abbrev pub holds_text_if_any : (List ℕ → Bool) → Value → Bool
holds_text_if_any test Null = true
holds_text_if_any test value = holds_text test value

abbrev pub holds_blob : (List ℕ → Bool) → Value → Bool
holds_blob test (Blob bytes) = test bytes
holds_blob test _ = false

-- an epoch, or a number: none is negative, and each is one that a column can hold
abbrev pub is_count : ℤ → Bool
is_count n = int_le (pos 0) n && fits_i64 n

-- a number that has been assigned to a domain
abbrev pub is_assigned : ℤ → ℤ → Bool
is_assigned next n = is_count n && int_lt n next

-- a role, a kind or whether a document is active
abbrev pub is_bit : ℤ → Bool
is_bit n = is_count n && int_le n (pos 1)

abbrev pub is_digest : List ℕ → Bool
is_digest bytes = length bytes == 32

abbrev pub is_pattern : List ℕ → Bool
is_pattern text = is_utf8 text && is_ok (read_pattern text)

abbrev pub is_version : List ℕ → Bool
is_version text = is_utf8 text && is_ok (read_version text)

-- ---- a body, whose key the columns hold

abbrev pub holds_key : Value → Value → Value → Result Parsed NotationError → Bool
holds_key kind id version (Ok parsed) =
    holds_int (int_eq (kind_number parsed.kind)) kind && holds_text (bytes_eq parsed.id) id
    && holds_text (bytes_eq (version_text parsed.version)) version
holds_key kind id version (Err _) = false

-- ---- a value, in its printed form

abbrev pub is_printed : List ℕ → Result Datum ReadError → Bool
is_printed text (Ok value) = bytes_eq (printed value) text
is_printed text (Err _) = false

abbrev pub is_value : List ℕ → Option DataType → Bool
is_value text (Some type) = is_printed text (read type text)
is_value text None = false

abbrev pub type_numbered : ℤ → Option DataType
type_numbered number = if is_count number then type_at (nat_of number) else None

abbrev pub holds_value : ℤ → List ℕ → Bool
holds_value number text = is_utf8 text && is_value text (type_numbered number)

-- ---- a row of each table, as its columns are read; `next` is the number of the next domain

-- the columns hold the key of a document that was read
abbrev pub holds_key_of : Row → Result Parsed NotationError → Bool
holds_key_of row parsed =
    holds_key (column row shown.document_kind) (column row shown.document_id) (column row shown.document_version) parsed

-- a column holds a body of the key that the others hold
abbrev pub holds_body : Row → Bool
holds_body row = holds_blob (λ body. holds_key_of row (document_of body)) (column row shown.document_body)

-- a column holds the printed text of a value of the type of that number
abbrev pub holds_value_text : Row → ℤ → Bool
holds_value_text row number = holds_text (holds_value number) (column row shown.source_value)

-- two columns hold a value, by its type and its printed text
abbrev pub holds_typed_value : Row → Bool
holds_typed_value row = holds_int (λ number. holds_value_text row number) (column row shown.source_value_type)

-- the row is one of a source, but for its issuer
abbrev pub is_row_of_source : ℤ → Row → Bool
is_row_of_source next row =
    holds_int (is_assigned next) (column row shown.source_number)
    && holds_text is_utf8 (column row shown.source_category) && holds_text is_utf8 (column row shown.source_entity)
    && holds_text is_utf8 (column row shown.source_attribute) && holds_typed_value row

abbrev pub is_sound_row : CheckedTable → ℤ → Row → Bool
is_sound_row Domains next row =
    holds_int (is_assigned next) (column row shown.domain_number)
    && holds_text is_domain_name (column row shown.domain_name) && holds_int is_count (column row shown.domain_epoch)
is_sound_row Tokens next row =
    holds_int (is_assigned next) (column row shown.token_number)
    && holds_blob is_digest (column row shown.token_digest) && holds_int is_bit (column row shown.token_role)
is_sound_row Documents next row =
    holds_int (is_assigned next) (column row shown.document_number)
    && holds_int is_bit (column row shown.document_active) && holds_body row
is_sound_row Roots next row =
    holds_int (is_assigned next) (column row shown.root_number) && holds_int is_bit (column row shown.root_kind)
    && holds_text is_utf8 (column row shown.root_id) && holds_text_if_any is_pattern (column row shown.root_pattern)
    && holds_text_if_any is_version (column row shown.root_earliest)
    && holds_text_if_any is_version (column row shown.root_latest)
is_sound_row Attributes next row = is_row_of_source next row
is_sound_row Sources next row =
    is_row_of_source next row && holds_text_if_any is_utf8 (column row shown.source_issuer)

-- the columns that are read, of those that are kept: that of an INTEGER PRIMARY KEY is kept as the rowid
abbrev pub read_columns : CheckedTable → List ℕ
read_columns Domains = 0 ∷ 2 ∷ 3 ∷ []
read_columns Tokens = 0 ∷ 1 ∷ 2 ∷ 3 ∷ []
read_columns Documents = 0 ∷ 1 ∷ 2 ∷ 3 ∷ 4 ∷ 5 ∷ 6 ∷ []
read_columns Roots = 0 ∷ 2 ∷ 3 ∷ 4 ∷ 5 ∷ 6 ∷ []
read_columns Attributes = 0 ∷ 1 ∷ 2 ∷ 3 ∷ 4 ∷ 5 ∷ 6 ∷ 7 ∷ []
read_columns Sources = 0 ∷ 1 ∷ 2 ∷ 3 ∷ 4 ∷ 5 ∷ 6 ∷ 7 ∷ 8 ∷ []

-- a row as the check's query shows it
abbrev pub as_read : CheckedTable → Row → Row
as_read table row = map (column row) (read_columns table)

-- ---- the rows of a table

abbrev pub is_number : Value → Bool
is_number (Int n) = true
is_number _ = false

-- the row has a rowid, and its columns hold what they should
abbrev pub is_whole_row : CheckedTable → ℤ → Row → Bool
is_whole_row table next row = is_number (column row shown.rowid) && is_sound_row table next row

-- each rowid is below those after it
abbrev pub are_rising : List ℤ → Bool
are_rising [] = true
are_rising (n ∷ ns) = list_all (int_lt n) ns && are_rising ns

abbrev pub rowid_in : Row → ℤ
rowid_in row = int_of (column row shown.rowid)

-- the rows of the table hold what they should, and their rowids rise
abbrev pub are_sound_rows : CheckedTable → ℤ → List Row → Bool
are_sound_rows table next rows = list_all (is_whole_row table next) rows && are_rising (map rowid_in rows)

-- ---- places

abbrev pub place_in : Row → SourcePlace
place_in row =
    record { domain = int_of (column row shown.source_number); index = int_of (column row shown.source_place) }

-- the places in the source of one domain, sorted
abbrev pub places_of : List SourcePlace → ℤ → List ℤ
places_of places number =
    sort_by int_cmp (map (λ place. place.index) (filter (λ place. int_eq place.domain number) places))

-- the places are that number, the one after it, and so on
abbrev pub count_from : ℤ → List ℤ → Bool
count_from n [] = true
count_from n (place ∷ places) = int_eq place n && count_from (n +ℤ pos 1) places

-- the places of the rows of each domain are 0 to n - 1, each once
abbrev pub are_counted : List SourcePlace → Bool
are_counted places = list_all (λ place. count_from (pos 0) (places_of places place.domain)) places

-- ---- the two schemas

abbrev pub schema_of : SchemaVersion → Schema
schema_of Schema1 = schema_1
schema_of Schema2 = schema_2

-- the number that `meta` has for the schema
abbrev pub number_of : SchemaVersion → ℤ
number_of Schema1 = pos 1
number_of Schema2 = pos 2

-- the table that has the rows of sources
abbrev pub sources_in : SchemaVersion → CheckedTable
sources_in Schema1 = Attributes
sources_in Schema2 = Sources

-- the table has no row
abbrev pub is_empty : List Row → Bool
is_empty [] = true
is_empty (row ∷ rows) = false

-- no row stands where schema 2 has none
abbrev pub is_left_empty : SchemaVersion → Trees → Bool
is_left_empty Schema1 db = true
is_left_empty Schema2 db = is_empty (db (tree_of Attributes))

-- ---- what opening answers

abbrev pub int_in : Value → Option ℤ
int_in (Int n) = Some n
int_in _ = None

-- the number of the next domain, in the one row of `meta` as it is read, if that has the schema's number
abbrev pub next_of : SchemaVersion → Row → Option ℤ
next_of version row =
    if holds_int (int_eq (pos 1)) (column row shown.meta_id)
    && holds_int (int_eq (number_of version)) (column row shown.meta_schema)
    then int_in (column row shown.meta_next)
    else None

-- the number of the next domain, if `meta` has one row, of that schema
abbrev pub known_next : SchemaVersion → List Row → Option ℤ
known_next version (row ∷ []) = next_of version row
known_next version _ = None

-- a row of `meta` as the check's query shows it
abbrev pub read_meta : Row → Row
read_meta row = map (column row) (0 ∷ 2 ∷ 3 ∷ [])

abbrev pub is_sound_table : Trees → ℤ → CheckedTable → Bool
is_sound_table db next table = are_sound_rows table next (map (as_read table) (db (tree_of table)))

-- the tables of the schema that are checked row by row
abbrev pub tables_in : SchemaVersion → List CheckedTable
tables_in version = Domains ∷ Tokens ∷ Documents ∷ Roots ∷ sources_in version ∷ []

-- all tables are sound; `next` is the number of the next domain
abbrev pub is_sound : SchemaVersion → Trees → ℤ → Bool
is_sound version db next =
    is_count next && list_all (is_sound_table db next) (tables_in version)
    && (are_counted (map place_in (db (tree_of (sources_in version)))) && is_left_empty version db)

-- what opening answers, if `meta` tells that number of the next domain
abbrev pub checked : SchemaVersion → Trees → Option ℤ → Result (Unit {0}) OpenError
checked version db None = Err NotThisSchema
checked version db (Some next) = if is_sound version db next then Ok tt else Err Damaged

-- what opening answers of tables of that schema: with the number of the other they are none of a keeper's
abbrev pub opened : SchemaVersion → Trees → Result (Unit {0}) OpenError
opened version db = checked version db (known_next version (map read_meta (db meta_tree)))
