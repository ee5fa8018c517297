-- The columns that the queries of the check show, by the places at which they show them. Those of tokens, documents and
-- sources stand at these places in the rows of the tables, too.
use Rattle.std.specs.Prelude.{ℕ}

-- ---- of the rowid, which each query of rows shows first

abbrev pub rowid : ℕ
rowid = 0

-- ---- of `meta`

abbrev pub meta_id : ℕ
meta_id = 0

abbrev pub meta_schema : ℕ
meta_schema = 1

abbrev pub meta_next : ℕ
meta_next = 2

-- ---- of a domain

abbrev pub domain_number : ℕ
domain_number = 0

abbrev pub domain_name : ℕ
domain_name = 1

abbrev pub domain_epoch : ℕ
domain_epoch = 2

-- ---- of a token

abbrev pub token_number : ℕ
token_number = 1

abbrev pub token_digest : ℕ
token_digest = 2

abbrev pub token_role : ℕ
token_role = 3

-- ---- of a document

abbrev pub document_number : ℕ
document_number = 1

abbrev pub document_kind : ℕ
document_kind = 2

abbrev pub document_id : ℕ
document_id = 3

abbrev pub document_version : ℕ
document_version = 4

abbrev pub document_body : ℕ
document_body = 5

abbrev pub document_active : ℕ
document_active = 6

-- ---- of a root

abbrev pub root_number : ℕ
root_number = 0

abbrev pub root_kind : ℕ
root_kind = 1

abbrev pub root_id : ℕ
root_id = 2

abbrev pub root_pattern : ℕ
root_pattern = 3

abbrev pub root_earliest : ℕ
root_earliest = 4

abbrev pub root_latest : ℕ
root_latest = 5

-- ---- of a row of a source; in schema 1 there is none for the issuer

abbrev pub source_number : ℕ
source_number = 1

abbrev pub source_place : ℕ
source_place = 2

abbrev pub source_category : ℕ
source_category = 3

abbrev pub source_entity : ℕ
source_entity = 4

abbrev pub source_attribute : ℕ
source_attribute = 5

abbrev pub source_value_type : ℕ
source_value_type = 6

abbrev pub source_value : ℕ
source_value = 7

abbrev pub source_issuer : ℕ
source_issuer = 8

-- ---- of the place of a row of a source, as the query of places shows it

abbrev pub place_domain : ℕ
place_domain = 0

abbrev pub place_index : ℕ
place_index = 1
