-- The columns that queries show, by the places at which they show them.
use Rattle.std.specs.Prelude.{ℕ}

-- ---- of a domain that was found

abbrev pub domain_number : ℕ
domain_number = 0

abbrev pub domain_epoch : ℕ
domain_epoch = 1

-- ---- of a domain in the list of names

abbrev pub domain_name : ℕ
domain_name = 0

-- ---- of `meta`

abbrev pub next_number : ℕ
next_number = 0

-- ---- of a token that was found

abbrev pub found_role : ℕ
found_role = 0

-- ---- of a token

abbrev pub token_digest : ℕ
token_digest = 0

abbrev pub token_role : ℕ
token_role = 1

-- ---- of a document that was found by its key

abbrev pub document_body : ℕ
document_body = 0

abbrev pub document_active : ℕ
document_active = 1

-- ---- of a document's key, which is shown first

abbrev pub key_kind : ℕ
key_kind = 0

abbrev pub key_id : ℕ
key_id = 1

abbrev pub key_version : ℕ
key_version = 2

-- ---- after the key: whether the document is active, or its text

abbrev pub listed_active : ℕ
listed_active = 3

abbrev pub active_body : ℕ
active_body = 3

-- ---- of a root

abbrev pub root_kind : ℕ
root_kind = 0

abbrev pub root_id : ℕ
root_id = 1

abbrev pub root_pattern : ℕ
root_pattern = 2

abbrev pub root_earliest : ℕ
root_earliest = 3

abbrev pub root_latest : ℕ
root_latest = 4

-- ---- of a row of a source

abbrev pub source_category : ℕ
source_category = 0

abbrev pub source_entity : ℕ
source_entity = 1

abbrev pub source_attribute : ℕ
source_attribute = 2

abbrev pub source_value_type : ℕ
source_value_type = 3

abbrev pub source_value : ℕ
source_value = 4

abbrev pub source_issuer : ℕ
source_issuer = 5
