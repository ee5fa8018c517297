-- The statements, but those of the check (`Check`), of which `meta_rows` alone stands here. Contracts cite those
-- that make and migrate tables, `show_document` and `no_statement`; proofs cite the others. A number that a statement
-- has first is the domain's.
use Rattle.std.specs.Prelude.{ℕ, List, codes}

-- ---- the tables are made

abbrev pub create_meta : List ℕ
create_meta =
    codes "CREATE TABLE meta (id INTEGER PRIMARY KEY, schema_no INTEGER NOT NULL, next_number INTEGER NOT NULL) STRICT"

abbrev pub create_domains : List ℕ
create_domains =
    codes "CREATE TABLE domains (number INTEGER PRIMARY KEY, name TEXT NOT NULL UNIQUE, epoch INTEGER NOT NULL) STRICT"

abbrev pub create_tokens : List ℕ
create_tokens =
    codes "CREATE TABLE tokens (number INTEGER NOT NULL REFERENCES domains (number) ON DELETE CASCADE, digest BLOB NOT NULL, role INTEGER NOT NULL, PRIMARY KEY (number, digest)) STRICT"

abbrev pub create_policies : List ℕ
create_policies =
    codes "CREATE TABLE policies (number INTEGER NOT NULL REFERENCES domains (number) ON DELETE CASCADE, kind INTEGER NOT NULL, id TEXT NOT NULL, version TEXT NOT NULL, body BLOB NOT NULL, active INTEGER NOT NULL, PRIMARY KEY (number, kind, id, version)) STRICT"

abbrev pub create_roots : List ℕ
create_roots =
    codes "CREATE TABLE roots (number INTEGER PRIMARY KEY REFERENCES domains (number) ON DELETE CASCADE, kind INTEGER NOT NULL, id TEXT NOT NULL, pattern TEXT, earliest TEXT, latest TEXT) STRICT"

abbrev pub create_attributes : List ℕ
create_attributes =
    codes "CREATE TABLE attributes (number INTEGER NOT NULL REFERENCES domains (number) ON DELETE CASCADE, place INTEGER NOT NULL, category TEXT NOT NULL, entity TEXT NOT NULL, attribute TEXT NOT NULL, value_type INTEGER NOT NULL, value TEXT NOT NULL, PRIMARY KEY (number, place)) STRICT"

abbrev pub create_sources : List ℕ
create_sources =
    codes "CREATE TABLE sources (number INTEGER NOT NULL REFERENCES domains (number) ON DELETE CASCADE, place INTEGER NOT NULL, category TEXT NOT NULL, entity TEXT NOT NULL, attribute TEXT NOT NULL, value_type INTEGER NOT NULL, value TEXT NOT NULL, issuer TEXT, PRIMARY KEY (number, place)) STRICT"

-- the one row of meta: schema 2, and the number of the first domain
abbrev pub add_meta_row : List ℕ
add_meta_row = codes "INSERT INTO meta (id, schema_no, next_number) VALUES (1, 2, 1)"

-- ---- schema 1 is brought into schema 2

abbrev pub copy_attributes : List ℕ
copy_attributes =
    codes "INSERT INTO sources (number, place, category, entity, attribute, value_type, value, issuer) SELECT number, place, category, entity, attribute, value_type, value, NULL FROM attributes ORDER BY rowid"

abbrev pub empty_attributes : List ℕ
empty_attributes = codes "DELETE FROM attributes"

abbrev pub set_schema : List ℕ
set_schema = codes "UPDATE meta SET schema_no = 2 WHERE id = 1"

-- ---- readings

abbrev pub meta_rows : List ℕ
meta_rows = codes "SELECT id, schema_no, next_number FROM meta ORDER BY id"

abbrev pub show_next_number : List ℕ
show_next_number = codes "SELECT next_number FROM meta WHERE id = 1"

abbrev pub show_domain : List ℕ
show_domain = codes "SELECT number, epoch FROM domains WHERE name = ?1"

abbrev pub show_domain_names : List ℕ
show_domain_names = codes "SELECT name FROM domains ORDER BY name"

abbrev pub show_tokens : List ℕ
show_tokens = codes "SELECT digest, role FROM tokens WHERE number = ?1 ORDER BY digest"

abbrev pub show_role : List ℕ
show_role = codes "SELECT role FROM tokens WHERE number = ?1 AND digest = ?2"

abbrev pub show_document_kinds : List ℕ
show_document_kinds = codes "SELECT kind FROM policies WHERE number = ?1 ORDER BY kind, id, version"

abbrev pub show_documents : List ℕ
show_documents = codes "SELECT kind, id, version, active FROM policies WHERE number = ?1 ORDER BY kind, id, version"

abbrev pub show_active_documents : List ℕ
show_active_documents =
    codes "SELECT kind, id, version, body FROM policies WHERE number = ?1 AND active = 1 ORDER BY kind, id, version"

abbrev pub show_document : List ℕ
show_document = codes "SELECT body, active FROM policies WHERE number = ?1 AND kind = ?2 AND id = ?3 AND version = ?4"

abbrev pub show_root : List ℕ
show_root = codes "SELECT kind, id, pattern, earliest, latest FROM roots WHERE number = ?1"

abbrev pub show_source : List ℕ
show_source =
    codes "SELECT category, entity, attribute, value_type, value, issuer FROM sources WHERE number = ?1 ORDER BY place"

-- ---- changes

abbrev pub add_domain : List ℕ
add_domain = codes "INSERT INTO domains (number, name, epoch) VALUES (?1, ?2, 0)"

abbrev pub set_next : List ℕ
set_next = codes "UPDATE meta SET next_number = ?1 WHERE id = 1"

abbrev pub drop_domain : List ℕ
drop_domain = codes "DELETE FROM domains WHERE number = ?1"

abbrev pub set_epoch : List ℕ
set_epoch = codes "UPDATE domains SET epoch = ?2 WHERE number = ?1"

abbrev pub add_token : List ℕ
add_token = codes "INSERT INTO tokens (number, digest, role) VALUES (?1, ?2, ?3)"

abbrev pub set_role : List ℕ
set_role = codes "UPDATE tokens SET role = ?3 WHERE number = ?1 AND digest = ?2"

abbrev pub drop_token : List ℕ
drop_token = codes "DELETE FROM tokens WHERE number = ?1 AND digest = ?2"

abbrev pub add_document : List ℕ
add_document = codes "INSERT INTO policies (number, kind, id, version, body, active) VALUES (?1, ?2, ?3, ?4, ?5, 0)"

abbrev pub set_active : List ℕ
set_active = codes "UPDATE policies SET active = ?5 WHERE number = ?1 AND kind = ?2 AND id = ?3 AND version = ?4"

abbrev pub drop_document : List ℕ
drop_document = codes "DELETE FROM policies WHERE number = ?1 AND kind = ?2 AND id = ?3 AND version = ?4"

abbrev pub add_root : List ℕ
add_root = codes "INSERT INTO roots (number, kind, id, pattern, earliest, latest) VALUES (?1, ?2, ?3, ?4, ?5, ?6)"

abbrev pub drop_root : List ℕ
drop_root = codes "DELETE FROM roots WHERE number = ?1"

abbrev pub drop_source : List ℕ
drop_source = codes "DELETE FROM sources WHERE number = ?1"

abbrev pub add_source_row : List ℕ
add_source_row =
    codes "INSERT INTO sources (number, place, category, entity, attribute, value_type, value, issuer) VALUES (?1, ?2, ?3, ?4, ?5, ?6, ?7, ?8)"

-- ---- a look at the store

abbrev pub no_statement : List ℕ
no_statement = codes "look"
