-- The bodies that list what is kept: compact JSON (RFC 8259), the members of an object in the order of their
-- names' bytes.
use Rattle.std.specs.Prelude.{ℕ, List, map, codes}
use Rattle.serde_json.specs.Data.{Data, boolean, string, object, no_members, member}
use Rattle.serde_json.specs.Written.{compact_text}
use Rattle.xa_policy.specs.DocumentKey.{name_of_kind}
use Rattle.xa_policy.specs.Version.{version_text}
use Rattle.xa_profile.specs.Response.{listing}
use Rattle.xa_records.specs.declared.listed.Listed.{Listed}

-- a document
unfoldable pub listed_data : Listed → Data
listed_data listed =
    object
    (member (codes "Active") (boolean listed.active)
    (member (codes "Id") (string listed.key.id)
    (member (codes "Kind") (string (name_of_kind listed.key.kind))
    (member (codes "Version") (string (version_text listed.key.version)) no_members))))

-- the body that lists documents in this order
unfoldable pub listing_body : List Listed → List ℕ
listing_body documents =
    compact_text (object (member (codes "Policy") (listing (map listed_data documents)) no_members))

-- the body that lists the names of domains in this order
unfoldable pub names_body : List (List ℕ) → List ℕ
names_body names = compact_text (object (member (codes "Domain") (listing (map string names)) no_members))
