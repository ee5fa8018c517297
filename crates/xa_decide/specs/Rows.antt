-- The body that holds the rows of a source of attributes, as it is read and as it is written. The rows stand in order.
use Rattle.std.specs.Prelude.{ℕ, List, map, Option, Some, None, Result, Ok}
use Rattle.serde_json.specs.Data.{Data, string, object, Members, no_members, member as put_member}
use Rattle.serde_json.specs.Written.{compact_text}
use Rattle.xa_value.specs.Gives.{◌>>=◌}
use Rattle.xa_value.specs.Order.{type_of}
use Rattle.xa_notation.specs.declared.member.Member.{Member}
use Rattle.xa_notation.specs.declared.member.Member.TheVariants as member
use Rattle.xa_notation.specs.declared.notation_error.NotationError.{NotationError}
use Rattle.xa_notation.specs.declared.tables.Object.TheVariants as table
use Rattle.xa_notation.specs.Json.{at, each, fits, items, json, needed_member, optional, text}
use Rattle.xa_notation.specs.Tables.{name_of}
use Rattle.xa_notation.specs.Values.{category, data_type, literal}
use Rattle.xa_profile.specs.Response.{listing, type_data, value_data}
use Rattle.xa_decide.specs.declared.source_row.SourceRow.{SourceRow}

-- ---- read

-- a row, by its members in table order
unfoldable pub row : Data → Result SourceRow NotationError
row d = do
  _ ← fits table.SourceRow d
  category ← needed_member member.Category d >>= category
  entity ← needed_member member.Entity d >>= text
  attribute_id ← needed_member member.AttributeId d >>= text
  type ← needed_member member.DataType d >>= data_type
  value ← needed_member member.Value d >>= literal type
  issuer ← optional text (at member.Issuer d)
  Ok (record { category = category; entity = entity; attribute_id = attribute_id; value = value; issuer = issuer })

-- all rows, as they are read
unfoldable pub rows : Data → Result (List SourceRow) NotationError
rows d = do
  _ ← fits table.Source d
  ds ← needed_member member.Row d >>= items
  each row ds

-- the rows of a body, or its first fault
unfoldable pub rows_of : List ℕ → Result (List SourceRow) NotationError
rows_of body = json body >>= rows

-- ---- written: the members of an object stand in the order of their names' bytes

-- a member, and those after it
abbrev pub with_member : Member → Data → Members → Members
with_member name d others = put_member (name_of name) d others

-- a text that may be left out, and those after it
abbrev pub with_text_if_any : Member → Option (List ℕ) → Members → Members
with_text_if_any name None others = others
with_text_if_any name (Some text) others = with_member name (string text) others

-- a row, with the value as responses have it
unfoldable pub row_data : SourceRow → Data
row_data r =
    object (with_member member.AttributeId (string r.attribute_id) (with_member member.Category (string r.category)
    (with_member member.DataType (type_data (type_of r.value)) (with_member member.Entity (string r.entity)
    (with_text_if_any member.Issuer r.issuer (with_member member.Value (value_data r.value) no_members))))))

-- all rows, as they are written
unfoldable pub rows_data : List SourceRow → Data
rows_data rs = object (with_member member.Row (listing (map row_data rs)) no_members)

-- the body of these rows: compact JSON
unfoldable pub rows_body : List SourceRow → List ℕ
rows_body rs = compact_text (rows_data rs)
