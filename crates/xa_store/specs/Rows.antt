-- The rows of the tables: of each a record, the row that writes it, and the record that a row writes. A row begins
-- with its rowid; if that is a column of the table, that column holds NULL.
use Rattle.std.specs.Prelude.{ℕ, zero, ℤ, pos, negsuc, Bool, true, false, List, [], ◌∷◌}
use Rattle.std.specs.Prelude.{map, drop, slice_get, slice_index_or, unwrap_or, Option, Some}
use Rattle.std.specs.Prelude.{None, is_some, option_map, option_and_then}
use Rattle.std.specs.Result.{result_ok}
use Rattle.sqlite.specs.Order.{Row, column}
use Rattle.sqlite.specs.declared.types.Value.TheVariants.{Null, Int, Text, Blob}
use Rattle.sqlite_typed.specs.Columns.{int_of, bytes_of, or_null, unless_null}
use Rattle.xa_value.specs.declared.data_type.DataType.{DataType}
use Rattle.xa_value.specs.declared.data_type.DataType.TheVariants.{String}
use Rattle.xa_value.specs.declared.value.Value.{Value}
use Rattle.xa_value.specs.declared.value.Value.TheVariants as value
use Rattle.xa_value.specs.Order.{type_of}
use Rattle.xa_value.specs.Printing.{printed}
use Rattle.xa_value.specs.Reading.{read}
use Rattle.xa_value.specs.Types.{place_of, type_at}
use Rattle.xa_policy.specs.declared.document_key.DocumentKey.{DocumentKey}
use Rattle.xa_policy.specs.declared.reference.DocumentKind.{DocumentKind}
use Rattle.xa_policy.specs.declared.reference.DocumentKind.TheVariants.{Policy, PolicySet}
use Rattle.xa_policy.specs.declared.reference.Reference.{Reference}
use Rattle.xa_policy.specs.DocumentKey.{place_of_kind}
use Rattle.xa_policy.specs.Pattern.{read_pattern, pattern_text}
use Rattle.xa_policy.specs.Version.{read_version, version_text}
use Rattle.xa_notation.specs.declared.token.Role.{Role}
use Rattle.xa_notation.specs.declared.token.Role.TheVariants.{Ask, Admin}
use Rattle.xa_decide.specs.declared.source_row.SourceRow.{SourceRow}

-- ---- what columns hold

-- a number that is never negative
abbrev pub nat_of : ℤ → ℕ
nat_of (pos n) = n
nat_of (negsuc n) = 0

abbrev pub activity_number : Bool → ℤ
activity_number false = pos 0
activity_number true = pos 1

abbrev pub flag_in : ℤ → Bool
flag_in (pos zero) = false
flag_in _ = true

abbrev pub role_number : Role → ℤ
role_number Ask = pos 0
role_number Admin = pos 1

abbrev pub role_in : ℤ → Role
role_in (pos zero) = Ask
role_in _ = Admin

abbrev pub kind_number : DocumentKind → ℤ
kind_number kind = pos (place_of_kind kind)

abbrev pub kind_in : ℤ → DocumentKind
kind_in (pos zero) = Policy
kind_in _ = PolicySet

-- a version as a text; one that doesn't read gives no numbers, as no version has, so none but the empty text is
-- written back from them
unfoldable pub version_in : List ℕ → List ℕ
version_in text = unwrap_or (result_ok (read_version text)) []

-- a data type by its place among all
abbrev pub type_number : Value → ℤ
type_number v = pos (place_of (type_of v))

abbrev pub type_in : ℤ → DataType
type_in number = unwrap_or (type_at (nat_of number)) String

-- a value as its type and its text
unfoldable pub value_text : Value → List ℕ
value_text v = printed v

unfoldable pub value_in : ℤ → List ℕ → Value
value_in number text = unwrap_or (result_ok (read (type_in number) text)) (value.String text)

-- ---- meta: the schema's number, and that of the next domain

abbrev pub meta_row_of : ℤ → ℤ → Row
meta_row_of schema next = Int (pos 1) ∷ Null ∷ Int schema ∷ Int next ∷ []

-- a keeper's schema is 2
abbrev pub meta_row : ℤ → Row
meta_row = meta_row_of (pos 2)

abbrev pub next_in : List Row → ℤ
next_in rows = int_of (column (unwrap_or (slice_get rows 0) []) 3)

-- ---- domains

pub record DomainRow : Type 0 where
  pub number : ℤ
  pub name : List ℕ
  pub epoch : ℤ

abbrev pub domain_row : DomainRow → Row
domain_row d = Int d.number ∷ Null ∷ Text d.name ∷ Int d.epoch ∷ []

abbrev pub domain_in : Row → DomainRow
domain_in row = record { number = int_of (column row 0); name = bytes_of (column row 2); epoch = int_of (column row 3) }

-- ---- tokens

pub record TokenRow : Type 0 where
  pub rowid : ℤ
  pub number : ℤ
  pub digest : List ℕ
  pub role : Role

abbrev pub token_row : TokenRow → Row
token_row t = Int t.rowid ∷ Int t.number ∷ Blob t.digest ∷ Int (role_number t.role) ∷ []

abbrev pub token_in : Row → TokenRow
token_in row =
    record {
      rowid = int_of (column row 0);
      number = int_of (column row 1);
      digest = bytes_of (column row 2);
      role = role_in (int_of (column row 3));
    }

-- ---- documents, in the table of policies

pub record DocumentRow : Type 0 where
  pub rowid : ℤ
  pub number : ℤ
  pub key : DocumentKey
  pub text : List ℕ
  pub active : Bool

abbrev pub document_row : DocumentRow → Row
document_row d =
    Int d.rowid ∷ Int d.number ∷ Int (kind_number d.key.kind) ∷ Text d.key.id ∷ Text (version_text d.key.version)
    ∷ Blob d.text ∷ Int (activity_number d.active) ∷ []

abbrev pub document_in : Row → DocumentRow
document_in row =
    record {
      rowid = int_of (column row 0);
      number = int_of (column row 1);
      key = record {
        kind = kind_in (int_of (column row 2));
        id = bytes_of (column row 3);
        version = version_in (bytes_of (column row 4));
      };
      text = bytes_of (column row 5);
      active = flag_in (int_of (column row 6));
    }

-- ---- roots. Of the pattern and the bounds of versions each text that reads will do, so the record has the texts.

pub record RootRow : Type 0 where
  pub number : ℤ
  pub kind : DocumentKind
  pub id : List ℕ
  -- the pattern, the earliest version and the latest; of a row that lacks its last columns, which read as NULL, so
  -- many fewer
  pub texts : List (Option (List ℕ))

abbrev pub root_row : RootRow → Row
root_row r = Int r.number ∷ Null ∷ Int (kind_number r.kind) ∷ Text r.id ∷ map (or_null Text) r.texts

abbrev pub root_in : Row → RootRow
root_in row = record {
  number = int_of (column row 0);
  kind = kind_in (int_of (column row 2));
  id = bytes_of (column row 3);
  texts = map (unless_null bytes_of) (drop 4 row);
}

abbrev pub text_at : List (Option (List ℕ)) → ℕ → Option (List ℕ)
text_at texts at = slice_index_or texts at None

-- the reference that a root is
unfoldable pub reference_of : RootRow → Reference
reference_of r = record {
  kind = r.kind;
  id = r.id;
  version = option_and_then (λ text. result_ok (read_pattern text)) (text_at r.texts 0);
  earliest = option_and_then (λ text. result_ok (read_version text)) (text_at r.texts 1);
  latest = option_and_then (λ text. result_ok (read_version text)) (text_at r.texts 2);
}

-- the root that a reference is
unfoldable pub root_of : ℤ → Reference → RootRow
root_of number reference =
    record {
      number = number;
      kind = reference.kind;
      id = reference.id;
      texts = option_map pattern_text reference.version ∷ option_map version_text reference.earliest
          ∷ option_map version_text reference.latest ∷ [];
    }

-- ---- rows of sources, in the table of sources, and in that of attributes in schema 1; their places count from 0 in
-- each domain

pub record PlacedRow : Type 0 where
  pub rowid : ℤ
  pub number : ℤ
  pub place : ℤ
  pub row : SourceRow
  -- the row has a column for its issuer; one of schema 1 has none, and another program may have left one without it,
  -- which reads as NULL
  pub is_full : Bool

abbrev pub issuer_columns : Bool → Option (List ℕ) → Row
issuer_columns true issuer = or_null Text issuer ∷ []
issuer_columns false issuer = []

abbrev pub placed_row : PlacedRow → Row
placed_row p =
    Int p.rowid ∷ Int p.number ∷ Int p.place ∷ Text p.row.category ∷ Text p.row.entity ∷ Text p.row.attribute_id
    ∷ Int (type_number p.row.value) ∷ Text (value_text p.row.value) ∷ issuer_columns p.is_full p.row.issuer

abbrev pub placed_row_in : Row → PlacedRow
placed_row_in row = record {
  rowid = int_of (column row 0);
  number = int_of (column row 1);
  place = int_of (column row 2);
  row = record {
    category = bytes_of (column row 3);
    entity = bytes_of (column row 4);
    attribute_id = bytes_of (column row 5);
    value = value_in (int_of (column row 6)) (bytes_of (column row 7));
    issuer = unless_null bytes_of (column row 8);
  };
  is_full = is_some (slice_get row 8);
}

-- a row of schema 1, which has no issuer
abbrev pub unissued_in : Row → PlacedRow
unissued_in row = let p : PlacedRow = placed_row_in row in record p { row = record p.row { issuer = None } }
