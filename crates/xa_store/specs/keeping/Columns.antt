-- What the rows of the queries tell, by the columns that they show.
use Rattle.std.specs.Prelude.{◌≡◌, ℕ, List, [], ◌∷◌, Option, Some, None, option_and_then}
use Rattle.std.specs.Result.{result_ok}
use Rattle.sqlite.specs.Order.{Row, column}
use Rattle.sqlite_typed.specs.Columns.{int_of, bytes_of, unless_null}
use Rattle.xa_policy.specs.declared.document_key.DocumentKey.{DocumentKey}
use Rattle.xa_policy.specs.declared.reference.Reference.{Reference}
use Rattle.xa_policy.specs.Pattern.{read_pattern}
use Rattle.xa_policy.specs.Version.{read_version}
use Rattle.xa_notation.specs.declared.token.Role.{Role}
use Rattle.xa_decide.specs.declared.source_row.SourceRow.{SourceRow}
use Rattle.xa_records.specs.declared.gate.Token.{Token}
use Rattle.xa_records.specs.declared.listed.Listed.{Listed}
use Rattle.xa_records.specs.declared.active_text.ActiveText.{ActiveText}
use Rattle.xa_store.specs.declared.query.document_row.FoundDocument.{FoundDocument}
use Rattle.xa_store.specs.Rows.{flag_in, kind_in, role_in, value_in, version_in}
use Rattle.xa_store.specs.keeping.ShownColumns as shown

-- what is found is what the one row tells, and nothing if there is no row
abbrev pub TellsOne : {X : Type 0} → (Row → X) → List Row → Option X → Type 0
TellsOne told [] None = Unit {0}
TellsOne told (row ∷ []) (Some x) = x ≡ told row
TellsOne told _ _ = ⊥

abbrev pub name_told : Row → List ℕ
name_told row = bytes_of (column row shown.domain_name)

abbrev pub role_told : Row → Role
role_told row = role_in (int_of (column row shown.found_role))

abbrev pub token_told : Row → Token
token_told row = record {
  digest = bytes_of (column row shown.token_digest);
  role = role_in (int_of (column row shown.token_role));
}

abbrev pub key_told : Row → DocumentKey
key_told row =
    record {
      kind = kind_in (int_of (column row shown.key_kind));
      id = bytes_of (column row shown.key_id);
      version = version_in (bytes_of (column row shown.key_version));
    }

abbrev pub listed_told : Row → Listed
listed_told row = record { key = key_told row; active = flag_in (int_of (column row shown.listed_active)) }

abbrev pub text_told : Row → ActiveText
text_told row = record { key = key_told row; text = bytes_of (column row shown.active_body) }

abbrev pub document_told : Row → FoundDocument
document_told row = record {
  text = bytes_of (column row shown.document_body);
  active = flag_in (int_of (column row shown.document_active));
}

abbrev pub root_told : Row → Reference
root_told row = record {
  kind = kind_in (int_of (column row shown.root_kind));
  id = bytes_of (column row shown.root_id);
  version = option_and_then (λ t. result_ok (read_pattern t)) (unless_null bytes_of (column row shown.root_pattern));
  earliest = option_and_then (λ t. result_ok (read_version t)) (unless_null bytes_of (column row shown.root_earliest));
  latest = option_and_then (λ t. result_ok (read_version t)) (unless_null bytes_of (column row shown.root_latest));
}

abbrev pub source_told : Row → SourceRow
source_told row = record {
  category = bytes_of (column row shown.source_category);
  entity = bytes_of (column row shown.source_entity);
  attribute_id = bytes_of (column row shown.source_attribute);
  value = value_in (int_of (column row shown.source_value_type)) (bytes_of (column row shown.source_value));
  issuer = unless_null bytes_of (column row shown.source_issuer);
}
