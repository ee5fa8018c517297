-- The key of a document, by the parts of a path.
use Rattle.std.specs.Prelude.{Option, Some, None}
use Rattle.std.specs.Result.{result_ok}
use Rattle.xa_http.specs.declared.route.DocumentParts.{DocumentParts}
use Rattle.xa_policy.specs.declared.document_key.DocumentKey.{DocumentKey}
use Rattle.xa_policy.specs.DocumentKey.{kind_named}
use Rattle.xa_policy.specs.Version.{read_version}
use Rattle.xa_value.specs.Text.{text_if}

-- the second step is made with the value of the first, if the first gave one
infixl 10 ◌>>=◌
abbrev pub ◌>>=◌ : {A B : Type 0} → Option A → (A → Option B) → Option B
Some x >>= f = f x
None >>= f = None

-- the key of a document by the parts of a path: another kind, a part that is no text and a version that doesn't read
-- are no document's
unfoldable pub key_of_parts : DocumentParts → Option DocumentKey
key_of_parts parts = do
  kind ← kind_named parts.kind
  id ← text_if parts.id
  text ← text_if parts.version
  version ← result_ok (read_version text)
  Some (record { kind = kind; id = id; version = version })
