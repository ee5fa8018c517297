-- What each change makes of a domain, or why it is refused; the first reason counts. A domain may keep 32 tokens,
-- 1,024 documents and 4,096 source rows: bounds of this project's own.
use Rattle.std.specs.Prelude.{ℕ, Bool, false, ◌||◌, nat_le, nat_lt, bytes_eq, if◌then◌else◌}
use Rattle.std.specs.Prelude.{List, length, Option, Some, None, Result, Ok, Err}
use Rattle.std.specs.FinMap.{FinMap, get, insert, remove, contains_key, len}
use Rattle.xa_value.specs.Gives.{◌>>=◌}
use Rattle.xa_policy.specs.declared.document_key.DocumentKey.{DocumentKey}
use Rattle.xa_policy.specs.declared.reference.Reference.{Reference}
use Rattle.xa_policy.specs.DocumentKey.{compare_keys}
use Rattle.xa_notation.specs.declared.token.Role.{Role}
use Rattle.xa_decide.specs.declared.source_row.SourceRow.{SourceRow}
use Rattle.xa_records.specs.declared.refusal.Refusal.{Refusal}
use Rattle.xa_records.specs.declared.refusal.Refusal.TheVariants.{Exists, Absent, Quota}
use Rattle.xa_records.specs.declared.refusal.Refusal.TheVariants.{SameVersionOtherText, StillActive}
use Rattle.xa_records.specs.declared.upload.Upload.{Upload}
use Rattle.xa_records.specs.declared.upload.Upload.TheVariants.{New, Same}
use Rattle.xa_records.specs.DomainState.{DomainState, StoredDocument, compare_bytes, new_domain}

-- what becomes of a domain that may be absent
abbrev pub Change : Type 0
Change = Option DomainState → Result (Option DomainState) Refusal

-- a domain is made
abbrev pub created : Change
created None = Ok (Some new_domain)
created (Some state) = Err Exists

-- a domain is removed with all that is in it
abbrev pub removed : Change
removed None = Err Absent
removed (Some state) = Ok None

-- a change of a domain that there has to be
abbrev pub within : (DomainState → Result DomainState Refusal) → Change
within change None = Err Absent
within change (Some state) = change state >>= (λ next. Ok (Some next))

-- ---- tokens

abbrev pub with_tokens : FinMap compare_bytes Role → DomainState → DomainState
with_tokens tokens state = record state { tokens = tokens }

-- a token is put in, or its role replaced
abbrev pub token_put : List ℕ → Role → DomainState → Result DomainState Refusal
token_put digest role state =
    if contains_key state.tokens digest || nat_lt (len state.tokens) 32
    then Ok (with_tokens (insert state.tokens digest role) state)
    else Err Quota

-- a token is taken away
abbrev pub token_dropped : List ℕ → DomainState → Result DomainState Refusal
token_dropped digest state =
    if contains_key state.tokens digest then Ok (with_tokens (remove state.tokens digest) state) else Err Absent

-- ---- documents

abbrev pub with_documents : FinMap compare_keys StoredDocument → DomainState → DomainState
with_documents documents state = record state { documents = documents }

abbrev pub with_document : DocumentKey → List ℕ → Bool → DomainState → DomainState
with_document key text active state =
    with_documents (insert state.documents key (record { text = text; active = active })) state

-- a document is uploaded, over one of the same key if there is one: the same text again changes nothing
abbrev pub uploaded_over : DocumentKey → List ℕ → DomainState → Option StoredDocument → Result DomainState Refusal
uploaded_over key text state (Some document) =
    if bytes_eq document.text text then Ok state else Err SameVersionOtherText
uploaded_over key text state None =
    if nat_lt (len state.documents) 1_024 then Ok (with_document key text false state) else Err Quota

-- a document is uploaded; it is not active yet
abbrev pub uploaded : DocumentKey → List ℕ → DomainState → Result DomainState Refusal
uploaded key text state = uploaded_over key text state (get state.documents key)

-- whether an upload puts a document in
abbrev pub upload_of : DocumentKey → Option DomainState → Upload
upload_of key None = New
upload_of key (Some state) = if contains_key state.documents key then Same else New

-- the document, which there has to be
abbrev pub or_absent : Option StoredDocument → Result StoredDocument Refusal
or_absent None = Err Absent
or_absent (Some document) = Ok document

-- references may resolve to a document from now on, or no longer
abbrev pub activity_set : DocumentKey → Bool → DomainState → Result DomainState Refusal
activity_set key active state =
    or_absent (get state.documents key) >>= (λ document. Ok (with_document key document.text active state))

-- a document that is not active is deleted
abbrev pub deleted : DocumentKey → DomainState → Result DomainState Refusal
deleted key state =
    or_absent (get state.documents key) >>= (λ document.
    if document.active then Err StillActive else Ok (with_documents (remove state.documents key) state))

-- ---- the root, and the attribute source

-- the root is another, or none
abbrev pub root_set : Option Reference → DomainState → Result DomainState Refusal
root_set root state = Ok (record state { root = root })

-- the rows of the source are these, and no others
abbrev pub source_set : List SourceRow → DomainState → Result DomainState Refusal
source_set rows state = if nat_le (length rows) 4_096 then Ok (record state { source = rows }) else Err Quota
