-- The steps of which changes are made: each is one statement. What each makes of the rows, and under what it is taken.
use Rattle.std.specs.Prelude.{◌≡◌, ℕ, ℤ, pos, Bool, false, true, ◌&&◌, List, [], ◌∷◌, ◌++◌, filter, fold}
use Rattle.std.specs.Ordering.{eq_by_cmp, int_eq}
use Rattle.sqlite_keyed.specs.Keyed.{insert_by, next_key}
use Rattle.sqlite_keyed.specs.Lists.{update_where, delete_where}
use Rattle.xa_value.specs.declared.value.Value.{Value}
use Rattle.xa_policy.specs.declared.document_key.DocumentKey.{DocumentKey}
use Rattle.xa_policy.specs.DocumentKey.{compare_keys}
use Rattle.xa_policy.specs.Version.{version_text}
use Rattle.xa_records.specs.DomainState.{IsDocumentOf, compare_bytes}
use Rattle.xa_store.specs.declared.step.Step.{Step}
use Rattle.xa_store.specs.declared.step.Step.TheVariants.{AddDomain, SetNext, SetEpoch, DropDomain, AddToken}
use Rattle.xa_store.specs.declared.step.Step.TheVariants.{SetRole, DropToken, AddDocument, SetActive, DropDocument}
use Rattle.xa_store.specs.declared.step.Step.TheVariants.{AddRoot, DropRoot, AddSourceRow, DropSource}
use Rattle.xa_store.specs.Meaning.{Rows}
use Rattle.xa_store.specs.Rows.{DomainRow, TokenRow, DocumentRow, PlacedRow}
use Rattle.xa_store.specs.Rows.{root_of, type_number, value_in, value_text, version_in}

-- ---- the row of a key

abbrev pub is_named : List ℕ → DomainRow → Bool
is_named name d = eq_by_cmp compare_bytes name d.name

abbrev pub is_token : ℤ → List ℕ → TokenRow → Bool
is_token number digest t = int_eq t.number number && eq_by_cmp compare_bytes digest t.digest

abbrev pub is_document : ℤ → DocumentKey → DocumentRow → Bool
is_document number key d = int_eq d.number number && eq_by_cmp compare_keys key d.key

abbrev pub is_place : ℤ → ℤ → PlacedRow → Bool
is_place number place p = int_eq p.number number && int_eq p.place place

-- ---- what a step makes of the rows

-- the domain of that number gets the epoch
abbrev pub with_epoch : ℤ → ℤ → List DomainRow → List DomainRow
with_epoch number epoch = update_where (λ d. int_eq d.number number) (λ d. record d { epoch = epoch })

-- a domain is dropped with all its rows
abbrev pub without_domain : ℤ → Rows → Rows
without_domain number rows = record {
  next = rows.next;
  domains = delete_where (λ d. int_eq d.number number) rows.domains;
  tokens = delete_where (λ t. int_eq t.number number) rows.tokens;
  documents = delete_where (λ d. int_eq d.number number) rows.documents;
  roots = delete_where (λ r. int_eq r.number number) rows.roots;
  sources = delete_where (λ p. int_eq p.number number) rows.sources;
}

-- the rows after the step: a row that is added stands last, but domains and roots stand in the order of their numbers
abbrev pub after : Step → Rows → Rows
after (AddDomain number name) rows =
    record rows {
      domains = insert_by (λ d. d.number) rows.domains (record { number = number; name = name; epoch = pos 0 });
    }
after (SetNext next) rows = record rows { next = next }
after (SetEpoch raised) rows = record rows { domains = with_epoch raised.number raised.epoch rows.domains }
after (DropDomain number) rows = without_domain number rows
after (AddToken number digest role) rows =
    record rows {
      tokens = rows.tokens
          ++ record { rowid = next_key (λ t. t.rowid) rows.tokens; number = number; digest = digest; role = role } ∷ [];
    }
after (SetRole number digest role) rows =
    record rows { tokens = update_where (is_token number digest) (λ t. record t { role = role }) rows.tokens }
after (DropToken number digest) rows = record rows { tokens = delete_where (is_token number digest) rows.tokens }
after (AddDocument number key text) rows =
    record rows {
      documents = rows.documents ++ record {
        rowid = next_key (λ d. d.rowid) rows.documents;
        number = number;
        key = key;
        text = text;
        active = false;
      }
          ∷ [];
    }
after (SetActive number key active) rows =
    record rows { documents = update_where (is_document number key) (λ d. record d { active = active }) rows.documents }
after (DropDocument number key) rows = record rows { documents = delete_where (is_document number key) rows.documents }
after (AddRoot number root) rows = record rows { roots = insert_by (λ r. r.number) rows.roots (root_of number root) }
after (DropRoot number) rows = record rows { roots = delete_where (λ r. int_eq r.number number) rows.roots }
after (AddSourceRow number place row) rows =
    record rows {
      sources = rows.sources ++ record {
        rowid = next_key (λ p. p.rowid) rows.sources;
        number = number;
        place = place;
        row = row;
        is_full = true;
      }
          ∷ [];
    }
after (DropSource number) rows = record rows { sources = delete_where (λ p. int_eq p.number number) rows.sources }

-- the rows after all the steps
abbrev pub after_all : List Step → Rows → Rows
after_all steps rows = fold (λ rows step. after step rows) rows steps

-- ---- under what a step is taken: if it adds a row, none of that key is there, and the text of a document that it
-- adds is one of its key; the version of a document's key reads back, and so does a value that it adds; a domain that
-- it drops is there. If it adds a domain or a root, it isn't asked that the number has no row yet: if it has one,
-- `after` puts the new row in its place, and the statement fails and makes nothing

-- the text of the value reads as the value
abbrev pub ReadsBack : Value → Type 0
ReadsBack v = value_in (type_number v) (value_text v) ≡ v

-- the version of the key reads back from its text
abbrev pub KeyReads : DocumentKey → Type 0
KeyReads key = version_in (version_text key.version) ≡ key.version

-- the text is a document of that key
unfoldable pub IsOfKey : DocumentKey → List ℕ → Type 0
IsOfKey key text = IsDocumentOf key text

-- the step may be taken of these rows
abbrev pub Allows : Step → Rows → Type 0
Allows (AddDomain number name) rows = filter (is_named name) rows.domains ≡ []
Allows (AddToken number digest role) rows = filter (is_token number digest) rows.tokens ≡ []
Allows (AddDocument number key text) rows =
    (filter (is_document number key) rows.documents ≡ []) × KeyReads key × IsOfKey key text
Allows (SetActive number key active) rows = KeyReads key
Allows (DropDocument number key) rows = KeyReads key
Allows (AddSourceRow number place row) rows = (filter (is_place number place) rows.sources ≡ []) × ReadsBack row.value
Allows (DropDomain number) rows = (d : DomainRow) × (filter (λ x. int_eq x.number number) rows.domains ≡ d ∷ [])
Allows _ rows = Unit {0}

-- each step may be taken after those before it
abbrev pub AllowsAll : List Step → Rows → Type 0
AllowsAll [] rows = Unit {0}
AllowsAll (step ∷ steps) rows = Allows step rows × AllowsAll steps (after step rows)
