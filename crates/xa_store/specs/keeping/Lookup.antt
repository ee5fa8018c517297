-- What the queries find in the tables.
use Rattle.std.specs.Prelude.{◌≡◌, ◌≤ℤ◌, ℕ, ℤ, pos, Bool, List, [], ◌∷◌, filter, Option, Some, None}
use Rattle.sqlite.specs.Order.{Row, column}
use Rattle.sqlite.specs.declared.types.Value.TheVariants.{Int}
use Rattle.xa_notation.specs.declared.token.Role.{Role}
use Rattle.xa_policy.specs.declared.document_key.DocumentKey.{DocumentKey}
use Rattle.xa_records.specs.declared.gate.Gate.{Gate}
use Rattle.xa_records.specs.declared.gate.Token.{Token}
use Rattle.xa_records.specs.declared.refusal.ChangeError.{ChangeError}
use Rattle.xa_records.specs.declared.refusal.ChangeError.TheVariants.{Failed, Refused}
use Rattle.xa_records.specs.declared.refusal.Refusal.TheVariants.{Absent}
use Rattle.xa_store.specs.declared.query.document_row.FoundDocument.{FoundDocument}
use Rattle.xa_store.specs.declared.query.domain.FoundDomain.{FoundDomain}
use Rattle.xa_store.specs.Meaning.{Rows}
use Rattle.xa_store.specs.Rows.{DomainRow, DocumentRow, nat_of}
use Rattle.xa_store.specs.keeping.ShownColumns as shown
use Rattle.xa_store.specs.keeping.Steps.{is_named, is_token, is_document}

-- the row is the one of that name
abbrev pub IsOnly : List ℕ → DomainRow → Rows → Type 0
IsOnly name d rows = filter (is_named name) rows.domains ≡ d ∷ []

-- the domain of that name: its row, and the row's number and epoch, which aren't negative
pub record IsDomain (name : List ℕ) (rows : Rows) (found : FoundDomain) : Type 0 where
  pub row : DomainRow
  pub only : IsOnly name row rows
  pub number : found.number ≡ row.number
  pub epoch : found.epoch ≡ row.epoch
  pub has_number : row.number ≡ pos (nat_of row.number)
  pub has_epoch : row.epoch ≡ pos (nat_of row.epoch)

-- the look for the domain of that name has found it, or no row has the name
abbrev pub FindsDomain : List ℕ → Rows → Option FoundDomain → Type 0
FindsDomain name rows (Some found) = IsDomain name rows found
FindsDomain name rows None = filter (is_named name) rows.domains ≡ []

-- the rows of the look for a domain tell its number and its epoch
abbrev pub TellDomain : List Row → Option FoundDomain → Type 0
TellDomain [] None = Unit {0}
TellDomain (row ∷ []) (Some found) =
    (column row shown.domain_number ≡ Int found.number) × (column row shown.domain_epoch ≡ Int found.epoch)
    × (pos 0 ≤ℤ found.number) × (pos 0 ≤ℤ found.epoch)
TellDomain _ _ = ⊥

-- the look for the one record that passes the test has found what is told of it, or none passes
abbrev pub FindsOne : {X Y : Type 0} → (X → Bool) → (X → Y) → List X → Option Y → Type 0
FindsOne {X} p tells xs (Some y) = (x : X) × (filter p xs ≡ x ∷ []) × (tells x ≡ y)
FindsOne p tells xs None = filter p xs ≡ []

-- the role of a token of the domain of that number
abbrev pub FindsRole : ℤ → List ℕ → Rows → Option Role → Type 0
FindsRole number digest rows = FindsOne (is_token number digest) (λ t. t.role) rows.tokens

abbrev pub found_of : DocumentRow → FoundDocument
found_of d = record { text = d.text; active = d.active }

-- the document of that key of the domain of that number
abbrev pub FindsDocument : ℤ → DocumentKey → Rows → Option FoundDocument → Type 0
FindsDocument number key rows = FindsOne (is_document number key) found_of rows.documents

-- the change is refused since what it is of is absent, or the look for it failed
abbrev pub TellsAbsent : Type 0 → ChangeError → Type 0
TellsAbsent is_absent (Refused e) = (e ≡ Absent) × is_absent
TellsAbsent is_absent (Failed failure) = Unit {0}

-- the gate of a domain that was found: its number and its epoch, and these tokens
abbrev pub TellsGate : FoundDomain → List Token → Gate → Type 0
TellsGate domain tokens gate =
    (n : ℕ) × (e : ℕ) × (domain.number ≡ pos n) × (domain.epoch ≡ pos e)
    × (gate ≡ record { number = n; epoch = e; tokens = tokens })

-- the number of the next domain, which isn't negative
pub record IsNext (rows : Rows) (number : ℤ) : Type 0 where
  pub same : number ≡ rows.next
  pub has_number : number ≡ pos (nat_of number)

-- the rows of the look for the next number tell it
abbrev pub TellNext : List Row → ℤ → Type 0
TellNext (row ∷ []) number = (column row shown.next_number ≡ Int number) × (pos 0 ≤ℤ number)
TellNext _ number = ⊥
