-- What the contracts of the keeper in memory cite beside the trait's.
use Rattle.std.specs.Prelude.{◌≡◌, ℕ, Bool, List, bytes_eq, if◌then◌else◌}
use Rattle.std.specs.Prelude.{Option, Some, None, Result, Ok, Err}
use Rattle.std.specs.FinMap.{FinMap, get, insert}
use Rattle.xa_policy.specs.declared.document_key.DocumentKey.{DocumentKey}
use Rattle.xa_policy.specs.DocumentKey.{compare_keys}
use Rattle.xa_records.specs.declared.refusal.ChangeError.{ChangeError}
use Rattle.xa_records.specs.declared.refusal.ChangeError.TheVariants.{Failed, Refused}
use Rattle.xa_records.specs.declared.refusal.Failure.{Failure}
use Rattle.xa_records.specs.declared.refusal.Failure.TheVariants.{Memory, Store}
use Rattle.xa_records.specs.declared.refusal.Refusal.{Refusal}
use Rattle.xa_records.specs.declared.refusal.Refusal.TheVariants.{SameVersionOtherText}
use Rattle.xa_records.specs.declared.upload.Upload.{Upload}
use Rattle.xa_records.specs.declared.upload.Upload.TheVariants.{Same}
use Rattle.xa_value.specs.Gives.{◌>>=◌}
use Rattle.xa_records.specs.Changes.{or_absent}
use Rattle.xa_records.specs.DomainState.{DomainState, StoredDocument}
use Rattle.xa_records.specs.Kept.{DecidesAlike, Domain, IsGreatest, IsNextEpoch, IsRaised}

-- a number is raised by one, or is at its greatest
abbrev pub RaisesTo : ℕ → Result ℕ Failure → Type 0
RaisesTo number (Ok next) = IsRaised number next
RaisesTo number (Err Store) = IsGreatest number
RaisesTo number (Err Memory) = ⊥

-- the documents with a found one active or not
abbrev pub active_at : DocumentKey → Bool → FinMap compare_keys StoredDocument → Option StoredDocument
    → FinMap compare_keys StoredDocument
active_at key active documents None = documents
active_at key active documents (Some document) = insert documents key (record { text = document.text; active = active })

-- the documents with the one of that key active or not
abbrev pub with_activity : DocumentKey → Bool → FinMap compare_keys StoredDocument → FinMap compare_keys StoredDocument
with_activity key active documents = active_at key active documents (get documents key)

-- whether references may resolve to the document of that key
abbrev pub activity_at : DocumentKey → DomainState → Result Bool Refusal
activity_at key state = or_absent (get state.documents key) >>= (λ document. Ok document.active)

-- what becomes of an upload over a document of the same key
abbrev pub upload_again : StoredDocument → List ℕ → Result Upload ChangeError
upload_again document text = if bytes_eq document.text text then Ok Same else Err (Refused SameVersionOtherText)

-- the domain has gone over into that state
abbrev pub GoesOver : Domain → Domain → DomainState → Type 0
GoesOver old new state =
    (epoch : ℕ) × IsNextEpoch old.state state old.epoch epoch
    × (new ≡ record { number = old.number; epoch = epoch; state = state })

-- the change of one domain has been made, or is refused, or has failed; and then nothing has changed
abbrev pub Alters : {X : Type 0} → (DomainState → Result DomainState Refusal) → Domain → Domain
    → Result X ChangeError → Type 0
Alters change old new (Ok x) = (state : DomainState) × (change old.state ≡ Ok state) × GoesOver old new state
Alters change old new (Err (Refused e)) = (change old.state ≡ Err e) × (new ≡ old)
Alters change old new (Err (Failed failure)) = new ≡ old

-- the change of one domain is not refused, and would have to raise its epoch, which is the greatest
abbrev pub CantRaiseEpoch : (DomainState → Result DomainState Refusal) → Domain → Type 0
CantRaiseEpoch change old =
    (state : DomainState) × (change old.state ≡ Ok state) × (¬ DecidesAlike old.state state) × IsGreatest old.epoch
