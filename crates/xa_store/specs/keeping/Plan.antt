-- The steps of each change.
use Rattle.std.specs.Prelude.{◌≡◌, ◌⊎◌, ◌+◌, ◌<◌, ◌≤◌, ◌^◌, ℕ, ℤ, pos, Result}
use Rattle.std.specs.Prelude.{Ok, Err, IfOk, List, [], ◌∷◌, Option, Some, None}
use Rattle.std.specs.List.{AllByRecursion}
use Rattle.sqlite.specs.Held.{Held, state}
use Rattle.sqlite.specs.State.{HasCleanDisk}
use Rattle.sqlite.specs.Store.{Ghosts}
use Rattle.sqlite_keyed.specs.Keyed.{IsKeyedBy}
use Rattle.xa_policy.specs.declared.reference.Reference.{Reference}
use Rattle.xa_decide.specs.declared.source_row.SourceRow.{SourceRow}
use Rattle.xa_policy.specs.declared.document_key.DocumentKey.{DocumentKey}
use Rattle.xa_records.specs.Changes.{Change, upload_of, uploaded, within}
use Rattle.xa_records.specs.Kept.{state_of}
use Rattle.xa_records.specs.declared.refusal.ChangeError.{ChangeError}
use Rattle.xa_records.specs.declared.refusal.Failure.{Failure}
use Rattle.xa_records.specs.declared.refusal.Failure.TheVariants.{Memory, Store}
use Rattle.xa_records.specs.declared.upload.Upload.{Upload}
use Rattle.xa_records.specs.declared.upload.Upload.TheVariants.{New, Same}
use Rattle.xa_store.specs.keeping.Lookup.{IsDomain}
use Rattle.xa_store.specs.Meaning.{Rows, kept_of, rows_now}
use Rattle.xa_store.specs.Rows.{DomainRow, root_of, reference_of}
use Rattle.xa_store.specs.keeping.Turns.{IsPlanned}
use Rattle.xa_store.specs.declared.query.domain.FoundDomain.{FoundDomain}
use Rattle.xa_store.specs.declared.step.Step.{Step}
use Rattle.xa_store.specs.declared.step.Step.TheVariants.{AddDomain, SetNext, SetEpoch, AddRoot}
use Rattle.xa_store.specs.declared.step.Step.TheVariants.{DropRoot, AddSourceRow, DropSource}
use Rattle.xa_store.specs.Sound.{AreNumbered, AreRootTexts, AreSourceTexts, IsKeepersStore}
use Rattle.xa_store.specs.keeping.Steps.{ReadsBack}

-- the steps that make a domain: it gets the number, and the next domain gets the one after it
abbrev pub create_steps : List ℕ → ℤ → ℤ → List Step
create_steps name number next = AddDomain number name ∷ SetNext next ∷ []

-- the step that gives the domain of that number this epoch
abbrev pub epoch_step : ℤ → ℤ → Step
epoch_step number epoch = SetEpoch (record { number = number; epoch = epoch })

-- the steps that give the domain of that number this root and this epoch
abbrev pub root_steps : ℤ → ℤ → Option Reference → List Step
root_steps number epoch None = DropRoot number ∷ epoch_step number epoch ∷ []
root_steps number epoch (Some root) = DropRoot number ∷ AddRoot number root ∷ epoch_step number epoch ∷ []

-- the root reads back from the texts of its row
abbrev pub RootReads : ℤ → Option Reference → Type 0
RootReads number None = Unit {0}
RootReads number (Some root) = reference_of (root_of number root) ≡ root

-- the texts of the root's row are such as read
abbrev pub HasRootTexts : ℤ → Option Reference → Type 0
HasRootTexts number None = Unit {0}
HasRootTexts number (Some root) = AreRootTexts (root_of number root)

-- the steps that add the rows, at places that count on from this
abbrev pub row_steps : ℤ → ℕ → List SourceRow → List Step
row_steps number place [] = []
row_steps number place (row ∷ rows) = AddSourceRow number (pos place) row ∷ row_steps number (place + 1) rows

-- the steps that give the domain of that number a source of these rows and this epoch
abbrev pub source_steps : ℤ → ℤ → List SourceRow → List Step
source_steps number epoch rows = DropSource number ∷ epoch_step number epoch ∷ row_steps number 0 rows

-- the steps give the domain these rows, at places that count from 0; or there is nothing to do
abbrev pub SetsSource : ℤ → List SourceRow → List Step → Type 0
SetsSource number rows steps = (steps ≡ []) ⊎ ((epoch : ℤ) × (steps ≡ source_steps number epoch rows))

-- the values of the rows read back from the texts of their columns
abbrev pub RowsRead : List SourceRow → Type 0
RowsRead [] = Unit {0}
RowsRead (row ∷ rows) = ReadsBack row.value × RowsRead rows

-- the texts of the rows are such as read
abbrev pub HaveTexts : List SourceRow → Type 0
HaveTexts = AllByRecursion AreSourceTexts

-- a number is raised by one, if a column holds that, or the store fails
abbrev pub RaisesTo : ℤ → Result ℤ Failure → Type 0
RaisesTo number (Ok next) = (old : ℕ) → number ≡ pos old → (next ≡ pos (old + 1)) × (old + 1 < 2 ^ 63)
RaisesTo number (Err Store) = (old : ℕ) → number ≡ pos old → 2 ^ 63 ≤ old + 1
RaisesTo number (Err Memory) = ⊥

abbrev pub number_key : DomainRow → ℤ
number_key d = d.number

-- the change is planned by rows in which the domain was found, and what else was found
abbrev pub PlansOver : Change → FoundDomain → (Rows → Type 0) → Result (List Step) ChangeError → Type 0
PlansOver change found Finds result =
    (name : List ℕ) → (rows : Rows) → AreNumbered rows → IsKeyedBy number_key rows.domains
    → IsDomain name rows found → Finds rows → IsPlanned change name rows result

module _ {S : Type 0} (g : Ghosts S) where
  -- the change is planned by what our tables held, in which the domain was found
  abbrev pub PlansFound : Change → FoundDomain → Held S → Held S → Result (List Step) ChangeError → Type 0
  PlansFound change found old new result =
      HasCleanDisk (state g new) → IsKeepersStore (state g old)
      → (name : List ℕ) → IsDomain name (rows_now (state g old)) found
      → IsPlanned change name (rows_now (state g old)) result

-- an upload that takes no steps has found the same text in place
abbrev pub upload_by : List Step → Upload
upload_by [] = Same
upload_by (step ∷ steps) = New

-- the plan of an upload, and which upload it is
abbrev pub IsUploadPlanned : DocumentKey → List ℕ → List ℕ → Rows → Result (List Step) ChangeError → Type 0
IsUploadPlanned key text name rows result =
    IsPlanned (within (uploaded key text)) name rows result
    × IfOk result (λ steps. upload_by steps ≡ upload_of key (state_of name (kept_of rows)))
