-- What is read in breadth: documents, and then those for which the references in them stand.
use Rattle.std.specs.Prelude.{◌≡◌, ◌⊎◌, ℕ, ◌==◌, Bool, true, false, List, Option, Some, None}
use Rattle.std.specs.List.{list_any}
use Rattle.xa_link.specs.declared.active.Active.{Active}
use Rattle.xa_link.specs.declared.placed.Placed.{Placed}
use Rattle.xa_link.specs.placing.Placed.{placed_at}
use Rattle.xa_link.specs.placing.Progress.{Progress, is_read, some_place}

-- whether a place is the one for which a reference stands
abbrev pub stands_at : Option ℕ → ℕ → Bool
stands_at None place = false
stands_at (Some next) place = place == next

-- whether some reference in a document stands for the document at a place
abbrev pub named_by : Placed → ℕ → Bool
named_by document place = some_place (λ next. stands_at next place) document

-- whether one in some of the documents does
abbrev pub some_named_by : List Placed → ℕ → Bool
some_named_by documents place = list_any (λ document. named_by document place) documents

abbrev pub named_if : Option Placed → ℕ → Bool
named_if None place = false
named_if (Some document) place = named_by document place

-- whether one in the active document at a place stands for the document at another
abbrev pub named_at : List Active → ℕ → ℕ → Bool
named_at active from place = named_if (placed_at active from) place

-- some document that was read names the one at a place
abbrev pub IsNamed : Progress → ℕ → Type 0
IsNamed progress place =
    (from : ℕ) × (is_read progress.read from ≡ true) × (named_at progress.active from place ≡ true)

-- to a list of documents came those that were read between two moments, as far as one sees by what they name
pub record Gathers (old new : Progress) (before after : List Placed) : Type 0 where
  pub stays : (place : ℕ) → some_named_by before place ≡ true → some_named_by after place ≡ true
  pub were_read : (place : ℕ) → some_named_by after place ≡ true
      → (some_named_by before place ≡ true) ⊎ IsNamed new place
  pub all : (from place : ℕ) → is_read new.read from ≡ true → named_at new.active from place ≡ true
      → (is_read old.read from ≡ true) ⊎ (some_named_by after place ≡ true)
