-- How far reading for a tree has come.
use Rattle.std.specs.Prelude.{◌≡◌, ℕ, zero, suc, ◌+◌, ◌<◌, Bool, true, false, ◌||◌, List, []}
use Rattle.std.specs.Prelude.{◌∷◌, length, map, Option, Some, None, slice_get, Result, Ok, Err}
use Rattle.std.specs.List.{list_any}
use Rattle.xa_shelf.specs.Allowance.{Allowance}
use Rattle.xa_link.specs.declared.active.Active.{Active}
use Rattle.xa_link.specs.declared.placed.Placed.{Placed, fold-Placed}
use Rattle.xa_link.specs.declared.placed.Placed.TheOpen.{Placed-F}
use Rattle.xa_link.specs.declared.resolved.Finding.{Finding}
use Rattle.xa_link.specs.declared.resolved.Finding.TheVariants.{NotLooked, Looked}
use Rattle.xa_link.specs.Linking.{unless_circular}
use Rattle.xa_link.specs.Reading.{bytes_at, is_at_or_below, leads_within}

-- the active documents, and which of them were read
pub record Progress : Type 0 where
  pub active : List Active
  pub read : List Bool

-- the document at a place was read; none was past the end of the marks
abbrev pub is_read : List Bool → ℕ → Bool
is_read [] place = false
is_read (first ∷ rest) zero = first
is_read (first ∷ rest) (suc place) = is_read rest place

-- whether the place was looked at
abbrev pub is_looked : Finding → Bool
is_looked NotLooked = false
is_looked (Looked found) = true

abbrev pub marks : List Finding → List Bool
marks documents = map is_looked documents

-- the length of the text at a place
abbrev pub text_length : Option Active → ℕ
text_length None = 0
text_length (Some document) = length document.text

abbrev pub length_at : List Active → ℕ → ℕ
length_at active place = text_length (slice_get active place)

-- how many bytes might be read at first: those that are left, and those that were read
abbrev pub allowed : Progress → Allowance → ℕ
allowed progress reader = reader.left + bytes_at (is_read progress.read) progress.active

-- the documents at the places that pass the test were read, each once: those that hadn't been read before
pub record Reads (wanted : ℕ → Bool) (old new : Progress) (before after : Allowance) : Type 0 where
  pub places : (place : ℕ) → is_read new.read place ≡ (is_read old.read place || wanted place)
  pub bytes : allowed new after ≡ allowed old before
  pub spent : after.is_spent ≡ before.is_spent
  pub limited : after.is_limited ≡ before.is_limited

-- if more bytes were asked for than a limit allows, there is one, and the documents at these places have more
pub record Refuses (wanted : ℕ → Bool) (old : Progress) (before after : Allowance) : Type 0 where
  pub short : before.is_spent ≡ false → after.is_spent ≡ true
      → allowed old before < bytes_at (λ place. is_read old.read place || wanted place) old.active
  pub by_limit : before.is_spent ≡ false → after.is_spent ≡ true → before.is_limited ≡ true

-- `Reads` if there is an answer, `Refuses` if there is none
abbrev pub Counted : {X E : Type 0} → Result X E → (ℕ → Bool) → Progress → Progress → Allowance → Allowance → Type 0
Counted (Ok x) wanted old new before after = Reads wanted old new before after
Counted (Err e) wanted old new before after = Refuses wanted old before after

-- whether some place in a document passes a test
abbrev pub some_place_step : (Option ℕ → Bool) → Placed-F Bool → Bool
some_place_step test (Placed-F.Policy policy) = false
some_place_step test (Placed-F.PolicySet set children) = list_any (λ passes. passes) children
some_place_step test (Placed-F.Reference place) = test place

abbrev pub some_place : (Option ℕ → Bool) → Placed → Bool
some_place test = fold-Placed Bool (some_place_step test)

-- whether the document at a place is that at the next one, or one that the references in it lead to
abbrev pub led_at : ℕ → List Active → List ℕ → ℕ → ℕ → Bool
led_at more active path next place =
    is_at_or_below (λ n inner. leads_within more active (n ∷ path) inner place) active (Some next) place

-- whether a reference that stands for the document at the next place leads to the document at a place
abbrev pub led_to_within : ℕ → List Active → List ℕ → Option ℕ → ℕ → Bool
led_to_within zero active path next place = false
led_to_within (suc more) active path next place =
    is_at_or_below (λ n inner. leads_within more active (n ∷ path) inner place) active (unless_circular path next) place

-- whether some reference in a document leads to the document at a place
abbrev pub led_from : ℕ → List Active → List ℕ → Placed → ℕ → Bool
led_from more active path document place = some_place (λ next. led_to_within more active path next place) document

-- whether some reference in one of several documents leads to the document at a place
abbrev pub led_from_all : ℕ → List Active → List ℕ → List Placed → ℕ → Bool
led_from_all more active path documents place =
    list_any (λ document. led_from more active path document place) documents
