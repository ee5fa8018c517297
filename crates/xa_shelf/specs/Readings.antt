-- What a shelf holds: texts with their documents; which of them goes, and how the texts that are read are counted.
use Rattle.std.specs.Prelude.{◌≡◌, ℕ, ◌+◌, ◌-◌, ◌^◌, ◌⊎◌, ◌∷◌, [], min, Bool, bytes_eq}
use Rattle.std.specs.Prelude.{if◌then◌else◌, List, map, take, Ok, IsOk, string_bytes, String}
use Rattle.std.specs.List.{AllByRecursion, list_any}
use Rattle.xa_notation.specs.declared.document.Parsed.{Parsed}
use Rattle.xa_notation.specs.Document.{document_of}

-- what contracts see of a shelf: the texts whose documents it holds, the last asked for first, and how many texts
-- weren't held, and so were read
pub record Shelved : Type 0 where
  pub texts : List (List ℕ)
  pub readings : ℕ

-- what stands under a text is that text's document
abbrev pub IsDocument : {A : Type 0} → String A × Parsed → Type 0
IsDocument entry = document_of (string_bytes entry.0) ≡ Ok entry.1

-- what stands under each text is that text's document
abbrev pub AreDocuments : {A : Type 0} → List (String A × Parsed) → Type 0
AreDocuments = AllByRecursion IsDocument

-- the texts under which documents stand
abbrev pub texts_of : {A : Type 0} → List (String A × Parsed) → List (List ℕ)
texts_of entries = map (λ entry. string_bytes entry.0) entries

-- the text is one of the texts
abbrev pub is_among : List ℕ → List (List ℕ) → Bool
is_among text texts = list_any (bytes_eq text) texts

-- all texts but the first that is this one
abbrev pub without : List ℕ → List (List ℕ) → List (List ℕ)
without text [] = []
without text (other ∷ others) = if bytes_eq text other then others else other ∷ without text others

-- the texts once one was asked for: it stands first, if it is one of them
abbrev pub asked_for : List ℕ → List (List ℕ) → List (List ℕ)
asked_for text texts = if is_among text texts then text ∷ without text texts else texts

-- the number of readings with one more, as far as they can be counted
abbrev pub one_more : ℕ → ℕ
one_more readings = min (readings + 1) (2 ^ 64 - 1)

-- a text that is held is found: it now stands first, and nothing is read
abbrev pub found : List ℕ → Shelved → Shelved
found text old = record { texts = asked_for text old.texts; readings = old.readings }

-- a text that isn't held is read. It may then be held, if it is a document: it stands first, and the 129th is gone
pub record IsRead (text : List ℕ) (old new : Shelved) : Type 0 where
  pub readings : new.readings ≡ one_more old.readings
  pub texts : (new.texts ≡ old.texts) ⊎ (IsOk (document_of text) × (new.texts ≡ take 128 (text ∷ old.texts)))

-- a text of which an error was told, or want of memory: one that is held now stands first, and another was counted and
-- isn't held
abbrev pub unanswered : List ℕ → Shelved → Shelved
unanswered text old =
    if is_among text old.texts then found text old else record { texts = old.texts; readings = one_more old.readings }
