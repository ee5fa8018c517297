-- How a transcript is read, a piece at a time.
use Rattle.std.specs.Prelude.{◌≡◌, ◌≤◌, ◌<◌, ⊤, ℕ, Bool, true, false, List}
use Rattle.std.specs.Prelude.{[], ◌∷◌, ◌++◌, length, codes, Option, Some, None}
use Rattle.std.specs.Io.KnownBytes.{Consumes, IsAtEnd, prepend_known}
use Rattle.pdpd.specs.declared.replay.heading.Heading.{Heading}
use Rattle.pdpd.specs.declared.replay.transcript.EntryFault.{EntryFault}
use Rattle.pdpd.specs.declared.replay.transcript.EntryFault.TheVariants.{Malformed}
use Rattle.pdpd.specs.declared.replay.transcript.Transcript.{Transcript}
use Rattle.pdpd.specs.Transcript.{IsBody, IsHeading, IsLine}

-- what is left of a transcript: what its buffer holds, and then what its reader has left, if that is known
abbrev pub remaining_of : {R : Type 0} → (R → Option (List ℕ)) → Transcript R → Option (List ℕ)
remaining_of remaining transcript = prepend_known transcript.buffer (remaining transcript.reader)

-- a fault of the reader: of none of the bytes
abbrev pub IsOfReader : EntryFault → Type 0
IsOfReader (Malformed _) = ⊥
IsOfReader _ = ⊤

-- the next byte is taken, or nothing is left
abbrev pub TakesByte : Option (List ℕ) → Option (List ℕ) → Option ℕ → Type 0
TakesByte left rest None = Consumes left rest [] × IsAtEnd rest
TakesByte left rest (Some byte) = Consumes left rest (byte ∷ [])

-- at most that many bytes are appended to others, and some if any are left
abbrev pub Adds : ℕ → Option (List ℕ) → Option (List ℕ) → List ℕ → List ℕ → Bool → Type 0
Adds most left rest old new true =
    (taken : List ℕ) × Consumes left rest taken × (new ≡ old ++ taken) × (length taken ≤ most)
    × (0 < most → 0 < length taken)
Adds most left rest old new false = Consumes left rest [] × IsAtEnd rest × (new ≡ old)

-- a line and its line feed are taken, or nothing is left
abbrev pub TakesLine : Option (List ℕ) → Option (List ℕ) → List ℕ → Bool → Type 0
TakesLine left rest line true = IsLine line × Consumes left rest (line ++ codes "\n")
TakesLine left rest line false = Consumes left rest [] × IsAtEnd rest

-- a heading is taken, or nothing is left
abbrev pub TakesHeading : Option (List ℕ) → Option (List ℕ) → Option Heading → Type 0
TakesHeading left rest (Some heading) = (text : List ℕ) × Consumes left rest text × IsHeading heading text
TakesHeading left rest None = Consumes left rest [] × IsAtEnd rest

-- that many bytes are taken
abbrev pub TakesBytes : Option (List ℕ) → Option (List ℕ) → ℕ → List ℕ → Type 0
TakesBytes left rest count bytes = Consumes left rest bytes × (length bytes ≡ count)

-- what stands after a heading is taken
abbrev pub TakesBody : Option (List ℕ) → Option (List ℕ) → ℕ → List ℕ → Type 0
TakesBody left rest count bytes = (text : List ℕ) × Consumes left rest text × IsBody count bytes text
