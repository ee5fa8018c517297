-- The text of a transcript: entries, each of a line, a line feed, bytes, and a line feed.
use Rattle.std.specs.Prelude.{◌≡◌, ◌≢◌, ◌<◌, ◌≤◌, ◌⊎◌, ⊤, ℕ, List, [], ◌∷◌, ◌++◌}
use Rattle.std.specs.Prelude.{length, codes, Option, Some, None, Result, Ok, Err}
use Rattle.std.specs.Io.KnownBytes.{Consumes, IsAtEnd}
use Rattle.std.specs.List.{All}
use Rattle.pdpd.specs.declared.replay.heading.Heading.{Heading}
use Rattle.pdpd.specs.declared.replay.transcript.EntryFault.{EntryFault}
use Rattle.pdpd.specs.declared.replay.transcript.EntryFault.TheVariants.{Malformed}
use Rattle.pdpd.specs.declared.replay.transcript_fault.TranscriptFault.{TranscriptFault}
use Rattle.pdpd.specs.declared.replay.transcript_fault.TranscriptFault.TheVariants as fault
use Rattle.pdpd.specs.Heading.{heading_of}

-- no byte of the text is a line feed
abbrev pub HasNoFeed : List ℕ → Type 0
HasNoFeed text = All (λ c. c ≢ 10) text

-- a line: at most 64 bytes
abbrev pub IsLine : List ℕ → Type 0
IsLine line = HasNoFeed line × (length line ≤ 64)

-- the text of a heading: its line, and a line feed
abbrev pub IsHeading : Heading → List ℕ → Type 0
IsHeading heading text = (line : List ℕ) × IsLine line × (heading_of line ≡ Ok heading) × (text ≡ line ++ codes "\n")

-- the text after a heading: as many bytes as it counts, and a line feed
abbrev pub IsBody : ℕ → List ℕ → List ℕ → Type 0
IsBody count bytes text = (length bytes ≡ count) × (text ≡ bytes ++ codes "\n")

-- the text of an entry
abbrev pub IsEntry : Heading → List ℕ → List ℕ → Type 0
IsEntry heading bytes text =
    (first : List ℕ) × (second : List ℕ) × IsHeading heading first × IsBody heading.count bytes second
    × (text ≡ first ++ second)

-- the text, of which no more than `rest` follows, is no heading
abbrev pub IsNoHeading : TranscriptFault → List ℕ → Option (List ℕ) → Type 0
IsNoHeading fault.LongLine text rest = HasNoFeed text × (length text ≡ 65)
IsNoHeading fault.CutLine text rest = IsLine text × (text ≢ []) × IsAtEnd rest
IsNoHeading (fault.Heading wrong) text rest =
    (line : List ℕ) × IsLine line × (heading_of line ≡ Err wrong) × (text ≡ line ++ codes "\n")
IsNoHeading _ text rest = ⊥

-- the text is not `count` bytes and a line feed
abbrev pub IsNoBody : ℕ → TranscriptFault → List ℕ → Option (List ℕ) → Type 0
IsNoBody count fault.CutBytes text rest = (length text < count) × IsAtEnd rest
IsNoBody count fault.NoLineFeed text rest =
    (bytes : List ℕ) × (length bytes ≡ count)
    × (((text ≡ bytes) × IsAtEnd rest) ⊎ ((byte : ℕ) × (byte ≢ 10) × (text ≡ bytes ++ byte ∷ [])))
IsNoBody count _ text rest = ⊥

-- the text is no entry, by that fault
abbrev pub IsNoEntry : TranscriptFault → List ℕ → Option (List ℕ) → Type 0
IsNoEntry wrong text rest =
    IsNoHeading wrong text rest
    ⊎ ((heading : Heading) × (first : List ℕ) × (second : List ℕ) × IsHeading heading first
    × IsNoBody heading.count wrong second rest × (text ≡ first ++ second))

-- how often a transcript is read from, in all; one more read counts as failed
abbrev pub most_reads : ℕ
most_reads = 1_000_000_000

-- what is read, or why the transcript is malformed; nothing is said if its reader failed, or memory did
abbrev pub TakesOrRejects : {X : Type 0} → (X → Type 0) → (TranscriptFault → Type 0) → Result X EntryFault → Type 0
TakesOrRejects is wrongs (Ok x) = is x
TakesOrRejects is wrongs (Err (Malformed wrong)) = wrongs wrong
TakesOrRejects is wrongs (Err _) = ⊤

-- a text was taken that is not what is read; `left` is what is known to be left of the transcript before, and
-- `rest` afterwards
abbrev pub Rejects : (TranscriptFault → List ℕ → Option (List ℕ) → Type 0) → Option (List ℕ) → Option (List ℕ)
    → TranscriptFault → Type 0
Rejects is_no left rest wrong = (text : List ℕ) × Consumes left rest text × is_no wrong text rest

-- the text of the next entry was taken, or none is left
abbrev pub TakesEntry : Option (List ℕ) → Option (List ℕ) → List ℕ → Option Heading → Type 0
TakesEntry left rest bytes (Some heading) = (text : List ℕ) × Consumes left rest text × IsEntry heading bytes text
TakesEntry left rest bytes None = Consumes left rest [] × IsAtEnd rest
