-- Where in a head its bytes end, while more may follow.
use Rattle.std.specs.Prelude.{◌≡◌, ℕ, ◌≤◌, List, [], ◌∷◌, ◌++◌, length, drop, take}
use Rattle.httparse.specs.Grammar.{LineEnd, Field, is_uri_byte, is_value_byte, IsToken}
use Rattle.httparse.specs.Grammar.{AllPass, print_blank, print_version, print_end}
use Rattle.httparse.specs.Pieces.{RequestStart, FieldLines}
use Rattle.xa_http.specs.declared.open_head.HeadPart.{HeadPart}
use Rattle.xa_http.specs.declared.open_head.HeadPart.TheVariants as part
use Rattle.xa_http.specs.declared.open_head.OpenHead.{OpenHead}

-- the parts of the lines before the first field line
abbrev pub RequestLine : Type 0
RequestLine = List LineEnd × (List ℕ × (List ℕ × (ℕ × LineEnd)))

-- the bytes are a whole request line, whole field lines, and a line of which that holds
abbrev pub EndsInLine : (List ℕ → Type 0) → List ℕ → Type 0
EndsInLine Line bytes =
    (t : RequestLine) × (fields : List Field) × (middle : List ℕ) × (line : List ℕ)
    × RequestStart t bytes middle × FieldLines fields middle line × Line line

-- nothing has come of the line
abbrev pub IsNothing : List ℕ → Type 0
IsNothing line = line ≡ []

-- a field's name has come, a colon, and of its value that it ends so
abbrev pub IsOpenValue : List ℕ → List ℕ → Type 0
IsOpenValue last line =
    (name : List ℕ) × (raw : List ℕ) × IsToken name × AllPass is_value_byte raw × (line ≡ name ++ 58 ∷ (raw ++ last))

-- the bytes are the beginning of a head, and end in that part of it
unfoldable pub EndsIn : HeadPart → List ℕ → Type 0
EndsIn part.Blank bytes = (ends : List LineEnd) × (bytes ≡ print_blank ends)
EndsIn part.BlankReturn bytes = (ends : List LineEnd) × (bytes ≡ print_blank ends ++ 13 ∷ [])
EndsIn part.Method bytes =
    (ends : List LineEnd) × (method : List ℕ) × IsToken method × (bytes ≡ print_blank ends ++ method)
EndsIn (part.Target start) bytes =
    (ends : List LineEnd) × (method : List ℕ) × (target : List ℕ) × IsToken method × AllPass is_uri_byte target
    × (bytes ≡ print_blank ends ++ (method ++ 32 ∷ target)) × (start ≤ length bytes) × (target ≡ drop start bytes)
EndsIn part.Line bytes = EndsInLine IsNothing bytes
EndsIn part.Name bytes = EndsInLine IsToken bytes
EndsIn part.Value bytes = EndsInLine (IsOpenValue []) bytes
EndsIn part.ValueReturn bytes = EndsInLine (IsOpenValue (13 ∷ [])) bytes

-- the rest of a request line after its target
abbrev pub IsVersionEnd : List ℕ → Type 0
IsVersionEnd bytes = (minor : ℕ) × (end : LineEnd) × (minor ≤ 1) × (bytes ≡ 32 ∷ (print_version minor ++ print_end end))

-- that many of the bytes held are the beginning of a head, and end in that part of it
abbrev pub IsOpenHead : List ℕ → OpenHead → Type 0
IsOpenHead held head = (head.len ≤ length held) × EndsIn head.part (take head.len held)
