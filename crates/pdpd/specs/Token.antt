-- The operator's token in a file.
use Rattle.std.specs.Prelude.{◌≡◌, ℕ, ◌==◌, List, [], ◌∷◌, if◌then◌else◌, IsTrue, Option, IfSome}
use Rattle.sha2.specs.Sha256.{sha256}
use Rattle.xa_notation.specs.Tokens.{is_token}

-- a text up to its first line feed, or to its end
abbrev pub first_line : List ℕ → List ℕ
first_line [] = []
first_line (byte ∷ bytes) = if byte == 10 then [] else byte ∷ first_line bytes

-- the digest of the token in the first line of a text
abbrev pub IsOperatorOf : List ℕ → List ℕ → Type 0
IsOperatorOf operator text = (operator ≡ sha256 (first_line text)) × IsTrue (is_token (first_line text))

-- the digest of the token in the first line of a text, of which this is known
abbrev pub IsOperatorIn : Option (List ℕ) → List ℕ → Type 0
IsOperatorIn known operator = (text : List ℕ) × IsOperatorOf operator text × IfSome known (λ is. is ≡ text)
