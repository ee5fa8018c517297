-- Patterns of versions (XACML 3.0, core, section 5.13).
use Rattle.std.specs.Prelude.{ℕ, ◌≤◌, Bool, true, false, not, ◌&&◌, ◌||◌, if◌then◌else◌, List, [], ◌∷◌}
use Rattle.std.specs.Prelude.{codes, bytes_eq, nat_lt, IsTrue, length, map, decimal, Result, Ok, Err}
use Rattle.std.specs.List.{join_with_byte}
use Rattle.std.specs.Str.Parse.{digits_value}
use Rattle.xa_value.specs.Digits.{is_number}
use Rattle.xa_policy.specs.declared.pattern.PatternPart.{PatternPart}
use Rattle.xa_policy.specs.declared.pattern.PatternPart.TheVariants.{Number, AnyNumber, AnyNumbers}
use Rattle.xa_policy.specs.declared.version_error.VersionError.{VersionError}
use Rattle.xa_policy.specs.declared.version_error.VersionError.TheVariants.{BadText, TooLong}
use Rattle.xa_policy.specs.Version.{parts, is_short}

-- the part is `*`
abbrev pub is_star : List ℕ → Bool
is_star part = bytes_eq part (codes "*")

-- the part is `+`
abbrev pub is_plus : List ℕ → Bool
is_plus part = bytes_eq part (codes "+")

-- each part is a number or `*`, and the last may be `+`
abbrev pub is_pattern : List (List ℕ) → Bool
is_pattern [] = false
is_pattern (last ∷ []) = is_number last || is_star last || is_plus last
is_pattern (part ∷ next ∷ more) = (is_number part || is_star part) && is_pattern (next ∷ more)

-- what a part stands for
abbrev pub part_of : List ℕ → PatternPart
part_of part = if is_star part then AnyNumber else if is_plus part then AnyNumbers else Number (digits_value 10 part)

-- a pattern that a text writes, with the limits of a version, `*` and `+` counting as numbers; the shape is judged
-- before the limits
abbrev pub read_pattern : List ℕ → Result (List PatternPart) VersionError
read_pattern text =
    if not (is_pattern (parts text)) then Err BadText
    else if not (is_short (parts text)) then Err TooLong
    else Ok (map part_of (parts text))

-- a part as text
abbrev pub part_text : PatternPart → List ℕ
part_text (Number n) = decimal n
part_text AnyNumber = codes "*"
part_text AnyNumbers = codes "+"

-- the text of a pattern, without leading zeros
abbrev pub pattern_text : List PatternPart → List ℕ
pattern_text ps = join_with_byte 46 (map part_text ps)

-- a part that stands for one number, of at most nine digits
abbrev pub is_single : PatternPart → Bool
is_single (Number n) = nat_lt n 1_000_000_000
is_single AnyNumber = true
is_single AnyNumbers = false

-- parts that stand for one number each, the last of which may be `+`
abbrev pub are_parts : List PatternPart → Bool
are_parts [] = false
are_parts (AnyNumbers ∷ []) = true
are_parts (last ∷ []) = is_single last
are_parts (part ∷ next ∷ more) = is_single part && are_parts (next ∷ more)

-- every pattern has one to eight parts, of the shape of `are_parts`
pub record IsPattern (ps : List PatternPart) : Type 0 where
  pub few : length ps ≤ 8
  pub shape : IsTrue (are_parts ps)
