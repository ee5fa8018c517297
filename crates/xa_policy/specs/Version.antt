-- Versions of policies and policy sets (XACML 3.0, core, section 5.12).
use Rattle.std.specs.Prelude.{ℕ, ◌<◌, ◌≤◌, Bool, not, ◌&&◌, ◌==◌, nat_le, nat_lt, IsTrue}
use Rattle.std.specs.Prelude.{if◌then◌else◌, List, length, map, decimal, Result, Ok, Err}
use Rattle.std.specs.Cmp.Lexicographic.{slice_cmp}
use Rattle.std.specs.List.{list_all, slice_split, join_with_byte}
use Rattle.std.specs.Ordering.{nat_cmp, is_lt}
use Rattle.std.specs.Str.Parse.{digits_value}
use Rattle.std.specs.declared.cmp.Ordering.{Ordering}
use Rattle.xa_value.specs.Digits.{is_number}
use Rattle.xa_policy.specs.declared.version_error.VersionError.{VersionError}
use Rattle.xa_policy.specs.declared.version_error.VersionError.TheVariants.{BadText, TooLong}

-- what stands between the dots of a text
abbrev pub parts : List ℕ → List (List ℕ)
parts text = slice_split (λ c. c == 46) text

-- at most eight parts, each of at most nine characters: this project's own limits
abbrev pub is_short : List (List ℕ) → Bool
is_short ps = nat_le (length ps) 8 && list_all (λ part. nat_le (length part) 9) ps

-- a version: numbers with dots between. The shape is judged before the limits, and digits are counted as they are
-- written.
abbrev pub read_version : List ℕ → Result (List ℕ) VersionError
read_version text =
    if not (list_all is_number (parts text)) then Err BadText
    else if not (is_short (parts text)) then Err TooLong
    else Ok (map (digits_value 10) (parts text))

-- the text of a version, without leading zeros
abbrev pub version_text : List ℕ → List ℕ
version_text numbers = join_with_byte 46 (map decimal numbers)

-- every version has one to eight numbers of at most nine digits
pub record IsVersion (numbers : List ℕ) : Type 0 where
  pub some : 0 < length numbers
  pub few : length numbers ≤ 8
  pub small : IsTrue (list_all (λ n. nat_lt n 1_000_000_000) numbers)

-- versions compare as lists of numbers, a proper prefix being less: a version is a sequence of numbers (5.12), and of
-- those that a reference matches (5.13) the most recent is meant (5.10 and 5.11)
abbrev pub compare_versions : List ℕ → List ℕ → Ordering
compare_versions = slice_cmp nat_cmp

-- the first of two versions is the earlier
abbrev pub is_before : List ℕ → List ℕ → Bool
is_before v w = is_lt (compare_versions v w)
