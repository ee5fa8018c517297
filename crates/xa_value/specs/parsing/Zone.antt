-- How a zone is read.
use Rattle.std.specs.Prelude.{ℕ, ◌+◌, ◌*◌, Bool, ◌&&◌, ◌||◌, ◌==◌, nat_le, if◌then◌else◌, List}
use Rattle.std.specs.Prelude.{codes, length, ℤ, pos, Option, Some, None, Result, Ok, Err, bytes_eq}
use Rattle.xa_value.specs.declared.read_error.ReadError.{ReadError}
use Rattle.xa_value.specs.declared.read_error.ReadError.TheVariants.{NotThisType, OutOfRange}
use Rattle.xa_value.specs.Lexical.{with_sign}
use Rattle.xa_value.specs.parsing.Lexical.{has_shape, two_digits, begins_with}

-- a plus or minus, and hours and minutes
abbrev pub is_offset_text : List ℕ → Bool
is_offset_text text = (length text == 6) && (has_shape (codes "+99:99") text || has_shape (codes "-99:99") text)

-- the offset of a plus or minus, and hours and minutes: minutes below 60, and at most 14 hours in all
unfoldable pub read_offset : List ℕ → Result (Option ℤ) ReadError
read_offset text =
    let minutes = two_digits text 1 * 60 + two_digits text 4 in
    if nat_le (two_digits text 4) 59 && nat_le minutes 840 then Ok (Some (with_sign (begins_with 45 text) minutes))
    else Err OutOfRange

-- the zone of a text
unfoldable pub read_zone : List ℕ → Result (Option ℤ) ReadError
read_zone text =
    if length text == 0 then Ok None
    else if bytes_eq text (codes "Z") then Ok (Some (pos 0))
    else if is_offset_text text then read_offset text
    else Err NotThisType
