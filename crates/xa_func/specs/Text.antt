-- Texts, as lists of characters and as their UTF-8 bytes (XACML 3.0, core, appendices A.3.3 and A.3.9).
use Rattle.std.specs.Prelude.{ℕ, Bool, ◌&&◌, ◌||◌, nat_eq, if◌then◌else◌, List, [], ◌∷◌, length, slice_range}
use Rattle.std.specs.Prelude.{chars, encode_utf8_all, ℤ, pos, negsuc, unsigned_abs, int_le, Result, Ok, Err}
use Rattle.std.specs.Ordering.{int_eq}
use Rattle.std.specs.List.{starts_with, ends_with}
use Rattle.xa_func.specs.declared.func_id.TextPart.{TextPart}
use Rattle.xa_func.specs.declared.func_id.TextPart.TheVariants.{StartsWith, EndsWith, Contains}
use Rattle.xa_func.specs.declared.fault.FuncFault.{FuncFault}
use Rattle.xa_func.specs.declared.fault.FuncFault.TheVariants.{Position}

-- the text, or what follows one of its items, begins with the part. Items are bytes or characters
abbrev pub contains : List ℕ → List ℕ → Bool
contains [] part = starts_with nat_eq [] part
contains (c ∷ cs) part = starts_with nat_eq (c ∷ cs) part || contains cs part

-- the part stands in the text. By characters it does exactly where it does by bytes (law `is_by_characters`)
abbrev pub has_part : TextPart → List ℕ → List ℕ → Bool
has_part StartsWith text part = starts_with nat_eq text part
has_part EndsWith text part = ends_with nat_eq text part
has_part Contains text part = contains text part

-- an end of -1 is that of the text
abbrev pub end_of : ℤ → ℕ → ℤ
end_of end count = if int_eq end (negsuc 0) then pos count else end

-- 0 is at most the begin, the begin at most the end, and the end at most the number of characters
abbrev pub is_range : ℤ → ℤ → ℕ → Bool
is_range begin end count = int_le (pos 0) begin && int_le begin end && int_le end (pos count)

-- the characters from one place up to another, the end not included
unfoldable pub substring : List ℕ → ℤ → ℤ → Result (List ℕ) FuncFault
substring text begin end =
    let characters = chars text in
    let last = end_of end (length characters) in
    if is_range begin last (length characters)
    then Ok (encode_utf8_all (slice_range characters (unsigned_abs begin) (unsigned_abs last)))
    else Err Position
