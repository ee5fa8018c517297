-- Zones: absent, `Z`, or an offset from UTC in hours and minutes (XML Schema, part 2, section 3.2.7.3).
use Rattle.std.specs.Prelude.{ℕ, ◌/◌, ◌%◌, ◌==◌, if◌then◌else◌, List, [], ◌++◌, codes}
use Rattle.std.specs.Prelude.{ℤ, pos, neg_ℤ, negsuc, ◌≤ℤ◌, Option, Some, None, suc}
use Rattle.xa_value.specs.Lexical.{last_digits}

-- offsets reach 14 hours to either side
abbrev pub IsOffset : ℤ → Type 0
IsOffset minutes = (neg_ℤ (pos 840) ≤ℤ minutes) × (minutes ≤ℤ pos 840)

-- hours and minutes
abbrev pub offset_text : ℕ → List ℕ
offset_text minutes = last_digits 2 (minutes / 60) ++ codes ":" ++ last_digits 2 (minutes % 60)

-- an absent zone is no text, and an offset of 0 is `Z`
abbrev pub zone_text : Option ℤ → List ℕ
zone_text None = []
zone_text (Some (pos minutes)) = if minutes == 0 then codes "Z" else codes "+" ++ offset_text minutes
zone_text (Some (negsuc minutes)) = codes "-" ++ offset_text (suc minutes)

-- an absent zone counts as UTC
abbrev pub offset_of : Option ℤ → ℤ
offset_of None = pos 0
offset_of (Some minutes) = minutes
