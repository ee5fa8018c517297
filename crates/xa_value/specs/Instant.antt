-- Days and times of day as nanoseconds (XML Schema, part 2, section 3.2.7.4).
use Rattle.std.specs.Prelude.{ℤ, pos, ◌+ℤ◌, ◌*ℤ◌}
use Rattle.xa_value.specs.Calendar.{CivilDateTime, day_number}

-- nanoseconds from the midnight that began 1970, as written: by the zone's own clock
abbrev pub local_nanos : CivilDateTime → ℤ
local_nanos d = day_number d.year d.month d.day *ℤ pos 86_400_000_000_000 +ℤ pos d.nanos
